-- `host::pages::shaftglimmer_marks` meets its contract: the marks fit the list, and so does their number.
use mathlib.Core.Path.{refl, ap}
use mathlib.Core.Logic.{inl, inr}
use Prim.Native.Nat.{◌≤◌}
use native.Mathlib.Omega.{arith}
use lib.ListN.{length}
use Rattle.page.specs.Page.{marks_of}
use Rattle.page.proofs.Pages.{marks_few}
use Rattle.host.proofs.Paper.{marks_in_lem}
use Rattle.host.proofs.pages.shaftglimmer_marks.Goals as goal

pub returns-then-marks-data : goal.returns-then-marks-data
returns-then-marks-data c = inl (c.if-marks-data.true, (c.refused.ensures, refl))

pub copy-requires : goal.copy-requires
copy-requires c =
    let few : let s = c.load_shape.result in let symbols = c.args.«data».now in
    (length (marks_of s symbols) ≤ length symbols) × (length (marks_of s symbols) ≤ 898) = marks_few c.load_shape.result c.args.«data».now in
    omega (arith, ap length c.marks-part.ensures.part.marks, few.0, c.if-marks-data.false)

pub overflow_cast-result : goal.overflow_cast-result
overflow_cast-result c =
    let few : let s = c.load_shape.result in let symbols = c.args.«data».now in
    (length (marks_of s symbols) ≤ length symbols) × (length (marks_of s symbols) ≤ 898) = marks_few c.load_shape.result c.args.«data».now in
    record { fits = omega (arith, ap length c.marks-part.ensures.part.marks, few.1) }

pub returns : goal.returns
returns c = inr (
  (λ other. other c.if-marks-data.false),
  (_, marks_in_lem _ c.load_shape.ensures c.args.«data».now _ c.marks-part.ensures.paper, refl, c.copy.ensures),
)
