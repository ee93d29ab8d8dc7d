-- `page::status` meets its contract.
use borrow.Author.Tests.{eq-eqb, le-ltb, lt-ltb}
use mathlib.Core.Path.{◌≡◌, sym, ◌∙◌}
use mathlib.Core.List.{List, ◌∷◌}
use Prim.Native.Nat.{ℕ}
use native.Mathlib.Omega.{arith}
use lib.ListN.{length}
use Rattle.gtb.specs.declared.Refusal.{Refusal}
use Rattle.std.specs.Prelude.{Ok, Err}
use Rattle.gtb.specs.Shape.{info_length}
use Rattle.gtb.specs.Square.{narrow}
use Rattle.gtb.specs.Answer.{unless}
use Rattle.gtb.proofs.Bounds.{bounds}
use Rattle.gtb.proofs.Sizes.{sizes}
use Rattle.page.specs.Page.{write_status}
use Rattle.page.proofs.Pages.{many_marks, few_marks}
use Rattle.page.proofs.status.Goals as goal

pub is_narrow_page-requires : goal.is_narrow_page-requires
is_narrow_page-requires c = (bounds _ c.args.code.lawful).b32

pub returns-then-number-ge1024 : goal.returns-then-number-ge1024
unfolding write_status
returns-then-number-ge1024 c symbols size = rw (c.args.code.lawful, eq-eqb _ _ size, le-ltb c.args.number 1024 c.if-number-ge1024.true)

pub overflow_sub-info_length : goal.overflow_sub-info_length
overflow_sub-info_length c = omega (arith, (sizes _ c.args.code.lawful).least)

pub returns-then-info_length-marks : goal.returns-then-info_length-marks
unfolding write_status
returns-then-info_length-marks c symbols size = rw (
  c.args.code.lawful,
  eq-eqb _ _ size,
  lt-ltb c.args.number 1024 c.if-number-ge1024.false,
  many_marks c.args.code.shape (length c.args.marks.now) c.info_length.result c.info_length.ensures c.if-info_length-marks.true,
)

pub returns-then-not-are_functions : goal.returns-then-not-are_functions
unfolding write_status
returns-then-not-are_functions c symbols size = rw (
  c.args.code.lawful,
  eq-eqb _ _ size,
  lt-ltb c.args.number 1024 c.if-number-ge1024.false,
  few_marks c.args.code.shape (length c.args.marks.now) c.info_length.result c.info_length.ensures c.if-info_length-marks.false,
  sym c.are_functions.ensures ∙ c.if-not-are_functions.true,
)

pub returns-then-not-is_narrow_page : goal.returns-then-not-is_narrow_page
unfolding write_status
returns-then-not-is_narrow_page c symbols size =
    let width : (symbols : List ℕ) → length symbols ≡ info_length c.args.code.shape
    → write_status c.args.code.shape c.args.number c.args.marks.now symbols
    ≡ unless (narrow c.args.code.shape.b (c.args.number ∷ length c.args.marks.now ∷ c.args.marks.now)) (Err Refusal.Width) (Ok tt) = λ symbols. λ size. rw (
      c.args.code.lawful,
      eq-eqb _ _ size,
      lt-ltb c.args.number 1024 c.if-number-ge1024.false,
      few_marks c.args.code.shape (length c.args.marks.now) c.info_length.result c.info_length.ensures c.if-info_length-marks.false,
      sym c.are_functions.ensures ∙ c.if-not-are_functions.false,
    ) in
    rw (width symbols size, sym c.is_narrow_page.ensures ∙ c.if-not-is_narrow_page.true)

pub returns : goal.returns
unfolding write_status
returns c symbols size =
    let width : (symbols : List ℕ) → length symbols ≡ info_length c.args.code.shape
    → write_status c.args.code.shape c.args.number c.args.marks.now symbols
    ≡ unless (narrow c.args.code.shape.b (c.args.number ∷ length c.args.marks.now ∷ c.args.marks.now)) (Err Refusal.Width) (Ok tt) = λ symbols. λ size. rw (
      c.args.code.lawful,
      eq-eqb _ _ size,
      lt-ltb c.args.number 1024 c.if-number-ge1024.false,
      few_marks c.args.code.shape (length c.args.marks.now) c.info_length.result c.info_length.ensures c.if-info_length-marks.false,
      sym c.are_functions.ensures ∙ c.if-not-are_functions.false,
    ) in
    rw (width symbols size, sym c.is_narrow_page.ensures ∙ c.if-not-is_narrow_page.false)
