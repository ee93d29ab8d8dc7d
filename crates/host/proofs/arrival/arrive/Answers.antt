-- `host::arrival::arrive` meets its contract: the tests turn down as they do in what is presented, and past them both steps are an arrival.
use mathlib.Core.Path.{◌≡◌, refl, sym, ap, ◌∙◌, subst}
use Prim.Native.Nat.{ℕ}
use native.Mathlib.Omega.{arith}
use lib.ListN.{length, replicate}
use lib.Seq.{length-take-le}
use Rattle.gtb.specs.declared.Shape.{Shape}
use Rattle.gtb.specs.Shape.{scratch_length}
use Rattle.session.specs.Session.{consistent, Consistent}
use Rattle.session.specs.Steps.{Openable}
use Rattle.session.proofs.Arrive.{tests_refused, tests_passed, decides_arrives}
use Rattle.host.specs.Crossing.{session_of}
use Rattle.host.proofs.Answers.{at_kept, at_other}
use Rattle.host.proofs.arrival.arrive.Goals as goal
use Rattle.host.proofs.arrival.arrive.Goals.{In-Ok}

pub slice_bounds-load_shape-end-2 : goal.slice_bounds-load_shape-end-2
slice_bounds-load_shape-end-2 c = sym (length-take-le 10 c.args.session.now (omega (arith, c.requires)))

pub load_shape-shape-requires : goal.load_shape-shape-requires
load_shape-shape-requires c = length-take-le 10 c.args.session.now (omega (arith, c.requires))

pub returns-in-Err : goal.returns-in-Err
unfolding consistent session_of
returns-in-Err c =
    let same : (session_of c.args.session.now).shape ≡ c.load_shape-shape.result = sym c.load_shape-shape.ensures in
    let agrees : c.agree-agree.result ≡ consistent (session_of c.args.session.now) = c.agree-agree.ensures in
    let s = c.args in
    at_kept refl (tests_refused (session_of s.session.now) same agrees s.way s.word.now s.scratch.now c.in-Err.ensures (refl, refl))

-- what the tests tell that are passed
same : (c : In-Ok) → (session_of c.args.session.now).shape ≡ c.load_shape-shape.result
unfolding session_of
same c = sym c.load_shape-shape.ensures

passed : (c : In-Ok) → let s = c.args in let σ = session_of s.session.now in Consistent σ × Openable σ.shape s.way s.word.now × (length s.scratch.now ≡ scratch_length σ.shape)
unfolding consistent session_of
passed c =
    let agrees : c.agree-agree.result ≡ consistent (session_of c.args.session.now) = c.agree-agree.ensures in
    let s = c.args in
    tests_passed (session_of s.session.now) (same c) agrees s.way s.word.now s.scratch.now c.in-Ok.ensures.0

pub take_word-outcome-requires : goal.take_word-outcome-requires
take_word-outcome-requires c =
    let s = (goal.at.take_word-outcome-requires c).In-Ok in
    let (right, fits, room) = passed s in
    let openable : Openable c.load_shape-shape.result c.args.way c.args.word.now = subst (λ (x : Shape). Openable x c.args.way c.args.word.now) (same s) fits in
    (record { size = c.requires; shape = same s; consistent = right; openable = rw c.in-Ok.ensures.1 openable }, room ∙ ap (λ (x : Shape). scratch_length x) (same s))

pub returns : goal.returns
returns c =
    let (right, fits, room) = passed (goal.at.returns c).In-Ok in
    at_other c.take_word-outcome.ensures (λ a decides _. decides_arrives _ c.args.scratch.now right fits room (c.fill.ensures.after (λ y h. h) ∙ ap (λ (k : ℕ). replicate k 0) c.take_word-outcome.auto.scratch) (rw c.in-Ok.ensures.1 at decides))
