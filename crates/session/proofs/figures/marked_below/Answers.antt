-- `session::figures::marked_below` meets its contract: the marks before the piece at hand have been counted.
use mathlib.Core.Path.{◌≡◌, sym, ap, ◌∙◌}
use Prim.Native.Nat.{ℕ, ◌+◌}
use mathlib.Core.Bool.{Bool}
use mathlib.Core.List.{List}
use native.Mathlib.Omega.{arith}
use lib.ListN.{take}
use Rattle.parity.specs.Count.{count}
use Rattle.std.specs.Slice.Iter.{chunks_rest}
use Rattle.parity.proofs.Sums.{count_bound}
use Rattle.session.specs.Session.{marked}
use Rattle.session.specs.Steps.{marks_in}
use Rattle.session.proofs.Progress.{marks_joined, marks_front, marks_none}
use Rattle.session.proofs.figures.marked_below.Goals as goal
use Rattle.session.proofs.figures.marked_below.Goals.{After-marked_in}

-- what is left to count begins with the piece at hand
split : (c : After-marked_in) → marks_in (chunks_rest c.loop-part.part-iterator) ≡ c.marked_in.result + marks_in (chunks_rest c.next.new.self)
split c = ap (λ (xs : List Bool). marks_in xs) c.in-Some.ensures.steps.1.0 ∙ marks_joined c.in-Some.part.now (chunks_rest c.next.new.self)
    ∙ ap (λ (x : ℕ). x + marks_in (chunks_rest c.next.new.self)) (sym c.marked_in.ensures)

pub loop-part-init : goal.loop-part-init
loop-part-init c =
    let front : marks_in (take c.args.end c.args.taken.now) ≡ count c.args.end (marked c.args.taken.now) = marks_front c.args.taken.now c.args.end (omega arith) in
    rw (c.into_iter-part-iterator.ensures.into_iter_gives, c.chunks-part-items.ensures.rest) (c.chunks-part-items.ensures.size, omega (arith, front))

pub overflow_add-pages : goal.overflow_add-pages
overflow_add-pages c = omega (arith, c.loop-part.invariant.1, split c, count_bound c.args.end (marked c.args.taken.now), c.requires)

pub loop-part-preserved : goal.loop-part-preserved
loop-part-preserved c = (c.in-Some.ensures.steps.0 ∙ c.loop-part.invariant.0, omega (arith, c.loop-part.invariant.1, split c))

pub returns : goal.returns
returns c = omega (arith, c.loop-part.invariant.1, marks_none (chunks_rest c.loop-part.part-iterator) c.in-None.ensures.steps.1.0)
