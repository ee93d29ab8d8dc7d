-- `erasure::list::is_rising` meets its contract. The loop's invariant: the places passed fit, and `next` is the least number above them.
use mathlib.Core.Path.{sym, ◌∙◌}
use native.Mathlib.Nat.{le_antisymm}
use native.Mathlib.Omega.{arith}
use lib.ListN.{length}
use Rattle.parity.proofs.Tests.{all_zero, all_more, all_no, and_both}
use Rattle.erasure.specs.Fill.{rising}
use Rattle.erasure.specs.Steps.{fits}
use Rattle.erasure.proofs.Lists.{above_none, above_more, fits_not_above, fits_not_below, fits_both}
use borrow.Author.Rules.{rules}
use Rattle.erasure.proofs.list.is_rising.Goals.{then-j-next-via-then-j-next, then-j-next-via-else-j-next+then-size-j}
use Rattle.erasure.proofs.list.is_rising.Goals as goal

pub loop-place-init : goal.loop-place-init
loop-place-init c = (search rules, search rules, all_zero _, above_none _)

pub returns-then-j-next : goal.returns-then-j-next
unfolding rising
returns-then-j-next c = let a = c.args in
    sym (all_no (length a.places.now) (fits a.size a.places.now) c.loop-place.place-index (omega arith)
    (elim c.then-j-next.branch [
      | then-j-next-via-then-j-next w ↦ fits_not_above a.size c.loop-place.invariant.3 w.if-j-next.true
      | then-j-next-via-else-j-next+then-size-j w ↦ fits_not_below a.size a.places.now c.loop-place.place-index (omega (arith, w.if-size-j.true))
    ]))

pub loop-place-preserved : goal.loop-place-preserved
loop-place-preserved c = let up = c.if-j-next.false in (
  search rules,
  search rules,
  all_more c.loop-place.place-index _ ∙ and_both c.loop-place.invariant.2 (fits_both c.loop-place.invariant.3 up (omega arith)),
  above_more c.loop-place.invariant.3 up,
)

pub returns : goal.returns
unfolding rising
returns c = sym (rw (le_antisymm c.loop-place.invariant.1 (search rules)) at c.loop-place.invariant.2)
