-- `erasure::system::mark_places` meets its contract. The loop's invariant: the kept checks on the places passed have their columns.
use Rattle.erasure.proofs.Systems.{places_none, places_more}
use borrow.Author.Rules.{rules}
use Rattle.erasure.proofs.system.mark_places.Goals as goal

pub loop-k-init : goal.loop-k-init
loop-k-init c = let a = c.args in (search rules, search rules, places_none a.checks.shape a.places.now _)

pub loop-k-preserved : goal.loop-k-preserved
loop-k-preserved c = let a = c.args in
    (search rules, search rules, places_more a.checks.shape a.places.now c.loop-k.k c.loop-k.invariant.2 c.mark_place.ensures)
