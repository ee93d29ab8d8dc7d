-- `restore::search::find` meets its contract. The loop's invariant: the word is as it came.
use mathlib.Core.Path.{refl, sym, ◌∙◌}
use Prim.Native.Nat.{◌-◌, ◌*◌, ◌/◌, ◌≤◌}
use lib.ListN.{length}
use native.Mathlib.Omega.{arith}
use Rattle.restore.specs.Restore.{reach}
use Rattle.restore.proofs.Searching.{found_sooner, nothing_sooner, node_first}
use Rattle.restore.proofs.search.find.Goals as goal

pub search-found-requires : goal.search-found-requires
search-found-requires c = let p = c.requires in
    (rw c.loop-k.invariant.1 (node_first c.args.checks.lawful p.0 p.1 p.3 c.syndromes-syn.ensures refl c.hide_all.ensures c.loop-k.invariant.0), c.loop-k.invariant.2)

pub returns-then-is_some : goal.returns-then-is_some
unfolding reach
returns-then-is_some c = found_sooner _ c.loop-k.invariant.1 c.loop-k.invariant.0 c.search-found.ensures (sym c.is_some.ensures ∙ c.if-is_some.true)

pub returns-else-is_some : goal.returns-else-is_some
unfolding reach
returns-else-is_some c =
    let last : (2 * c.args.checks.shape.n - 1 - length c.args.places.now) / 2 ≤ c.loop-k.k = omega arith in
    nothing_sooner c.loop-k.invariant.1 last c.search-found.ensures (sym c.is_some.ensures ∙ c.if-is_some.false)
