-- `erasure::solve` meets its contract.
use mathlib.Core.Path.{◌≡◌}
use native.Mathlib.Omega.{arith}
use lib.ListN.{length, replicate}
use borrow.Author.Rules.{rules}
use Rattle.erasure.proofs.Lists.{places_few}
use Rattle.erasure.proofs.Systems.{table_cleared, table_room, system_posed}
use Rattle.erasure.proofs.Solutions.{posed_solution}
use Rattle.erasure.proofs.solve.Goals as goal

pub mark_places-requires : goal.mark_places-requires
mark_places-requires c =
    let zeros : c.fill.new.self ≡ replicate (length c.args.scratch.now) 0 = search rules in
    (table_cleared c.args.checks.shape c.args.scratch.now (length c.args.places.now) c.args.checks.lawful (places_few c.requires.0) c.requires.1 zeros, c.requires.0.below)

pub eliminate-requires : goal.eliminate-requires
eliminate-requires c =
    let zeros : c.fill.new.self ≡ replicate (length c.args.scratch.now) 0 = search rules in
    rw c.kept_checks-rows.ensures
    (table_room c.args.checks.lawful (table_cleared c.args.checks.shape c.args.scratch.now (length c.args.places.now) c.args.checks.lawful (places_few c.requires.0) c.requires.1 zeros)
    (omega arith) c.mark_places.ensures.size c.ask.ensures.size)

pub returns : goal.returns
returns c word came computed =
    let zeros : c.fill.new.self ≡ replicate (length c.args.scratch.now) 0 = search rules in
    posed_solution c.args.checks.shape c.args.checks.lawful word c.args.places.now _ _ _ came c.requires.0
    (system_posed (length c.args.scratch.now) c.args.checks.lawful (omega arith) zeros c.mark_places.ensures computed c.ask.ensures)
    (rw c.kept_checks-rows.ensures at c.eliminate.ensures)
