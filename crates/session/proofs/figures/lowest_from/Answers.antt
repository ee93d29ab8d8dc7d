-- `session::figures::lowest_from` meets its contract: the first mark that is no among those from `from` on is the first of all.
use mathlib.Core.Path.{sym, ◌∙◌}
use Prim.Native.Nat.{◌-◌, ◌<◌}
use native.Mathlib.Omega.{arith}
use lib.ListN.{drop}
use Rattle.std.proofs.lemmas.List.{length-take, length-drop}
use Rattle.session.proofs.Progress.{lowest_found, mark_behind, below_found}
use Rattle.session.proofs.figures.lowest_from.Goals as goal

pub returns-in-Some : goal.returns-in-Some
returns-in-Some c =
    let (room, free, below) = c.in-Some.ensures in
    let low : c.in-Some.passed < 1024 - c.args.from = omega (arith, room, length-take (1024 - c.args.from) (drop c.args.from c.args.taken.now)) in
    lowest_found c.args.taken.now _ (omega arith) (below_found c.args.taken.now c.args.from c.in-Some.passed (omega arith) c.requires.1 below)
    (λ l. sym (mark_behind c.args.taken.now c.args.from c.in-Some.passed low) ∙ free)

pub returns-in-None : goal.returns-in-None
returns-in-None c =
    let taken = c.args.taken.now in
    let from = c.args.from in
    lowest_found taken 1024 (omega arith)
    (λ p l. below_found taken from (1024 - from) (omega arith) c.requires.1
    (λ k few. c.in-None.ensures k (omega (arith, few, length-take (1024 - from) (drop from taken), length-drop from taken))) p (omega (arith, l, c.requires.0)))
    (λ l. absurd (omega arith))
