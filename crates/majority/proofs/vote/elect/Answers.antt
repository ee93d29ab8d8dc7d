-- `majority::vote::elect` meets its contract.
use mathlib.Core.Path.{◌≡◌}
use mathlib.Core.Bool.{true, false}
use Prim.Native.Nat.{ℕ, ◌<◌}
use native.Mathlib.Omega.{arith}
use borrow.Author.Rules.{rules}
use Rattle.std.specs.Prelude.{take}
use Rattle.std.proofs.lemmas.List.{get_or-take}
use Rattle.gtb.specs.Square.{at}
use Rattle.majority.specs.Steps.{prevailing}
use Rattle.majority.proofs.Table.{elects, elects_none}
use Rattle.majority.proofs.vote.elect.Goals as goal

pub returns-in-Some : goal.returns-in-Some
returns-in-Some c =
    let first = take c.args.n c.args.values.now in
    let prevails = prevailing c.args.n (at c.args.values.now) in
    let inside : c.in-Some.t < c.args.n = search rules in
    let here : prevails (at first c.in-Some.t) ≡ true = search rules in
    let before : (k : ℕ) → k < c.in-Some.t → prevails (at first k) ≡ false = search rules in
    elects (at c.args.values.now) inside (λ k l. rw (get_or-take c.args.n c.args.values.now k 0 (omega (arith, l, inside))) at (before k l))
    (rw (get_or-take c.args.n c.args.values.now c.in-Some.t 0 inside) at here)

pub returns-in-None : goal.returns-in-None
returns-in-None c =
    let none : (k : ℕ) → k < c.args.n → prevailing c.args.n (at c.args.values.now) (at (take c.args.n c.args.values.now) k) ≡ false = search rules in
    elects_none (at c.args.values.now) (λ k l. rw (get_or-take c.args.n c.args.values.now k 0 l) at (none k l))
