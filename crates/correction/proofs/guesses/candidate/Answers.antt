-- `correction::guesses::candidate` meets its contract.
use mathlib.Core.Path.{◌≡◌}
use mathlib.Core.Bool.{false}
use Prim.Native.Nat.{ℕ, ◌<◌}
use native.Mathlib.Omega.{arith}
use lib.Dec.{eqb}
use Rattle.std.proofs.lemmas.List.{get_or-take, length-take-le}
use Rattle.gtb.specs.Square.{at}
use Rattle.correction.proofs.Showing.{shows_some, shows_none}
use Rattle.correction.proofs.Guessing.{silent_guess, later_guess, rare_guess, guess_is}
use Rattle.correction.proofs.guesses.candidate.Goals as goal

pub returns-then-value-eq0 : goal.returns-then-value-eq0
returns-then-value-eq0 c = silent_guess _ _ _ _ c.if-value-eq0.true

pub returns-then-contains : goal.returns-then-contains
returns-then-contains c =
    let (x, inside, same) = c.if-contains.ensures.cases in
    let before : x < c.args.t = omega (arith, inside, length-take-le c.args.t c.args.values.now (omega (arith, c.requires, c.told-values))) in
    later_guess _ _ _ _ (shows_some c.args.t (at c.args.values.now) (at c.args.values.now c.args.t) x before (rw (get_or-take c.args.t c.args.values.now x 0 before) at (same 0)))

pub returns-then-shown-least : goal.returns-then-shown-least
returns-then-shown-least c = rare_guess _ _ _ _ (rw c.shown.ensures at c.if-shown-least.true)

pub returns : goal.returns
returns c =
    let size = length-take-le c.args.t c.args.values.now (omega (arith, c.requires, c.told-values)) in
    let other : (x : ℕ) → x < c.args.t → eqb (at c.args.values.now x) (at c.args.values.now c.args.t) ≡ false = λ x l.
    rw (get_or-take c.args.t c.args.values.now x 0 l) at (c.if-contains.ensures.cases x 0 (omega arith) (omega (arith, size, l))) in
    guess_is _ _ _ _ c.if-value-eq0.false (shows_none c.args.t (at c.args.values.now) _ other) (rw c.shown.ensures at c.if-shown-least.false)
