-- `double::attempt::find` meets its contract.
use borrow.Author.Rules.{rules}
use Rattle.std.specs.Option.{MatchOption}
use Rattle.std.specs.Prelude.{Some}
use mathlib.Core.Path.{◌≡◌}
use Rattle.double.specs.Steps.{Attempted}
use Rattle.double.proofs.Finding.{found_first}
use Rattle.double.proofs.attempt.find.Goals as goal

pub returns : goal.returns
returns c =
    let s = c.args.checks.shape in
    let syn = c.args.syn.now in
    let second : MatchOption c.attempt.result (Attempted s syn 0 2 c.or_else.result) (λ p. c.or_else.result ≡ Some p) = search rules in
    let third : MatchOption c.or_else.result (Attempted s syn 1 2 c.or_else-2.result) (λ p. c.or_else-2.result ≡ Some p) = search rules in
    found_first s syn c.args.checks.lawful c.requires _ _ c.or_else-2.result c.attempt.ensures second third
