-- `elimination::Layout::find` meets its contract.
use mathlib.Core.Path.{◌≡◌}
use mathlib.Core.Bool.{Bool, true, false}
use Prim.Native.Nat.{ℕ, ◌<◌, ◌≤◌}
use borrow.Author.Rules.{rules}
use Rattle.std.specs.Prelude.{Option, Some, None}
use Rattle.std.specs.Option.{MatchOption}
use Rattle.std.proofs.lemmas.Iterator.{first_from_Range}
use Rattle.elimination.specs.Packed.{cell_of}
use Rattle.elimination.specs.Steps.{NoneFrom, First}
use Rattle.elimination.proofs.Layout.find.Goals as goal

-- the parts by name
named : (from n : ℕ) (test : ℕ → Bool) (r : Option ℕ)
    → MatchOption r (NoneFrom from n test) (λ i. (from ≤ i) × (i < n) × (test i ≡ true) × NoneFrom from i test) → First from n test r
named from n test None h = h
named from n test (Some i) (least, inside, passes, fails) = record { least = least; inside = inside; fails = fails; passes = passes }

pub returns : goal.returns
unfolding cell_of
returns c = let has_k : ℕ → Bool = λ i. cell_of c.args.self.width c.args.scratch.now i c.args.k in
    named _ _ has_k c.find.result
    (first_from_Range _ _ _ _ (λ i. has_k i ≡ true) (λ i. has_k i ≡ false) c.find.ensures.ran (λ x q k. search rules) (λ x q k. (search rules, search rules)))
