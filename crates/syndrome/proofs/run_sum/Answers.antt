-- `syndrome::run_sum` meets its contract: a fold by XOR is the XOR of the values.
use mathlib.Core.List.{List, [], ◌∷◌}
use mathlib.Core.Path.{◌≡◌, ◌∙◌, sym, ap}
use Prim.Native.Nat.{ℕ, ◌+◌}
use native.Mathlib.Omega.{arith}
use lib.ListN.{length, take, drop, length-drop}
use lib.Seq.{length-take-le, get_or-take, get_or-drop}
use borrow.Author.Rules.{rules}
use Rattle.std.specs.List.{fold}
use Rattle.parity.specs.Xor.{◌⊕◌, xor_sum}
use Rattle.parity.specs.Lists.{at}
use Rattle.parity.proofs.Xors.{assoc, zero_l, zero_r}
use Rattle.parity.proofs.XorSums.{xs_zero, first, cong}
use Rattle.syndrome.proofs.run_sum.Goals as goal

folded : (xs : List ℕ) (a : ℕ) → fold (λ s x. s ⊕ x) a xs ≡ a ⊕ xor_sum (length xs) (at xs)
folded [] a = sym (ap (λ (k : ℕ). a ⊕ k) (xs_zero (at [])) ∙ zero_r a)
folded (x ∷ xs) a =
    folded xs (a ⊕ x) ∙ assoc a x (xor_sum (length xs) (at xs)) ∙ ap (λ (k : ℕ). a ⊕ k) (sym (first (length xs) (at (x ∷ xs))))

pub returns : goal.returns
unfolding ◌⊕◌
returns c = let v = c.args.values.now in
    let n = c.args.count in
    let ys : List ℕ = take n (drop c.args.from v) in
    let summed : c.fold.result ≡ fold (λ s x. s ⊕ x) 0 ys = search rules in
    let long : length ys ≡ n = length-take-le n (drop c.args.from v) (rw length-drop (omega arith)) in
    summed ∙ folded ys 0 ∙ zero_l (xor_sum (length ys) (at ys)) ∙ ap (λ (k : ℕ). xor_sum k (at ys)) long
    ∙ cong n (at ys) (λ i. at v (c.args.from + i)) (λ i l. get_or-take n (drop c.args.from v) i 0 l ∙ get_or-drop c.args.from v i 0)
