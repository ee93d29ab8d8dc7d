-- No damage: zeros, of which every way of reading undoes none.
use mathlib.Core.Path.{◌≡◌, refl, sym, ap, ◌∙◌}
use mathlib.Core.List.{List}
use Prim.Native.Nat.{ℕ}
use lib.ListN.{length, replicate, length-replicate}
use lib.Pow.{pow_pos}
use borrow.Author.Tests.{eq-eqb}
use Rattle.parity.specs.Xor.{◌⊕◌}
use Rattle.parity.proofs.Xors.{zero_r}
use Rattle.parity.proofs.Lists.{at_zeros, is_tabulate}
use Rattle.parity.proofs.Tests.{not_of_true}
use Rattle.parity.proofs.Sums.{count_none}
use Rattle.gtb.specs.declared.Shape.{Shape}
use Rattle.gtb.specs.Shape.{word_length}
use Rattle.gtb.specs.Square.{at, Word}
use Rattle.correction.specs.Error.{weight, damaged}
use Rattle.decoder.specs.Damage.{Unmasked}

-- a zero at each place
abbrev pub no_damage : Shape → List ℕ
no_damage s = replicate (word_length s) 0

pub no_damage_word : (s : Shape) → Word s (no_damage s)
no_damage_word s = record { size = length-replicate (word_length s) 0; width = λ j. rw (at_zeros (word_length s) j) (pow_pos s.b) }

-- it is clean
pub no_damage_clean : (s : Shape) → Unmasked s (at (no_damage s))
no_damage_clean s = record { unmasked = λ t j lt lj some quiet. some (at_zeros (word_length s) j) }

-- it changes no digit
pub no_damage_weight : (s : Shape) → weight s (at (no_damage s)) ≡ 0
unfolding weight
no_damage_weight s = count_none (word_length s) _ (λ j l. not_of_true (eq-eqb (at (no_damage s) j) 0 (at_zeros (word_length s) j)))

-- and leaves a word as it is
pub no_damage_same : (s : Shape) (v : List ℕ) → v ≡ damaged v (no_damage s)
unfolding damaged
no_damage_same s v =
    is_tabulate (length v) (λ j. at v j ⊕ at (no_damage s) j) v refl
    (λ j l. sym (ap (λ (x : ℕ). at v j ⊕ x) (at_zeros (word_length s) j) ∙ zero_r (at v j)))
