-- The interpolated word is the codeword of the symbols.
use mathlib.Core.Path.{◌≡◌, sym, ap, ap₂, ◌∙◌}
use mathlib.Core.Bool.{true}
use mathlib.Core.List.{List}
use Prim.Native.Nat.{ℕ, suc, ◌+◌, ◌-◌, ◌*◌, ◌/◌, ◌%◌, ◌^◌, ◌≤◌, ◌<◌}
use native.Mathlib.Nat.{zero-add, mod-eq_of_lt, div-add-mod'}
use native.Mathlib.Numerals.{one-add}
use native.Mathlib.Decide.{dec_lt}
use native.Mathlib.Omega.{arith}
use lib.ListN.{length}
use Rattle.parity.specs.Xor.{◌⊕◌}
use Rattle.parity.specs.Cyclic.{eval}
use Rattle.parity.proofs.Xors.{self, zero_l}
use Rattle.parity.proofs.XorSums.{cong, none}
use Rattle.parity.proofs.Newton.{lower_eval, eval_parts}
use Rattle.parity.proofs.Lists.{is_tabulate}
use Rattle.gtb.specs.declared.Shape.{Shape}
use Rattle.gtb.specs.Shape.{Lawful, word_length, info_length}
use Rattle.gtb.specs.Square.{at, narrow}
use Rattle.gtb.specs.Positions.{info_position, extract_of, Encodes}
use Rattle.gtb.proofs.Bounds.{bounds}
use Rattle.gtb.specs.Rows.{shift_of, row_of, lower_row}
use Rattle.gtb.proofs.Words.{beyond}
use Rattle.gtb.proofs.Rounds.{rows_silent}
use Rattle.gtb.proofs.Information.{position, row_lt, info_row_lt, info_column_lt}
use Rattle.encoder.specs.Steps.{row, Placed, Raised, Sound, Interpolated}
use Rattle.encoder.proofs.Divides.{sound_same}
use Rattle.encoder.proofs.Upper.{placed_sound}

module _ (s : Shape) (h : Lawful s) (symbols w w₁ w₂ : List ℕ)
    (len : length symbols ≡ info_length s) (small : narrow s.b symbols ≡ true)
    (placed : Placed s symbols w) (raised : Raised s w w₁) (inter : Interpolated s 0 w₁ w₂) where
  -- the lower rows are still those that were put down
  lower_same : (r : ℕ) → s.n ≤ suc r → (c : ℕ) → row s.q w₂ r c ≡ row s.q w r c
  lower_same r l c = inter.past r l c ∙ raised.lower r l c

  sound : (r : ℕ) → r < s.q → Sound s (row s.q w₂ r)
  sound r l =
      elim (dec_lt (suc r) s.n) [
        | yes up ↦ inter.sound r (omega arith) up
        | no down ↦ sound_same s (row s.q w r) (row s.q w₂ r) (lower_same r (omega arith)) (placed_sound s h symbols w small placed r l)
      ]

  -- ---- every syndrome is zero
  few : s.n - 1 ≤ s.q
  few = let b = bounds s h in omega arith

  -- the lower rows' part of a line
  below : List ℕ → ℕ → ℕ → ℕ
  below w = lower_eval s.q (s.n - 1) (row s.q w)

  below_same : (x c : ℕ) → below w₂ x c ≡ below w x c
  unfolding below lower_eval
  below_same x c = cong _ _ _ (λ i l. lower_same (s.n - 1 + i) (omega arith) (c + x * (s.n - 1 + i)))

  -- the upper rows put down are zero, so that the lower ones are the whole
  placed_line : (x c : ℕ) → eval s.q (row s.q w) x c ≡ below w x c
  unfolding eval below
  placed_line x c =
      eval_parts s.q (s.n - 1) few (row s.q w) x c
      ∙ ap (λ (k : ℕ). k ⊕ below w x c) (none (s.n - 1) _ (λ r l. placed.upper r (omega arith) (c + x * r))) ∙ zero_l (below w x c)

  -- the interpolated rows take that value
  upper_line : (t : ℕ) → suc t < s.n → (c : ℕ) → eval (s.n - 1) (row s.q w₂) (shift_of s t) c ≡ below w (shift_of s t) c
  unfolding eval
  upper_line t l c =
      cong (s.n - 1) _ _ (λ r lr. ap (λ (k : ℕ). row s.q w₂ k (c + shift_of s t * r)) (sym (zero-add r)))
      ∙ ap (λ (k : ℕ). eval k (λ i. row s.q w₂ (0 + i)) (shift_of s t) c) (omega arith)
      ∙ inter.value t (omega arith) l c ∙ raised.upper t l c ∙ placed_line (shift_of s t) c

  vanish : (t : ℕ) → suc t < s.n → (c : ℕ) → eval s.q (row s.q w₂) (shift_of s t) c ≡ 0
  unfolding below
  vanish t l c =
      eval_parts s.q (s.n - 1) few (row s.q w₂) (shift_of s t) c
      ∙ ap₂ (λ (a b : ℕ). a ⊕ b) (upper_line t l c) (below_same (shift_of s t) c) ∙ self (below w (shift_of s t) c)

  -- ---- every symbol is below 2^b
  size : length w₂ ≡ word_length s
  size = inter.size ∙ raised.size ∙ placed.size

  width : (j : ℕ) → at w₂ j < 2 ^ s.b
  unfolding row_of
  width = beyond s.b w₂ (λ j l. rw position at ((sound (j / s.q) (row_lt s h j (rw size at l))).width j))

  -- ---- the information symbols are those that were put down
  information : (k : ℕ) → k < info_length s → at symbols k ≡ at w₂ (info_position s k)
  unfolding info_position row_of lower_row
  information k l =
      sym
      (ap (λ (c : ℕ). at w₂ ((s.n - 1 + k / p) * s.q + c)) (one-add (k % p) ∙ sym (mod-eq_of_lt column))
      ∙ lower_same (s.n - 1 + k / p) (omega arith) (suc (k % p))
      ∙ placed.lower (k / p) (info_row_lt s h k l) (suc (k % p))
      ∙ ap (lower_row p (λ j. at symbols (k / p * p + j))) (mod-eq_of_lt column)
      ∙ ap (at symbols) (div-add-mod' k p))
    where
      p : ℕ
      p = s.q - 1

      column : suc (k % p) < s.q
      column = omega (arith, info_column_lt s h k)

  pub encodes : Encodes s symbols w₂
  unfolding extract_of
  encodes = record {
    codeword = record { word = record { size = size; width = width }; checks = rows_silent s h (at w₂) (λ r l. (sound r l).cyclic.total) vanish };
    information = sym (is_tabulate (info_length s) (λ k. at w₂ (info_position s k)) symbols len information);
  }
