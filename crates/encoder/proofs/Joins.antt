-- Rows that take the next one in.
use mathlib.Core.Path.{◌≡◌, refl, sym, ap, ap₂, ◌∙◌}
use mathlib.Core.List.{List}
use mathlib.Core.Logic.{⊎_elim}
use Prim.Native.Nat.{ℕ, suc, ◌+◌, ◌*◌, ◌%◌, ◌≤◌, ◌<◌}
use native.Mathlib.Nat.{eq-or-lt_of_le, le_refl, mod-add-mod, suc-mul}
use native.Mathlib.Omega.{arith}
use Rattle.parity.specs.Xor.{◌⊕◌}
use Rattle.gtb.specs.Square.{at}
use Rattle.gtb.specs.Rows.{row_of}
use Rattle.encoder.specs.Steps.{row, Joined}
use Rattle.parity.specs.Lists.{Written}
use Rattle.encoder.proofs.Rows.{written_row, written_other}

module _ (q x k : ℕ) (w : List ℕ) where
  pub joined_none : Joined q x k k w w
  joined_none = record { size = refl; upto = λ r l c. refl; past = λ r l c. refl; step = λ r l lt. absurd (omega arith) }

  module _ (pos : 0 < q) (r : ℕ) (from : k ≤ r) (w' w'' : List ℕ) (so_far : Joined q x k r w w') (written : Written (r * q) q (λ c. at w' (r * q + c) ⊕ at w' (r * q + q + (c + x) % q)) w' w'') where
    -- the row that is written, in terms of rows
    joined_row : (c : ℕ) → row q w'' r c ≡ row q w' r c ⊕ row q w' (suc r) (c + x)
    unfolding row_of
    joined_row c =
        written_row q pos r (λ c. at w' (r * q + c) ⊕ at w' (r * q + q + (c + x) % q)) w' w'' written c
        ∙ ap (λ (j : ℕ). at w' (r * q + c % q) ⊕ at w' j) (ap₂ (λ (a b : ℕ). a + b) (sym (suc-mul r q)) (mod-add-mod c q x))

    other : (i : ℕ) → (i ≡ r → ⊥) → (c : ℕ) → row q w'' i c ≡ row q w' i c
    other = written_other q pos r (λ c. at w' (r * q + c) ⊕ at w' (r * q + q + (c + x) % q)) w' w'' written

    pub joined_more : Joined q x k (r + 1) w w''
    joined_more = record {
      size = written.size ∙ so_far.size;
      upto = λ i l c. other i (λ e. omega arith) c ∙ so_far.upto i l c;
      past = λ i l c. other i (λ e. omega arith) c ∙ so_far.past i (omega arith) c;
      step = λ i l lt c.
          ⊎_elim
          (λ (e : i ≡ r). rw e (joined_row c ∙ ap₂ (λ (a b : ℕ). a ⊕ b) (so_far.past r (le_refl r) c) (so_far.past (suc r) (omega arith) (c + x))))
          (λ (l' : i < r). other i (λ e. omega arith) c ∙ so_far.step i l l' c)
          (eq-or-lt_of_le (omega arith));
    }
