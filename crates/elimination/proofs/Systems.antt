-- A row XORed onto others keeps the solutions.
use mathlib.Core.Path.{◌≡◌, refl, sym, ap, ap₂, ◌∙◌}
use mathlib.Core.Bool.{Bool, true, false, xor, ◌&&◌}
use Prim.Native.Nat.{ℕ, ◌<◌}
use Rattle.parity.specs.Xor.{◌⊕◌, when}
use Rattle.parity.proofs.Xors.{assoc, self, zero_r, lt_pow, when_lt}
use Rattle.parity.proofs.Tests.{and_no_left}
use Rattle.elimination.specs.System.{row_sum, Solves, Below}
use Rattle.elimination.specs.Steps.{Combined, Kept}
use Rattle.elimination.proofs.Sums.{when_bits, row_xor}

pub xor_none : (a : Bool) {b : Bool} → b ≡ false → xor a b ≡ a
unfolding xor
xor_none true h = ap (λ (b : Bool). xor true b) h
xor_none false h = ap (λ (b : Bool). xor false b) h

xor_twice : (a c : Bool) → xor (xor a c) c ≡ a
unfolding xor
xor_twice true true = refl
xor_twice true false = refl
xor_twice false true = refl
xor_twice false false = refl

pub when_off : {e : Bool} (a n : ℕ) → e ≡ false → a ⊕ when e n ≡ a
unfolding when
when_off a n h = ap (λ (e : Bool). a ⊕ when e n) h ∙ zero_r a

module _ {p s : ℕ} {e : ℕ → Bool} {m : ℕ → ℕ → Bool} {v : ℕ → ℕ} {m' : ℕ → ℕ → Bool} {v' : ℕ → ℕ} (c : Combined p s e m v m' v') where
  -- the sum of a row
  pub combined_row : (i : ℕ) (x : ℕ → ℕ) → row_sum p (m' i) x ≡ row_sum p (m i) x ⊕ when (e i) (row_sum p (m s) x)
  combined_row i x = row_xor p (e i) (m i) (m s) (m' i) x (c.cell i)

  -- rows that are left out stay
  pub combined_same : (i k : ℕ) → e i ≡ false → k < p → m' i k ≡ m i k
  combined_same i k f l = c.cell i k l ∙ xor_none (m i k) (and_no_left (m s k) f)

  -- a second time undoes it
  combined_back : e s ≡ false → Combined p s e m' v' m v
  combined_back f = record {
    cell = λ i k l.
        sym
        (ap₂ (λ (a b : Bool). xor a (e i && b)) (c.cell i k l) (combined_same s k f l)
        ∙ xor_twice (m i k) (e i && m s k));
    value = λ i.
        sym
        (ap₂ (λ (a b : ℕ). a ⊕ when (e i) b) (c.value i) (c.value s ∙ when_off (v s) (v s) f)
        ∙ assoc (v i) (when (e i) (v s)) (when (e i) (v s))
        ∙ ap (λ (a : ℕ). v i ⊕ a) (self (when (e i) (v s)))
        ∙ zero_r (v i));
  }

  combined_to : (r : ℕ) → s < r → (x : ℕ → ℕ) → Solves p r m v x → Solves p r m' v' x
  combined_to r ls x h = record {
    row = λ i l. combined_row i x ∙ ap₂ (λ (a b : ℕ). a ⊕ when (e i) b) (h.row i l) (h.row s ls) ∙ sym (c.value i);
  }

  combined_narrow : (r b : ℕ) → s < r → Below b r v → Below b r v'
  combined_narrow r b ls h = record {
    below = λ i l. rw (c.value i) (lt_pow b (v i) (when (e i) (v s)) (h.below i l) (when_lt b (e i) (v s) (h.below s ls)));
  }

xor_join : (a b c d : Bool) → xor (xor a (b && d)) (c && d) ≡ xor a (xor b c && d)
unfolding xor
xor_join true true true true = refl
xor_join true true true false = refl
xor_join true true false true = refl
xor_join true true false false = refl
xor_join true false true true = refl
xor_join true false true false = refl
xor_join true false false true = refl
xor_join true false false false = refl
xor_join false true true true = refl
xor_join false true true false = refl
xor_join false true false true = refl
xor_join false true false false = refl
xor_join false false true true = refl
xor_join false false true false = refl
xor_join false false false true = refl
xor_join false false false false = refl

-- the same row once more, onto others
pub combined_more : {p s : ℕ} {e e' : ℕ → Bool} (e'' : ℕ → Bool)
    {m : ℕ → ℕ → Bool} {v : ℕ → ℕ} {m' : ℕ → ℕ → Bool} {v' : ℕ → ℕ} {m'' : ℕ → ℕ → Bool} {v'' : ℕ → ℕ}
    → Combined p s e m v m' v' → Combined p s e' m' v' m'' v'' → e s ≡ false → ((i : ℕ) → e'' i ≡ xor (e i) (e' i)) → Combined p s e'' m v m'' v''
combined_more {p} {s} {e} {e'} e'' {m} {v} {m'} {v'} {m''} {v''} c d own h = record {
  cell = λ i k l.
      d.cell i k l ∙ ap₂ (λ (a b : Bool). xor a (e' i && b)) (c.cell i k l) (combined_same c s k own l)
      ∙ xor_join (m i k) (e i) (e' i) (m s k)
      ∙ ap (λ (b : Bool). xor (m i k) (b && m s k)) (sym (h i));
  value = λ i.
      d.value i ∙ ap₂ (λ (a b : ℕ). a ⊕ when (e' i) b) (c.value i) (c.value s ∙ when_off (v s) (v s) own)
      ∙ assoc (v i) (when (e i) (v s)) (when (e' i) (v s))
      ∙ ap (λ (a : ℕ). v i ⊕ a) (sym (when_bits (e i) (e' i) (v s)))
      ∙ ap (λ (b : Bool). v i ⊕ when b (v s)) (sym (h i));
}

-- the solutions are the same
pub combined_kept : {p s : ℕ} {e : ℕ → Bool} {m : ℕ → ℕ → Bool} {v : ℕ → ℕ} {m' : ℕ → ℕ → Bool} {v' : ℕ → ℕ} (r : ℕ)
    → Combined p s e m v m' v' → s < r → e s ≡ false → Kept p r m v m' v'
combined_kept r c ls f = record {
  to = combined_to c r ls;
  from = combined_to (combined_back c f) r ls;
  narrow = λ b. combined_narrow c r b ls;
}

pub kept_none : (p r : ℕ) (m : ℕ → ℕ → Bool) (v : ℕ → ℕ) → Kept p r m v m v
kept_none p r m v = record { to = λ x h. h; from = λ x h. h; narrow = λ b h. h }

pub kept_trans : {p r : ℕ} {m : ℕ → ℕ → Bool} {v : ℕ → ℕ} {m' : ℕ → ℕ → Bool} {v' : ℕ → ℕ} {m'' : ℕ → ℕ → Bool} {v'' : ℕ → ℕ}
    → Kept p r m v m' v' → Kept p r m' v' m'' v'' → Kept p r m v m'' v''
kept_trans a b = record {
  to = λ x h. b.to x (a.to x h);
  from = λ x h. a.from x (b.from x h);
  narrow = λ n h. b.narrow n (a.narrow n h);
}
