-- The spelling of values, taken apart from the left.
use mathlib.Core.Path.{◌≡◌, refl, sym, ap, ◌∙◌, subst}
use mathlib.Core.List.{List, [], ◌∷◌, ◌++◌, append-nil, append_assoc, append_cancel_left, head-eq_of_cons-eq, tail-eq_of_cons-eq}
use Prim.Native.Nat.{ℕ, zero, suc, ◌^◌, ◌≤◌, ◌<◌, suc-le-suc}
use native.Mathlib.Nat.{not-suc-le-zero, zero-lt-suc, le_of_suc-le-suc}
use native.Mathlib.Omega.{arith}
use lib.ListN.{length, get_or, get_or-append}
use Rattle.lines.specs.Text.{space, decimal, spell, Spells}
use Rattle.lines.specs.Scan.{Stops}
use Rattle.lines.proofs.Decimals.{
  IsDigit,
  AllDigits,
  decimal_one,
  decimal_digits,
  decimal_injective,
  decimal_prefix,
  decimal_some,
  no_leading_zero,
}

-- the first of a text of digits is one
head_digit : (l r : List ℕ) → 0 < length l → AllDigits l → IsDigit (get_or (l ++ r) 0 0)
head_digit [] r p h = absurd (not-suc-le-zero p)
head_digit (b ∷ l) r p h = h.0

-- two texts are equal, the second a run of digits and then no digit: digits that begin the first begin that run
front : (a r b s : List ℕ) → AllDigits a → Stops s → a ++ r ≡ b ++ s → (t : List ℕ) × (b ≡ a ++ t) × (r ≡ t ++ s)
front [] r b s da st e = (b, refl, e)
front (x ∷ a) r [] s da st e =
    let q : x ≡ get_or s 0 0 = ap (λ (l : List ℕ). get_or l 0 0) e in
    absurd (st.ends (rw q at da.0.low) (rw q at da.0.high))
front (x ∷ a) r (y ∷ b) s da st e =
    let m = front a r b s da.1 st (tail-eq_of_cons-eq e) in
    let h : y ≡ x = sym (head-eq_of_cons-eq e) in
    (m.0, (λ i. h i ∷ m.1 i), m.2)

all_right : (a t : List ℕ) → AllDigits (a ++ t) → AllDigits t
all_right [] t h = h
all_right (x ∷ a) t h = all_right a t h.1

-- a run of digits that another text could end with is empty
no_digits : (t s r : List ℕ) → AllDigits t → Stops r → r ≡ t ++ s → t ≡ []
no_digits [] s r h st e = refl
no_digits (x ∷ t) s r h st e =
    let q : get_or r 0 0 ≡ x = ap (λ (l : List ℕ). get_or l 0 0) e in
    absurd (st.ends (rw q h.0.low) (rw q h.0.high))

-- the value that a text begins with is the only one
same_front : (v x : ℕ) (r s : List ℕ) → Stops r → Stops s → decimal v ++ r ≡ decimal x ++ s → (v ≡ x) × (r ≡ s)
same_front v x r s sr ss e =
    let m = front (decimal v) r (decimal x) s (decimal_digits v) ss e in
    let t : List ℕ = m.0 in
    let none : t ≡ [] = no_digits t s r (all_right (decimal v) t (subst AllDigits m.1 (decimal_digits x))) sr m.2 in
    let same : decimal x ≡ decimal v = m.1 ∙ ap (λ (l : List ℕ). decimal v ++ l) none ∙ append-nil (decimal v) in
    (sym (decimal_injective x v same), m.2 ∙ ap (λ (l : List ℕ). l ++ s) none)

-- ---- texts that begin with no value below 2^32
pub no_digit : (text : List ℕ) → Stops text → (v : ℕ) (s : List ℕ) → text ≡ decimal v ++ s → ⊥
no_digit text st v s e =
    let d = head_digit (decimal v) s (decimal_some v) (decimal_digits v) in
    st.ends (rw e d.low) (rw e d.high)

pub leading_zero : (r : List ℕ) → IsDigit (get_or r 0 0) → (v : ℕ) (s : List ℕ) → Stops s → decimal 0 ++ r ≡ decimal v ++ s → ⊥
leading_zero r d v s st e =
    let zero-first : get_or (decimal 0 ++ r) 0 0 ≡ 48 = rw (decimal_one 0 (omega arith)) in
    let same : get_or (decimal v) 0 0 ≡ get_or (decimal 0 ++ r) 0 0 = rw (e, get_or-append (decimal v) s 0 0 (decimal_some v)) in
    let q : r ≡ s = append_cancel_left (decimal 0) r s (e ∙ ap (λ (n : ℕ). decimal n ++ s) (no_leading_zero v (same ∙ zero-first))) in
    st.ends (rw q at d.low) (rw q at d.high)

pub too_large : (w : ℕ) (r : List ℕ) → 2 ^ 32 ≤ w → (v : ℕ) (s : List ℕ) → v < 2 ^ 32 → Stops s → decimal w ++ r ≡ decimal v ++ s → ⊥
too_large w r big v s small st e =
    let m = front (decimal w) r (decimal v) s (decimal_digits w) st e in
    omega (arith, decimal_prefix w v m.0 m.1)

-- ---- the first value and what follows it
after : List ℕ → List ℕ
after [] = []
after (y ∷ ys) = space ∷ spell (y ∷ ys)

spell_cons : (x : ℕ) (xs : List ℕ) → spell (x ∷ xs) ≡ decimal x ++ after xs
unfolding spell after
spell_cons x [] = sym (append-nil (decimal x))
spell_cons x (y ∷ ys) = refl

after_stops : (xs : List ℕ) → Stops (after xs)
unfolding after
after_stops [] = omega arith
after_stops (y ∷ ys) = omega arith

after_first : (ys : List ℕ) (b : ℕ) (more : List ℕ) → b ∷ more ≡ after ys → b ≡ space
unfolding after
after_first [] b more e = let z : ◌≡◌ {A = ℕ} 0 1 = cc in absurd (omega arith)
after_first (y ∷ ys) b more e = head-eq_of_cons-eq e

-- a text that spells values begins with a value below 2^32, and no digit follows it
record Begins (text values : List ℕ) : Type 0 where
  first : ℕ
  others : List ℕ
  small : first < 2 ^ 32
  others_small : (i : ℕ) → i < length others → get_or others i 0 < 2 ^ 32
  cut : text ≡ decimal first ++ after others

begins : (text values : List ℕ) → Spells text values → Begins text values
begins text [] h = absurd (not-suc-le-zero h.some)
begins text (x ∷ xs) h =
    record {
      first = x;
      others = xs;
      small = h.small 0 (zero-lt-suc (length xs));
      others_small = λ i l. h.small (suc i) (suc-le-suc l);
      cut = h.text ∙ spell_cons x xs;
    }

-- ---- a line read from the left: `done` has been read, `rest` is left
pub record Left (line done rest : List ℕ) : Type 0 where
  pub joined : (xs : List ℕ) → Spells rest xs → Spells line (done ++ xs)
  pub parted : (zs : List ℕ) → Spells line zs → (xs : List ℕ) × Spells rest xs

pub left_none : (line : List ℕ) → Left line [] line
left_none line = record { joined = λ xs h. h; parted = λ zs h. (zs, h) }

small_cons : (v : ℕ) (xs : List ℕ) → v < 2 ^ 32 → ((i : ℕ) → i < length xs → get_or xs i 0 < 2 ^ 32)
    → (i : ℕ) → i < length (v ∷ xs) → get_or (v ∷ xs) i 0 < 2 ^ 32
small_cons v xs l h zero p = l
small_cons v xs l h (suc i) p = h i (le_of_suc-le-suc p)

-- one value alone
spells_one : (v : ℕ) → v < 2 ^ 32 → Spells (decimal v) (v ∷ [])
unfolding spell
spells_one v l = record { some = omega arith; small = small_cons v [] l (λ i p. absurd (not-suc-le-zero p)); text = refl }

-- one value, a space and more
spells_more : (v : ℕ) (rest xs : List ℕ) → v < 2 ^ 32 → Spells rest xs → Spells (decimal v ++ space ∷ rest) (v ∷ xs)
unfolding spell
spells_more v rest [] l h = absurd (not-suc-le-zero h.some)
spells_more v rest (x ∷ xs) l h =
    record {
      some = omega arith;
      small = small_cons v (x ∷ xs) l h.small;
      text = ap (λ (t : List ℕ). decimal v ++ space ∷ t) h.text;
    }

after_space : (ys rest : List ℕ) → space ∷ rest ≡ after ys → (0 < length ys) × (rest ≡ spell ys)
unfolding after
after_space [] rest e = let z : ◌≡◌ {A = ℕ} 0 1 = cc in absurd (omega arith)
after_space (y ∷ ys) rest e = (zero-lt-suc (length ys), tail-eq_of_cons-eq e)

spells_tail : (v : ℕ) (rest xs : List ℕ) → Spells (decimal v ++ space ∷ rest) xs → (ys : List ℕ) × Spells rest ys
spells_tail v rest xs h =
    let b = begins (decimal v ++ space ∷ rest) xs h in
    let q = same_front v b.first (space ∷ rest) (after b.others) (omega arith) (after_stops b.others) b.cut in
    let t = after_space b.others rest q.1 in
    (b.others, record { some = t.0; small = b.others_small; text = t.1 })

module _ {line done rest : List ℕ} (left : Left line done rest) where
  -- the rest is one value, a space and more: that value has been read
  pub left_more : (v : ℕ) (more : List ℕ) → v < 2 ^ 32 → rest ≡ decimal v ++ space ∷ more → Left line (done ++ (v ∷ [])) more
  left_more v more l e =
      record {
        joined = λ xs h. rw append_assoc (left.joined (v ∷ xs) (rw e (spells_more v more xs l h)));
        parted = λ zs h. let p = left.parted zs h in spells_tail v more p.0 (rw e at p.1);
      }

  -- the rest is one value
  pub left_last : (v : ℕ) → v < 2 ^ 32 → rest ≡ decimal v ++ [] → Spells line (done ++ (v ∷ []))
  left_last v l e = left.joined (v ∷ []) (rw (e, append-nil) (spells_one v l))

  -- the rest begins with no value, or with a value and neither its end nor a space
  pub left_missing : ((v : ℕ) (s : List ℕ) → v < 2 ^ 32 → Stops s → rest ≡ decimal v ++ s → ⊥) → (zs : List ℕ) → Spells line zs → ⊥
  left_missing none zs h =
      let p = left.parted zs h in
      let b = begins rest p.0 p.1 in
      none b.first (after b.others) b.small (after_stops b.others) b.cut

  pub left_other : (v b : ℕ) (more : List ℕ) → Stops (b ∷ more) → (b ≡ space → ⊥) → rest ≡ decimal v ++ b ∷ more → (zs : List ℕ) → Spells line zs → ⊥
  left_other v b more st ne e zs h =
      let p = left.parted zs h in
      let o = begins rest p.0 p.1 in
      let q = same_front v o.first (b ∷ more) (after o.others) st (after_stops o.others) (sym e ∙ o.cut) in
      ne (after_first o.others b more q.1)
