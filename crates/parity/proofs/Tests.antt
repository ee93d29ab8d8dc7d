-- Tests joined by && and over a range, taken apart and put together.
use mathlib.Core.Path.{◌≡◌, refl, sym, ap, ap₂, ◌∙◌}
use mathlib.Core.Bool.{Bool, true, false, not, beq, ◌&&◌, ◌||◌}
use mathlib.Core.Logic.{◌⊎◌, inl, inr, ⊎_elim}
use Prim.Native.Nat.{ℕ, zero, suc, ◌+◌, ◌<◌}
use native.Mathlib.Nat.{not-suc-le-zero, le_of_suc-le-suc, eq-or-lt_of_le, le_step, lt-suc_self}
use native.Mathlib.Numerals.{add-one}
use native.Mathlib.Omega.{arith}
use lib.Dec.{eqb}
use borrow.Author.Tests.{eq-eqb, eqb-true}
use Rattle.parity.specs.Count.{any, all}

-- a Bool is one of two, and never both
pub either : (b : Bool) → (b ≡ true) ⊎ (b ≡ false)
either true = inl refl
either false = inr refl

abbrev code : Bool → ℕ
code true = 1
code false = 0

pub clash : {b : Bool} → b ≡ true → b ≡ false → ⊥
clash t f = let z : ◌≡◌ {A = ℕ} 1 0 = ap code (sym t ∙ f) in omega arith

-- two tests that agree are equal
pub agree : (a b : Bool) → beq a b ≡ true → a ≡ b
agree true true h = refl
agree true false h = sym h
agree false true h = h
agree false false h = refl

-- two tests that decide the same
pub same : {a b : Bool} → (a ≡ true → b ≡ true) → (b ≡ true → a ≡ true) → a ≡ b
same {a} {b} to from =
    ⊎_elim (λ (t : a ≡ true). t ∙ sym (to t))
    (λ (f : a ≡ false). f ∙ sym (⊎_elim (λ (t : b ≡ true). absurd (clash (from t) f)) (λ (g : b ≡ false). g) (either b)))
    (either a)

pub same_eqb : (a b c d : ℕ) → (a ≡ b → c ≡ d) → (c ≡ d → a ≡ b) → eqb a b ≡ eqb c d
same_eqb a b c d to from = same (λ t. eq-eqb c d (to (eqb-true a b t))) (λ t. eq-eqb a b (from (eqb-true c d t)))

pub and_left : (a b : Bool) → (a && b) ≡ true → a ≡ true
and_left true b h = refl
and_left false b h = h

pub and_right : (a b : Bool) → (a && b) ≡ true → b ≡ true
and_right true b h = h
and_right false b h = absurd (clash h refl)

pub and_both : {a b : Bool} → a ≡ true → b ≡ true → (a && b) ≡ true
and_both {a} {b} ha hb = ap₂ (λ (x y : Bool). x && y) ha hb

pub and_no_left : {a : Bool} (b : Bool) → a ≡ false → (a && b) ≡ false
and_no_left b h = ap (λ (x : Bool). x && b) h

pub and_no_right : (a : Bool) {b : Bool} → b ≡ false → (a && b) ≡ false
and_no_right true h = h
and_no_right false h = refl

pub not_of_true : {a : Bool} → a ≡ true → not a ≡ false
not_of_true h = ap not h

pub not_of_false : {a : Bool} → a ≡ false → not a ≡ true
not_of_false h = ap not h

-- ---- each number below n passes
all_suc : (n : ℕ) (p : ℕ → Bool) → all (suc n) p ≡ (all n p && p n)
unfolding all
all_suc n p = refl

pub all_zero : (p : ℕ → Bool) → all 0 p ≡ true
unfolding all
all_zero p = refl

-- one turn of a loop
pub all_more : (n : ℕ) (p : ℕ → Bool) → all (n + 1) p ≡ (all n p && p n)
all_more n p = ap (λ (k : ℕ). all k p) (add-one n) ∙ all_suc n p

pub all_elim : (n : ℕ) (p : ℕ → Bool) → all n p ≡ true → (i : ℕ) → i < n → p i ≡ true
unfolding all
all_elim zero p h i l = absurd (not-suc-le-zero l)
all_elim (suc n) p h i l =
    ⊎_elim (λ (e : i ≡ n). ap p e ∙ and_right (all n p) (p n) h) (λ (lt : i < n). all_elim n p (and_left (all n p) (p n) h) i lt)
    (eq-or-lt_of_le (le_of_suc-le-suc l))

pub all_intro : (n : ℕ) (p : ℕ → Bool) → ((i : ℕ) → i < n → p i ≡ true) → all n p ≡ true
unfolding all
all_intro zero p h = refl
all_intro (suc n) p h = and_both (all_intro n p (λ i l. h i (le_step l))) (h n (lt-suc_self n))

pub all_no : (n : ℕ) (p : ℕ → Bool) (i : ℕ) → i < n → p i ≡ false → all n p ≡ false
all_no n p i l f = ⊎_elim (λ (t : all n p ≡ true). absurd (clash (all_elim n p t i l) f)) (λ h. h) (either (all n p))

pub all_cong : (n : ℕ) (p r : ℕ → Bool) → ((i : ℕ) → i < n → p i ≡ r i) → all n p ≡ all n r
unfolding all
all_cong zero p r h = refl
all_cong (suc n) p r h = ap₂ (λ (x y : Bool). x && y) (all_cong n p r (λ i l. h i (le_step l))) (h n (lt-suc_self n))

-- ---- some number below n passes
pub any_suc : (n : ℕ) (p : ℕ → Bool) → any (suc n) p ≡ (any n p || p n)
unfolding any
any_suc n p = refl

pub any_more : (n : ℕ) (p : ℕ → Bool) → any (n + 1) p ≡ (any n p || p n)
any_more n p = ap (λ (k : ℕ). any k p) (add-one n) ∙ any_suc n p

pub any_zero : (p : ℕ → Bool) → any 0 p ≡ false
unfolding any
any_zero p = refl

pub or_cases : (a b : Bool) → (a || b) ≡ true → (a ≡ true) ⊎ (b ≡ true)
or_cases true b h = inl refl
or_cases false b h = inr h

or_left : (a b : Bool) → a ≡ true → (a || b) ≡ true
or_left a b h = ap (λ (x : Bool). x || b) h

or_right : (a b : Bool) → b ≡ true → (a || b) ≡ true
or_right true b h = refl
or_right false b h = h

or_none : {a b : Bool} → a ≡ false → b ≡ false → (a || b) ≡ false
or_none ha hb = ap₂ (λ (x y : Bool). x || y) ha hb

pub or_no : (a b : Bool) → (a || b) ≡ false → (a ≡ false) × (b ≡ false)
or_no true b h = (h, absurd (clash refl h))
or_no false b h = (refl, h)

pub any_elim : (n : ℕ) (p : ℕ → Bool) → any n p ≡ true → (i : ℕ) × (i < n) × (p i ≡ true)
unfolding any
any_elim zero p h = absurd (clash h refl)
any_elim (suc n) p h =
    ⊎_elim (λ (l : any n p ≡ true). let r = any_elim n p l in (r.0, le_step r.1, r.2)) (λ (e : p n ≡ true). (n, lt-suc_self n, e))
    (or_cases (any n p) (p n) h)

pub any_intro : (n : ℕ) (p : ℕ → Bool) (i : ℕ) → i < n → p i ≡ true → any n p ≡ true
unfolding any
any_intro zero p i l h = absurd (not-suc-le-zero l)
any_intro (suc n) p i l h =
    ⊎_elim (λ (e : i ≡ n). or_right (any n p) (p n) (ap p (sym e) ∙ h)) (λ (lt : i < n). or_left (any n p) (p n) (any_intro n p i lt h))
    (eq-or-lt_of_le (le_of_suc-le-suc l))

pub any_none : (n : ℕ) (p : ℕ → Bool) → ((i : ℕ) → i < n → p i ≡ false) → any n p ≡ false
unfolding any
any_none zero p h = refl
any_none (suc n) p h = or_none (any_none n p (λ i l. h i (le_step l))) (h n (lt-suc_self n))

pub any_no : (n : ℕ) (p : ℕ → Bool) → any n p ≡ false → (i : ℕ) → i < n → p i ≡ false
any_no n p h i l = ⊎_elim (λ (t : p i ≡ true). absurd (clash (any_intro n p i l t) h)) (λ f. f) (either (p i))

pub any_cong : (n : ℕ) (p r : ℕ → Bool) → ((i : ℕ) → i < n → p i ≡ r i) → any n p ≡ any n r
unfolding any
any_cong zero p r h = refl
any_cong (suc n) p r h = ap₂ (λ (x y : Bool). x || y) (any_cong n p r (λ i l. h i (le_step l))) (h n (lt-suc_self n))
