-- One test after another: where a test of ours decides the paper's condition, an answer by our order is one by the paper's.
use mathlib.Core.Path.{◌≡◌, refl}
use mathlib.Core.Bool.{Bool, true, false, ◌&&◌}
use mathlib.Core.List.{List, [], ◌∷◌}
use mathlib.Core.Logic.{◌⊎◌, inl, inr, ⊎_elim}
use Prim.Native.Nat.{ℕ, zero, suc, ◌<◌, ◌≤◌}
use native.Mathlib.Nat.{le_step, lt-suc_self}
use native.Mathlib.Omega.{arith}
use lib.Dec.{eqb, leb, ltb}
use borrow.Author.Tests.{eqb-true, eqb-false, leb-true, leb-false, ltb-true, ltb-false}
use Rattle.parity.specs.Count.{all}
use Rattle.parity.proofs.Tests.{either, clash, and_both}
use Rattle.paper.specs.Answers.{Test, Judged}
use Rattle.gtb.specs.Answer.{unless}

-- our test is passed exactly where the paper's condition fails
pub record Decides (t : Bool) (Condition : Type 0) : Type 0 where
  pub holds : t ≡ false → Condition
  pub fails : t ≡ true → ¬ Condition

-- our test of equality
pub decides_eqb : (a b : ℕ) → Decides (eqb a b) (¬ (a ≡ b))
decides_eqb a b = record { holds = eqb-false a b; fails = λ t no. no (eqb-true a b t) }

-- our tests of order
pub decides_below : (a k : ℕ) → Decides (ltb a k) (k ≤ a)
decides_below a k = record { holds = ltb-false a k; fails = λ h no. let l = ltb-true a k h in omega arith }

pub decides_upto : (a k : ℕ) → Decides (leb a k) (k < a)
decides_upto a k = record { holds = leb-false a k; fails = λ h no. let l = leb-true a k h in omega arith }

-- one row of the list: the answer r is the refusal where our test fails, and otherwise what follows
pub test : {A Condition Refused Next : Type 0} (t : Bool) (refusal next : A) {r : A} → Decides t Condition → (r ≡ refusal → Refused) → (t ≡ true → r ≡ next → Next)
    → r ≡ unless t refusal next → (Condition × Refused) ⊎ ((¬ Condition) × Next)
test true refusal next d turn pass h = inr (d.fails refl, pass refl h)
test false refusal next d turn pass h = inl (d.holds refl, turn h)

-- the last row, where what the answers mean decides
pub last : {A Condition Refused Next : Type 0} (t : Bool) (refusal next : A) {r : A} → (r ≡ refusal → Condition × Refused) → (r ≡ next → (¬ Condition) × Next)
    → r ≡ unless t refusal next → (Condition × Refused) ⊎ ((¬ Condition) × Next)
last true refusal next turn pass h = inr (pass h)
last false refusal next turn pass h = inl (turn h)

-- a test over a range that fails somewhere
pub all_fails : (n : ℕ) (p : ℕ → Bool) → all n p ≡ false → (i : ℕ) × (i < n) × (p i ≡ false)
unfolding all
all_fails zero p h = absurd (clash refl h)
all_fails (suc n) p h =
    ⊎_elim
    (λ (t : all n p ≡ true). (n, lt-suc_self n, ⊎_elim (λ (u : p n ≡ true). absurd (clash (and_both t u) h)) (λ (f : p n ≡ false). f) (either (p n))))
    (λ (f : all n p ≡ false). let r = all_fails n p f in (r.0, le_step r.1, r.2))
    (either (all n p))

-- both tests of an && at once
pub decides_both : {A B : Type 0} (a b : Bool) → Decides a A → Decides b B → Decides (a && b) (A ⊎ B)
decides_both true true da db = record { holds = λ h. absurd (clash refl h); fails = λ h. ⊎_elim (da.fails refl) (db.fails refl) }
decides_both true false da db = record { holds = λ h. inr (db.holds refl); fails = λ h. absurd (clash h refl) }
decides_both false b da db = record { holds = λ h. inl (da.holds refl); fails = λ h. absurd (clash h refl) }

-- a test is passed where its condition does not hold
pub passes : {t : Bool} {Condition : Type 0} → Decides t Condition → ¬ Condition → t ≡ true
passes {t} d none = ⊎_elim (λ (h : t ≡ true). h) (λ (h : t ≡ false). absurd (none (d.holds h))) (either t)

pub equal : {a b : ℕ} → ¬ (¬ (a ≡ b)) → a ≡ b
equal {a} {b} h = eqb-true a b (passes (decides_eqb a b) h)

-- ---- what was judged, of any list of tests
-- no condition holds
abbrev pub Passed : List Test → Type 0
Passed [] = Unit {0}
Passed (t ∷ tests) = (¬ t.1) × Passed tests

pub judged_elim : (tests : List Test) (P : ℕ → Type 0) (A C : Type 0) → ((k : ℕ) → P k → C) → (Passed tests → A → C) → Judged tests P A → C
judged_elim [] P A C turn pass x = pass tt x
judged_elim (t ∷ tests) P A C turn pass (inl (c, p)) = turn t.0 p
judged_elim (t ∷ tests) P A C turn pass (inr (fails, x)) = judged_elim tests P A C turn (λ passed. pass (fails, passed)) x

pub judged_map : (tests : List Test) (P Q : ℕ → Type 0) (A B : Type 0) → ((k : ℕ) → P k → Q k) → (A → B) → Judged tests P A → Judged tests Q B
judged_map [] P Q A B turn pass x = pass x
judged_map (t ∷ tests) P Q A B turn pass (inl (c, p)) = inl (c, turn t.0 p)
judged_map (t ∷ tests) P Q A B turn pass (inr (fails, x)) = inr (fails, judged_map tests P Q A B turn pass x)

-- there is no choice: of two outcomes both are refused by the same number, or both accepted
pub judged_once : (tests : List Test) (P Q : ℕ → Type 0) (A B C : Type 0) → ((k : ℕ) → P k → Q k → C) → (Passed tests → A → B → C) → Judged tests P A → Judged tests Q B → C
judged_once [] P Q A B C turn pass x y = pass tt x y
judged_once (t ∷ tests) P Q A B C turn pass (inl (c, p)) (inl (d, q)) = turn t.0 p q
judged_once (t ∷ tests) P Q A B C turn pass (inl (c, p)) (inr (fails, y)) = absurd (fails c)
judged_once (t ∷ tests) P Q A B C turn pass (inr (fails, x)) (inl (d, q)) = absurd (fails d)
judged_once (t ∷ tests) P Q A B C turn pass (inr (fails, x)) (inr (too, y)) = judged_once tests P Q A B C turn (λ passed. pass (fails, passed)) x y
