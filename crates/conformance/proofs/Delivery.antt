-- A bundle has one outcome.
use mathlib.Core.Path.{◌≡◌, sym, ap, ◌∙◌, subst}
use mathlib.Core.List.{List}
use Prim.Native.Nat.{ℕ, zero, suc, ◌+◌, ◌*◌, ◌/◌, ◌%◌, ◌<◌, ◌≤◌}
use native.Mathlib.Nat.{le_of_lt, le_refl, mod-lt, div-add-mod', div-lt_iff_lt-mul, div-eq_of_eq-mul_left}
use native.Mathlib.Decide.{dec_lt}
use native.Mathlib.Omega.{arith}
use lib.ListN.{get_or, drop}
use lib.Seq.{ext_get_or, get_or-take, get_or-drop}
use Rattle.paper.specs.Paper as paper
use Rattle.batch.proofs.Runs.{word_positive}
use Rattle.gtb.proofs.Judging.{judged_once}
use Rattle.gtb.proofs.Conditions.{to, lawful_of}
use Rattle.conformance.proofs.Arrived.{arrival_once}

-- a digit of a run stands in one of its words
piece : (s : paper.Shape) (w : List ℕ) (j : ℕ) → 0 < paper.N s → get_or w j 0 ≡ get_or (paper.word_at s w (j / paper.N s)) (j % paper.N s) 0
piece s w j some =
    ap (λ (n : ℕ). get_or w n 0) (sym (div-add-mod' j (paper.N s)))
    ∙ sym (get_or-drop (j / paper.N s * paper.N s) w (j % paper.N s) 0)
    ∙ sym (get_or-take (paper.N s) (drop (j / paper.N s * paper.N s) w) (j % paper.N s) 0 (mod-lt j some))

module _ (σ : paper.Session) (way : ℕ) (words scratch : List ℕ) where
  abbrev s : paper.Shape
  s = σ.shape

  abbrev word_arrival_lem : ℕ → paper.Arrival
  word_arrival_lem i = record { way = way; word = paper.word_at s words i; scratch = scratch }

  module _ {σ₁ σ₂ : paper.Session} {w₁ w₂ x₁ x₂ o₁ o₂ : List ℕ} (a : paper.Delivered σ way words scratch σ₁ w₁ x₁ o₁) (b : paper.Delivered σ way words scratch σ₂ w₂ x₂ o₂) (some : 0 < paper.N s) where
    same_number : a.number ≡ b.number
    same_number = sym (div-eq_of_eq-mul_left some a.run.2) ∙ div-eq_of_eq-mul_left some b.run.2

    there : {i : ℕ} → i < a.number → i < b.number
    there {i} l = subst (λ (n : ℕ). i < n) same_number l

    left_after : (i : ℕ) → i < a.number → a.before i ≡ b.before i → a.left i ≡ b.left i
    left_after i l e =
        arrival_once (a.before i) (word_arrival_lem i) (a.each i l) (subst (λ (τ : paper.Session). paper.Arriving τ (word_arrival_lem i) (b.left i)) (sym e) (b.each i (there l)))

    same_before : (i : ℕ) → i ≤ a.number → a.before i ≡ b.before i
    same_before zero l = a.first ∙ sym b.first
    same_before (suc i) l =
        a.next i l ∙ ap (λ (r : paper.Arrived). r.session) (left_after i l (same_before i (le_of_lt l))) ∙ sym (b.next i (there l))

    same_left : (i : ℕ) → i < a.number → a.left i ≡ b.left i
    same_left i l = left_after i l (same_before i (le_of_lt l))

    same_session : σ₁ ≡ σ₂
    same_session = sym a.last ∙ same_before a.number (le_refl a.number) ∙ ap b.before same_number ∙ b.last

    same_words : w₁ ≡ w₂
    same_words =
        ext_get_or 0 w₁ w₂ (a.size ∙ sym b.size)
        (λ j l.
        let lj : j < a.number * paper.N s = subst (λ (n : ℕ). j < n) (a.size ∙ a.run.2) l in
        let li : j / paper.N s < a.number = (div-lt_iff_lt-mul some).1 lj in
        piece s w₁ j some
        ∙ ap (λ (u : List ℕ). get_or u (j % paper.N s) 0) (a.word _ li ∙ ap (λ (r : paper.Arrived). r.word) (same_left _ li) ∙ sym (b.word _ (there li)))
        ∙ sym (piece s w₂ j some))

    same_outcome : (j : ℕ) → j < 3 * a.number → get_or o₁ j 0 ≡ get_or o₂ j 0
    same_outcome j l =
        let here : 3 * (j / 3) + j % 3 ≡ j = omega arith in
        let li : j / 3 < a.number = omega arith in
        let lc : j % 3 < 3 = omega arith in
        ap (λ (n : ℕ). get_or o₁ n 0) (sym here) ∙ a.outcome (j / 3) (j % 3) li lc
        ∙ ap (λ (r : paper.Arrived). get_or r.answer (j % 3) 0) (same_left (j / 3) li)
        ∙ sym (b.outcome (j / 3) (j % 3) (there li) lc) ∙ ap (λ (n : ℕ). get_or o₂ n 0) here

    same_outcomes : o₁ ≡ o₂
    same_outcomes =
        ext_get_or 0 o₁ o₂ (a.list ∙ sym b.list)
        (λ j _. elim (dec_lt j (3 * a.number)) [
          | yes l ↦ same_outcome j l
          | no l ↦ a.rest j (omega arith) ∙ sym (b.rest j (subst (λ (n : ℕ). 3 * n ≤ j) same_number (omega arith)))
        ])

  pub bundling_once : (outcomes : List ℕ) {σ₁ σ₂ : paper.Session} {w₁ w₂ x₁ x₂ o₁ o₂ : List ℕ} {r t : ℕ}
      → paper.Bundling σ way words scratch outcomes σ₁ w₁ x₁ o₁ r → paper.Bundling σ way words scratch outcomes σ₂ w₂ x₂ o₂ t
      → (σ₁ ≡ σ₂) × (w₁ ≡ w₂) × (x₁ ≡ x₂) × (o₁ ≡ o₂) × (r ≡ t)
  bundling_once outcomes {σ₁} {σ₂} {w₁} {w₂} {x₁} {x₂} {o₁} {o₂} {r} {t} =
      judged_once (paper.bundle_tests σ way words scratch outcomes)
      (λ k. (r ≡ paper.refusal k) × (σ₁ ≡ σ) × (w₁ ≡ words) × (x₁ ≡ scratch) × (o₁ ≡ outcomes)) (λ k. (t ≡ paper.refusal k) × (σ₂ ≡ σ) × (w₂ ≡ words) × (x₂ ≡ scratch) × (o₂ ≡ outcomes)) _ _
      ((σ₁ ≡ σ₂) × (w₁ ≡ w₂) × (x₁ ≡ x₂) × (o₁ ≡ o₂) × (r ≡ t))
      (λ k x y. (x.1 ∙ sym y.1, x.2 ∙ sym y.2, x.3 ∙ sym y.3, x.4 ∙ sym y.4, x.0 ∙ sym y.0))
      (λ passed x y. let (known, (listed, (right, others))) = passed in
      let some : 0 < paper.N s = word_positive (to s) (lawful_of (to s) listed right) in
      (same_session x.1 y.1 some, same_words x.1 y.1 some, x.1.used ∙ sym y.1.used, same_outcomes x.1 y.1 some, x.0 ∙ sym y.0))
