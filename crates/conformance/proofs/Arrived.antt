-- The paper's arrival by itself: it leaves no choice, and whether it is refused does not depend on the session.
use mathlib.Core.Path.{◌≡◌, sym, ap, ◌∙◌, subst, subst₂}
use mathlib.Core.Bool.{true, false}
use mathlib.Core.List.{List, [], ◌∷◌}
use mathlib.Core.Logic.{inl, inr, ⊎_elim, ◌≢◌}
use Prim.Native.Nat.{ℕ, ◌<◌}
use native.Mathlib.Omega.{arith}
use lib.Dec.{eqb}
use lib.ListN.{length, get_or}
use lib.Seq.{ext_get_or}
use borrow.Author.Tests.{eqb-true}
use Rattle.parity.proofs.Tests.{clash, and_left, and_right}
use Rattle.paper.specs.Paper as paper
use Rattle.session.specs.declared.Session.{Session}
use Rattle.session.specs.Session.{pages_of, lowest_of, consistent}
use Rattle.gtb.proofs.Judging.{passes, Passed, judged_elim, judged_map, judged_once}
use Rattle.gtb.proofs.Conditions.{to, lawful_of}
use Rattle.session.proofs.Paper.{decides_figures}
use Rattle.conformance.proofs.Once.{word_of, read_once, digits_once}

-- our session of the paper's
abbrev pub to_session : paper.Session → Session
to_session σ = record { shape = to σ.shape; taken = σ.taken; calls = σ.calls; pages = σ.pages; lowest = σ.lowest }

-- ---- the session after a page is determined
same_figures : (σ : paper.Session) → ¬ paper.WrongFigures σ → (σ.pages ≡ pages_of σ.taken) × (σ.lowest ≡ lowest_of σ.taken)
unfolding consistent
same_figures σ right =
    let h : consistent (to_session σ) ≡ true = passes (decides_figures (to_session σ)) right in
    (eqb-true _ _ (and_left (eqb σ.pages (pages_of σ.taken)) (eqb σ.lowest (lowest_of σ.taken)) h), eqb-true _ _ (and_right (eqb σ.pages (pages_of σ.taken)) (eqb σ.lowest (lowest_of σ.taken)) h))

session_same : {σ τ : paper.Session} → σ.shape ≡ τ.shape → σ.taken ≡ τ.taken → σ.calls ≡ τ.calls → σ.pages ≡ τ.pages → σ.lowest ≡ τ.lowest → σ ≡ τ
session_same a b c d e = λ i. record { shape = a i; taken = b i; calls = c i; pages = d i; lowest = e i }

recorded_once : {σ τ υ : paper.Session} (page : ℕ) (marks : List ℕ) → paper.Recorded σ page marks τ → paper.Recorded σ page marks υ → τ ≡ υ
recorded_once {σ} {τ} {υ} page marks x y =
    let taken : τ.taken ≡ υ.taken = ext_get_or false τ.taken υ.taken (x.size.0 ∙ sym y.size.0) (λ p l. let lp : p < 1024 = rw x.size.0 at l in x.marked p lp ∙ sym (y.marked p lp)) in
    let calls : τ.calls ≡ υ.calls = ext_get_or 0 τ.calls υ.calls (x.size.1 ∙ sym y.size.1) (λ f l. let lf : f < 256 = rw x.size.1 at l in x.counted f lf ∙ sym (y.counted f lf)) in
    let a = same_figures τ x.figures in
    let b = same_figures υ y.figures in
    session_same (x.shape ∙ sym y.shape) taken calls (a.0 ∙ ap pages_of taken ∙ sym b.0) (a.1 ∙ ap lowest_of taken ∙ sym b.1)

arrived_same : {x y : paper.Arrived} → x.session ≡ y.session → x.word ≡ y.word → x.scratch ≡ y.scratch → x.answer ≡ y.answer → x ≡ y
arrived_same a b c d = λ i. record { session = a i; word = b i; scratch = c i; answer = d i }

-- ---- two outcomes of one arrival
module _ (σ : paper.Session) (a : paper.Arrival) where
  abbrev s : paper.Shape
  s = σ.shape

  refusing_once : {x y : paper.Arrived} (k : ℕ) → paper.Refusing σ a x k → paper.Refusing σ a y k → x ≡ y
  refusing_once k p q = arrived_same (p.1 ∙ sym q.1) (p.2 ∙ sym q.2) (p.3 ∙ sym q.3) (p.0 ∙ sym q.0)

  accepting_once : {x y : paper.Arrived} (outcome : ℕ) (v d : List ℕ) → x.session ≡ y.session → paper.Accepting outcome s a v d x → paper.Accepting outcome s a v d y → x ≡ y
  accepting_once outcome v d same p q = arrived_same same (p.1 ∙ sym q.1) (p.2 ∙ sym q.2) (p.0 ∙ sym q.0)

  settling_once : {x y : paper.Arrived} (v d : List ℕ) → paper.Settling σ a v d x → paper.Settling σ a v d y → x ≡ y
  settling_once {x} {y} v d =
      judged_once (paper.contents s d) (paper.Refusing σ a x) (paper.Refusing σ a y) _ _ (x ≡ y) refusing_once
      (λ _ p q.
      ⊎_elim
      (λ old. ⊎_elim (λ old'. accepting_once 1 v d (old.1 ∙ sym old'.1) old.2 old'.2) (λ new. absurd (clash old.0 new.0)) q)
      (λ new.
      ⊎_elim (λ old. absurd (clash old.0 new.0))
      (λ new'.
      judged_once ((9, paper.Worn σ (paper.marks_in d)) ∷ []) (paper.Refusing σ a x) (paper.Refusing σ a y) _ _ (x ≡ y) refusing_once
      (λ _ m n. accepting_once 0 v d (recorded_once (get_or d 0 0) (paper.marks_in d) m.0 n.0) m.1 n.1)
      new.1 new'.1)
      q)
      p)

  -- past the tests on the word, what was read and its data digits are determined
  read_same : Passed (paper.beside_tests s a) → {v u : List ℕ} → paper.Read s a.way a.word v → paper.Read s a.way a.word u → v ≡ u
  read_same passed x y =
      let (known, (listed, (right, (enough, (size, (slim, others)))))) = passed in
      let law = lawful_of (to s) listed right in
      read_once (to s) law (word_of (to s) law (λ long. size (inl long)) slim) a.way known enough x y

  data_same : Passed (paper.beside_tests s a) → {v d e : List ℕ} → paper.DataDigits s v d → paper.DataDigits s v e → d ≡ e
  data_same passed = let (known, (listed, (right, others))) = passed in digits_once (to s) (lawful_of (to s) listed right)

  beside : Passed (paper.arrival_tests σ a) → Passed (paper.beside_tests s a)
  beside passed = let (known, (listed, (right, (figures, others)))) = passed in (known, (listed, (right, others)))

  pub arrival_once : {x y : paper.Arrived} → paper.Arriving σ a x → paper.Arriving σ a y → x ≡ y
  arrival_once {x} {y} =
      judged_once (paper.arrival_tests σ a) (paper.Refusing σ a x) (paper.Refusing σ a y) _ _ (x ≡ y) refusing_once
      (λ passed p q.
      let (v, d, read, digits, settled) = p in
      let (u, e, read', digits', settled') = q in
      let same : u ≡ v = read_same (beside passed) read' read in
      let same_digits : e ≡ d = data_same (beside passed) (subst (λ (w : List ℕ). paper.DataDigits s w e) same digits') digits in
      settling_once v d settled (subst₂ (λ (w c : List ℕ). paper.Settling σ a w c y) same same_digits settled'))

  -- ---- refused by what was handed in beside the session
  module _ (right : ¬ paper.WrongFigures σ) where
    skip : (P : ℕ → Type 0) (A : Type 0) → paper.Judged (paper.arrival_tests σ a) P A → paper.Judged (paper.beside_tests s a) P A
    skip P A (inl x) = inl x
    skip P A (inr (known, inl x)) = inr (known, inl x)
    skip P A (inr (known, inr (listed, inl x))) = inr (known, inr (listed, inl x))
    skip P A (inr (known, inr (listed, inr (slopes, inl (wrong, x))))) = absurd (right wrong)
    skip P A (inr (known, inr (listed, inr (slopes, inr (figures, x))))) = inr (known, inr (listed, inr (slopes, x)))

    pub turned_arriving : {k : ℕ} {x : paper.Arrived} → paper.TurnedDown s a k → paper.Arriving σ a x → (x.answer ≡ 2 ∷ k ∷ 0 ∷ []) × (x.session ≡ σ)
    turned_arriving {k} {x} down h =
        let C : Type 0 = (x.answer ≡ 2 ∷ k ∷ 0 ∷ []) × (x.session ≡ σ) in
        let turn : (e : ℕ) → k ≡ e → paper.Refusing σ a x e → C = λ e is p. (p.0 ∙ ap (λ (c : ℕ). 2 ∷ c ∷ 0 ∷ []) (sym is), p.1) in
        judged_once (paper.beside_tests s a) (λ e. k ≡ e) (paper.Refusing σ a x) _ _ C turn
        (λ passed p q.
        let (v, d, read, digits, bad) = p in
        let (u, e, read', digits', settled) = q in
        let same : u ≡ v = read_same passed read' read in
        let same_digits : e ≡ d = data_same passed (subst (λ (w : List ℕ). paper.DataDigits s w e) same digits') digits in
        judged_once (paper.contents s d) (λ e. k ≡ e) (paper.Refusing σ a x) ⊥ _ C turn (λ _ none _. absurd none)
        bad (subst₂ (λ (w c : List ℕ). paper.Settling σ a w c x) same same_digits settled))
        down (skip (paper.Refusing σ a x) _ h)

    pub arriving_turned : (k : ℕ) {x : paper.Arrived} → k ≢ 9 → x.answer ≡ 2 ∷ k ∷ 0 ∷ [] → paper.Arriving σ a x → paper.TurnedDown s a k
    arriving_turned k {x} other is h =
        let turn : (e : ℕ) → paper.Refusing σ a x e → k ≡ e = λ e p. ap (λ (r : List ℕ). get_or r 1 0) (sym is ∙ p.0) in
        judged_map (paper.beside_tests s a) (paper.Refusing σ a x) (λ e. k ≡ e) _ _ turn
        (λ p.
        let (v, d, read, digits, settled) = p in (
          v,
          d,
          read,
          digits,
          judged_map (paper.contents s d) (paper.Refusing σ a x) (λ e. k ≡ e) _ _ turn
              (⊎_elim (λ old. accepted 1 (λ z. omega arith) old.2.0)
              (λ new. ⊎_elim (λ worn. other (turn 9 worn.1)) (λ fresh. accepted 0 (λ z. omega arith) fresh.1.1.0) new.1))
              settled,
        ))
        (skip (paper.Refusing σ a x) _ h)
      where
        accepted : (outcome : ℕ) {rest : List ℕ} → (outcome ≡ 2 → ⊥) → x.answer ≡ outcome ∷ rest → ⊥
        accepted outcome differs h' = differs (ap (λ (r : List ℕ). get_or r 0 0) (sym h' ∙ is))

-- ---- what every arrival keeps
pub record Kept (s : paper.Shape) (σ : paper.Session) : Type 0 where
  pub shape : σ.shape ≡ s
  pub size : length σ.taken ≡ 1024
  pub figures : ¬ paper.WrongFigures σ

pub kept_on : {s : paper.Shape} {σ : paper.Session} (a : paper.Arrival) {x : paper.Arrived} → Kept s σ → paper.Arriving σ a x → Kept s x.session
kept_on {s} {σ} a {x} kept =
    judged_elim (paper.arrival_tests σ a) (paper.Refusing σ a x) _ (Kept s x.session) (λ k p. unchanged p.1)
    (λ _ p. let (v, d, read, digits, settled) = p in
    judged_elim (paper.contents σ.shape d) (paper.Refusing σ a x) _ (Kept s x.session) (λ k p. unchanged p.1)
    (λ _. ⊎_elim (λ old. unchanged old.1) (λ new. ⊎_elim (λ worn. unchanged worn.1.1) (λ fresh. recorded fresh.1.0) new.1))
    settled)
  where
    unchanged : x.session ≡ σ → Kept s x.session
    unchanged e = subst (Kept s) (sym e) kept

    recorded : {page : ℕ} {marks : List ℕ} → paper.Recorded σ page marks x.session → Kept s x.session
    recorded r = record { shape = r.shape ∙ kept.shape; size = r.size.0; figures = r.figures }
