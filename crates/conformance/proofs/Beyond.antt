-- Beyond the documents too the paper leaves no choice.
use mathlib.Core.Path.{◌≡◌, refl, sym, ◌∙◌}
use mathlib.Core.List.{List}
use Prim.Native.Nat.{ℕ}
use Rattle.paper.specs.Paper as paper
use Rattle.gtb.proofs.Judging.{judged_once}
use Rattle.gtb.proofs.Conditions.{to, lawful_of}
use Rattle.distance.proofs.Within.{within_near}
use Rattle.nearest.proofs.Meaning.{nearest_meant}
use Rattle.conformance.proofs.Once.{alike, word_of, same_changed}

pub nearest_once : (s : paper.Shape) (word : List ℕ) {w v : List ℕ} {r t : ℕ} → paper.Nearest s word w r → paper.Nearest s word v t → (w ≡ v) × (r ≡ t)
nearest_once s word {w} {v} {r} {t} =
    judged_once (paper.nearest_tests s word)
    (λ k. (r ≡ paper.refusal k) × (w ≡ word)) (λ k. (t ≡ paper.refusal k) × (v ≡ word)) _ _ ((w ≡ v) × (r ≡ t))
    (λ k x y. (x.1 ∙ sym y.1, x.0 ∙ sym y.0))
    (λ passed x y. let (listed, (right, (size, (slim, others)))) = passed in
    let law = lawful_of (to s) listed right in
    let hw = word_of (to s) law size slim in
    let (k, a) = within_near (to s) hw x.0 in
    let (c, b) = within_near (to s) hw y.0 in
    let e : w ≡ v = sym (nearest_meant.gives (to s) law refl word w k a).word ∙ (nearest_meant.gives (to s) law refl word v c b).word in
    (e, same_changed s word e x.1 y.1))

pub restoring_once : (s : paper.Shape) (word places scratch : List ℕ) {w v x₁ x₂ : List ℕ} {r t : ℕ} → paper.Restoring s word places scratch w x₁ r → paper.Restoring s word places scratch v x₂ t
    → (w ≡ v) × (x₁ ≡ x₂) × (r ≡ t)
restoring_once s word places scratch {w} {v} {x₁} {x₂} {r} {t} =
    judged_once (paper.restore_tests s word places scratch)
    (λ k. (r ≡ paper.refusal k) × (w ≡ word) × (x₁ ≡ paper.scratch_left k scratch)) (λ k. (t ≡ paper.refusal k) × (v ≡ word) × (x₂ ≡ paper.scratch_left k scratch)) _ _
    ((w ≡ v) × (x₁ ≡ x₂) × (r ≡ t))
    (λ k x y. (x.1 ∙ sym y.1, x.2 ∙ sym y.2, x.0 ∙ sym y.0))
    (λ passed x y. let (listed, (right, (size, (slim, (up, (some, (single, others))))))) = passed in
    let e : w ≡ v = alike w v (x.0.stored.digits.number ∙ sym y.0.stored.digits.number) (λ differ. single (w, v, x.0, y.0, differ)) in
    (e, x.2 ∙ sym y.2, same_changed s word e x.1 y.1))
