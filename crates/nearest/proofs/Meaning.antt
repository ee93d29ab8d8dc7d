-- What reading the nearest codeword means: it accepts exactly where a codeword differs in at most n - 1 symbols, and gives that codeword and their number.
use mathlib.Core.Path.{◌≡◌, refl, sym, ap, ◌∙◌}
use mathlib.Core.List.{List}
use mathlib.Core.Logic.{◌↔◌, ⊎_elim}
use Prim.Native.Nat.{ℕ, ◌-◌, ◌^◌, ◌<◌, ◌≤◌}
use lib.Pow.{pow_pos}
use Rattle.gtb.specs.declared.Shape.{Shape}
use Rattle.gtb.specs.declared.Refusal.{Refusal}
use Rattle.gtb.specs.Shape.{Lawful}
use Rattle.gtb.specs.Square.{line_of, at, Word, Codeword}
use Rattle.gtb.proofs.Rows.{syndrome_width}
use Rattle.gtb.proofs.Words.{word_status_lem}
use Rattle.distance.specs.Distance.{Near}
use Rattle.std.specs.Prelude.{Result, Ok, Err}
use Rattle.correction.specs.Error.{weight, damaged}
use Rattle.correction.specs.Answer.{decoded_word}
use Rattle.correction.specs.Steps.{tests_of}
use Rattle.correction.proofs.Near.{damaged_near, near_meant}
use Rattle.correction.proofs.Readings.{Meant, leaves, means_read, means_unique, read_means, meets, answers}
use Rattle.nearest.specs.Nearest.{nearest_at, nearest, nearest_of, nearest_word, Restoring}
use Rattle.nearest.proofs.Equation.{change_cases, change_right}

-- the change at a position is a check's value, or 0
nearest_narrow : (s : Shape) (w : List ℕ) → Word s w → (j : ℕ) → nearest_at s (at w) j < 2 ^ s.b
nearest_narrow s w hw j =
    ⊎_elim (λ found. rw found.3 (syndrome_width s (at w) s.b found.0 (line_of s found.0 j) (λ i l. hw.width i))) (λ none. rw none.1 (pow_pos s.b))
    (change_cases s (at w) j)

pub nearest_meant : Meant nearest (λ s. Near s (nearest.bound s))
nearest_meant = near_meant nearest refl (λ s f j. refl) (λ s w hw j l. nearest_narrow s w hw j) (λ s law fits. change_right s law)

-- a word with a codeword that near is accepted, with that codeword and that number, and there is one at most
pub near_nearest : (s : Shape) → Lawful s → (w v : List ℕ) (k : ℕ) → Near s (s.n - 1) w v k → (nearest_of s w ≡ Ok k) × (nearest_word s w ≡ v)
near_nearest s law = means_read nearest_meant s law refl

pub nearest_unique : (s : Shape) → Lawful s → (w v v' : List ℕ) (k k' : ℕ) → Near s (s.n - 1) w v k → Near s (s.n - 1) w v' k' → (v ≡ v') × (k ≡ k')
nearest_unique s law = means_unique nearest_meant s law refl

-- so it accepts exactly where there is one
pub nearest_exactly : (s : Shape) → Lawful s → (w : List ℕ)
    → ((k : ℕ) × (nearest_of s w ≡ Ok k)) ↔ ((v : List ℕ) × (k : ℕ) × Near s (s.n - 1) w v k)
nearest_exactly s law w = (
  λ h. (nearest_word s w, h.0, read_means nearest_meant s w h.0 h.1),
  λ h. (h.1, (near_nearest s law w h.0 h.1 h.2).0),
)

-- any damage to at most n - 1 symbols is undone
pub nearest_right : (s : Shape) → Lawful s → (v e : List ℕ) → Codeword s v → Word s e → weight s (at e) ≤ s.n - 1
    → (nearest_of s (damaged v e) ≡ Ok (weight s (at e))) × (nearest_word s (damaged v e) ≡ v)
nearest_right s law v e hv he few = near_nearest s law (damaged v e) v (weight s (at e)) (damaged_near s (s.n - 1) v e hv he few)

-- what the contract leaves of a word that a codeword is near
pub restoring_near : {s : Shape} {w w' v : List ℕ} {r : Result ℕ Refusal} {k : ℕ} → Lawful s → Restoring s w w' r → Near s (s.n - 1) w v k → (r ≡ Ok k) × (w' ≡ v)
restoring_near {s} {w} {w'} {v} {r} {k} law given x =
    let (answer, word) = near_nearest s law w v k x in
    let is : r ≡ Ok k = given.answer ∙ answer in
    (is, given.word ∙ ap (decoded_word w (nearest_word s w)) is ∙ word)

-- and of one that none is near
pub far_refused : (s : Shape) → Lawful s → (w : List ℕ) → Word s w → ((v : List ℕ) (k : ℕ) → Near s (s.n - 1) w v k → ⊥) → nearest_of s w ≡ Err Refusal.Far
unfolding tests_of
far_refused s law w hw none =
    sym (answers nearest_meant s (rw law (word_status_lem s w hw)) (leaves nearest_meant s law refl w hw none)).answer

-- for every shape and word: the answer by equation, and what it means
pub nearest_meets : (s : Shape) (w : List ℕ) → Restoring s w (decoded_word w (nearest_word s w) (nearest_of s w)) (nearest_of s w)
nearest_meets = meets nearest_meant
