-- What reading by vote means: it accepts exactly where a codeword differs in at most n/2 symbols, and gives that codeword and their number.
use mathlib.Core.Path.{◌≡◌, refl}
use mathlib.Core.Bool.{not, ◌&&◌}
use mathlib.Core.List.{List}
use mathlib.Core.Logic.{⊎_elim}
use Prim.Native.Nat.{ℕ, ◌/◌, ◌^◌, ◌<◌, ◌≤◌}
use native.Mathlib.Omega.{arith}
use lib.Dec.{eqb}
use lib.Pow.{pow_pos}
use borrow.Author.Tests.{ne_eqb}
use Rattle.parity.specs.Count.{count}
use Rattle.parity.proofs.Tests.{not_of_false}
use Rattle.parity.proofs.Pigeon.{others_le, count_others}
use Rattle.gtb.specs.declared.Shape.{Shape}
use Rattle.gtb.specs.Shape.{Lawful, word_length}
use Rattle.gtb.specs.Square.{line_of, at, Word, Codeword}
use Rattle.gtb.proofs.Rows.{syndrome_width}
use Rattle.distance.specs.Distance.{Near}
use Rattle.std.specs.Prelude.{Ok}
use Rattle.correction.specs.Error.{weight, damaged, on_check}
use Rattle.correction.specs.Answer.{decoded_word}
use Rattle.correction.proofs.Near.{error_of, support, error_size, damaged_near, near_meant}
use Rattle.correction.proofs.Guessing.{most_show}
use Rattle.correction.proofs.Readings.{Meant, means_read, meets}
use Rattle.majority.specs.Majority.{majority, voted_at, vote, majority_of, voted, Voting}
use Rattle.majority.proofs.Votes.{majority_is, majority_among}

-- so the vote finds the error everywhere
pub vote_exact : (s : Shape) → Lawful s → (w v : List ℕ) (k : ℕ) → Near s (s.n / 2) w v k → (j : ℕ) → j < word_length s → voted_at s (at w) j ≡ error_of w v j
unfolding voted_at
vote_exact s law w v k near j lj =
    let size : count (word_length s) (support w v) ≤ s.n / 2 = omega (arith, error_size s w v, near.changed, near.few) in
    majority_is s.n (count (word_length s) (λ i. support w v i && not (eqb i j))) (on_check s (at w) j) (error_of w v j) (most_show law near j lj)
    (omega (arith, others_le (word_length s) (support w v) j))
    (λ nz. omega (arith, count_others (word_length s) (support w v) j lj (not_of_false (ne_eqb (error_of w v j) 0 nz))))

-- a change is 0 or what a check shows, so below 2^b
pub vote_narrow : (s : Shape) (w : List ℕ) → Word s w → (j : ℕ) → voted_at s (at w) j < 2 ^ s.b
unfolding voted_at
vote_narrow s w hw j =
    ⊎_elim (λ (z : majority s.n (on_check s (at w) j) ≡ 0). rw z (pow_pos s.b))
    (λ (h : (t : ℕ) × (t < s.n) × (majority s.n (on_check s (at w) j) ≡ on_check s (at w) j t)).
    let (t, lt, e) = h in
    rw e (syndrome_width s (at w) s.b t (line_of s t j) (λ i l. hw.width i)))
    (majority_among s.n (on_check s (at w) j))

pub vote_meant : Meant vote (λ s. Near s (s.n / 2))
vote_meant = near_meant vote refl (λ s f j. refl) (λ s w hw j l. vote_narrow s w hw j) (λ s law fits. vote_exact s law)

-- a word with a codeword that near is accepted, with that codeword and that number
pub near_majority : (s : Shape) → Lawful s → (w v : List ℕ) (k : ℕ) → Near s (s.n / 2) w v k → (majority_of s w ≡ Ok k) × (voted s w ≡ v)
near_majority s law = means_read vote_meant s law refl

-- any damage to at most n/2 symbols is undone
pub majority_right : (s : Shape) → Lawful s → (v e : List ℕ) → Codeword s v → Word s e → weight s (at e) ≤ s.n / 2
    → (majority_of s (damaged v e) ≡ Ok (weight s (at e))) × (voted s (damaged v e) ≡ v)
majority_right s law v e hv he few = near_majority s law (damaged v e) v (weight s (at e)) (damaged_near s (s.n / 2) v e hv he few)

-- for every shape and word: the answer by equation, and what it means
pub majority_meets : (s : Shape) (w : List ℕ) → Voting s w (decoded_word w (voted s w) (majority_of s w)) (majority_of s w)
majority_meets = meets vote_meant
