-- Reading by vote does what the paper asks, and changes each digit as the paper says.
use mathlib.Core.Path.{◌≡◌, refl, ap, ◌∙◌}
use mathlib.Core.List.{List}
use Prim.Native.Nat.{ℕ, ◌+◌, ◌/◌, ◌<◌, ◌^◌}
use native.Mathlib.Omega.{arith}
use lib.Dec.{eqb}
use Rattle.parity.specs.Xor.{◌⊕◌}
use Rattle.parity.proofs.Xors.{zero_r}
use Rattle.parity.proofs.Sums.{count_cong}
use Rattle.paper.specs.Paper as paper
use Rattle.gtb.specs.declared.Shape.{Shape}
use Rattle.gtb.specs.Shape.{of, word_length}
use Rattle.gtb.specs.Square.{at}
use Rattle.gtb.specs.Answer.{refusal_number, answer_number}
use Rattle.distance.specs.Distance.{Near}
use Rattle.distance.proofs.Within.{near_within, within_near}
use Rattle.std.specs.Prelude.{Result, Ok, Err}
use Rattle.gtb.specs.declared.Refusal.{Refusal}
use Rattle.correction.specs.Error.{on_check, shows}
use Rattle.correction.specs.Answer.{decoded_word}
use Rattle.correction.specs.Reading.{restored_by}
use Rattle.correction.proofs.Errors.{mended_at}
use Rattle.correction.proofs.Paper.{on_check_lem, every_shape, Named, reading}
use Rattle.majority.specs.Majority.{voted_at, vote, Voting}
use Rattle.majority.proofs.Votes.{majority_none, majority_most}

pub vote_named : (s : Shape) → Named 1 vote (λ s. Near s (s.n / 2)) s
vote_named s = record {
  number = refl;
  suits = λ law. every_shape s (λ h. omega arith);
  read = near_within s;
  means = within_near s;
  changed = λ x. x.changed;
}

-- ---- how the vote changes a word
module _ {s : Shape} {w w' : List ℕ} {r : Result ℕ Refusal} (x : Voting s w w' r) where
  -- as many checks show a value
  votes_same : (j y : ℕ) → shows s.n (on_check s (at w) j) y ≡ paper.votes (of s) w j y
  unfolding shows
  votes_same j y = count_cong s.n _ _ (λ t l. ap (λ (z : ℕ). eqb z y) (on_check_lem s w t j))

  voted_at_lem : (k : ℕ) → r ≡ Ok k → (j : ℕ) → j < word_length s → at w' j ≡ at w j ⊕ voted_at s (at w) j
  unfolding restored_by
  voted_at_lem k h j l = ap (λ (u : List ℕ). at u j) (x.word ∙ ap (decoded_word w (restored_by vote s w)) h) ∙ mended_at s w (voted_at s (at w)) j l

  pub voted : (k : ℕ) → r ≡ Ok k → paper.Voted (of s) w w'
  unfolding voted_at
  voted k h = record {
    moved = λ j y l some most. voted_at_lem k h j l ∙ ap (λ (z : ℕ). at w j ⊕ z) (majority_most s.n (on_check s (at w) j) y some (rw (votes_same j y) most));
    kept = λ j l few.
        voted_at_lem k h j l
        ∙ ap (λ (z : ℕ). at w j ⊕ z) (majority_none s.n (on_check s (at w) j) (λ y some. rw (votes_same j y) (few y some)))
        ∙ zero_r (at w j);
  }

  voted_below : (d : Result ℕ Refusal) → r ≡ d → answer_number r < 2 ^ 31 → paper.Voted (of s) w w'
  voted_below (Ok k) h l = voted k h
  voted_below (Err e) h l = absurd (let z : answer_number r ≡ 2 ^ 31 + refusal_number e = ap answer_number h in omega arith)

  -- the entry's clauses
  pub vote_asked : Voting s w w' r × (paper.Reading (of s) 1 w w' (answer_number r) × (answer_number r < 2 ^ 31 → paper.Voted (of s) w w'))
  vote_asked = (x, (reading (vote_named s) x, voted_below r refl))
