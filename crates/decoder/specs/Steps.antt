-- What the private steps of reading establish. They see the syndromes in their table alone, `syn` here: check t × q + L at that place.
use Rattle.std.specs.Prelude.{◌≡◌, Bool, false, not, cond, ◌&&◌, List, ℕ, ◌+◌, ◌*◌, ◌<◌, eqb}
use Rattle.parity.specs.Count.{any, all, lowest_not, first_value}
use Rattle.gtb.specs.declared.Shape.{Shape}
use Rattle.gtb.specs.Square.{line_of, at}
use Rattle.correction.specs.Error.{check_of}
use Rattle.decoder.specs.declared.locate.Judgement.{Judgement}

-- `located` by the table: all n checks on position j are nonzero
unfoldable pub judged : Shape → List ℕ → ℕ → Bool
judged s syn j = all s.n (λ t. not (eqb (at syn (check_of s j t)) 0))

-- `looked_at` by the table: the checks on j in rising direction, up to and with the first silent one, or all n
unfoldable pub looked_in : Shape → List ℕ → ℕ → ℕ
looked_in s syn j = cond (judged s syn j) s.n (lowest_not s.n (λ t. not (eqb (at syn (check_of s j t)) 0)) + 1)

-- the judging of one position
pub record Judges (s : Shape) (syn : List ℕ) (j : ℕ) (r : Judgement) : Type 0 where
  pub located : r.located ≡ judged s syn j
  pub looked : r.looked ≡ looked_in s syn j

-- a row whose own check is silent is passed over as a whole: each of its positions is then judged, with one look
pub record PassedOver (s : Shape) (syn : List ℕ) (row : ℕ) : Type 0 where
  pub located : (c : ℕ) → c < s.q → judged s syn (row * s.q + c) ≡ false
  pub looked : (c : ℕ) → c < s.q → looked_in s syn (row * s.q + c) ≡ 1

-- i is another position than j on the check of direction t on j
unfoldable pub shares : Shape → ℕ → ℕ → ℕ → Bool
shares s t j i = not (eqb i j) && eqb (line_of s t i) (line_of s t j)

-- `alone` by a list: no other of the first k places is on the check of direction t on j
unfoldable pub alone_among_places : Shape → List ℕ → ℕ → ℕ → ℕ → Bool
alone_among_places s places k j t = not (any k (λ x. shares s t j (at places x)))

-- `error_at` a located position, by the table and the list
unfoldable pub error_among : Shape → List ℕ → List ℕ → ℕ → ℕ → ℕ
error_among s syn places k j = first_value s.n (alone_among_places s places k j) (λ t. at syn (check_of s j t))
