-- What the private steps of reading two wrong symbols establish. They see the syndromes in their table alone, `syn` here: check t × q + L at that place.
use Rattle.std.specs.Prelude.{◌≡◌, true, false, not, List, Option, Some, None, ℕ, ◌+◌, ◌*◌, ◌^◌, ◌<◌, ◌≤◌, eqb}
use Rattle.parity.specs.Xor.{◌⊕◌, when}
use Rattle.parity.specs.Count.{count}
use Rattle.gtb.specs.declared.Shape.{Shape}
use Rattle.gtb.specs.Shape.{word_length}
use Rattle.gtb.specs.Square.{line_of, at, silent_test, Word, Syndromes}
use Rattle.distance.specs.Distance.{Near}
use Rattle.correction.specs.Error.{mended}
use Rattle.double.specs.declared.Pair.{Pair}

-- x at position a and y at position b, as an error
unfoldable pub pair_of : ℕ → ℕ → ℕ → ℕ → ℕ → ℕ
pair_of a x b y j = when (eqb j a) x ⊕ when (eqb j b) y

-- the first line of direction t that is not silent, and the last; any line where all are silent
pub record FirstLine (s : Shape) (syn : List ℕ) (t r : ℕ) : Type 0 where
  pub below : r < s.q
  pub first : (L : ℕ) → L < s.q → (at syn (t * s.q + L) ≡ 0 → ⊥) → (r ≤ L) × (at syn (t * s.q + r) ≡ 0 → ⊥)

pub record LastLine (s : Shape) (syn : List ℕ) (t r : ℕ) : Type 0 where
  pub below : r < s.q
  pub last : (L : ℕ) → L < s.q → (at syn (t * s.q + L) ≡ 0 → ⊥) → (L ≤ r) × (at syn (t * s.q + r) ≡ 0 → ⊥)

-- j is a position, and the one on line a of direction t and line b of direction u
pub record Crosses (s : Shape) (t u a b j : ℕ) : Type 0 where
  pub below : j < word_length s
  pub meets : (i : ℕ) → i < word_length s → line_of s t i ≡ a → line_of s u i ≡ b → i ≡ j

-- the word of the table with a pair taken off
abbrev pub without : Shape → List ℕ → Pair → List ℕ
without s w p = mended s w (pair_of p.a p.x p.b p.y)

-- a pair tried: given if it silences every check
abbrev pub Tried : Shape → List ℕ → Pair → Option Pair → Type 0
Tried s syn p (Some r) = (r ≡ p) × ((w : List ℕ) → Syndromes s w syn → silent_test s (at (without s w p)) ≡ true)
Tried s syn p None = (w : List ℕ) → Syndromes s w syn → silent_test s (at (without s w p)) ≡ false

-- v is another symbol than w at no two positions of one line of direction t
pub record Parts (s : Shape) (w v : List ℕ) (t : ℕ) : Type 0 where
  pub parts : (i j : ℕ) → i < word_length s → j < word_length s → (at w i ≡ at v i → ⊥) → (at w j ≡ at v j → ⊥) → line_of s t i ≡ line_of s t j → i ≡ j

-- a pair of corrections of the table's word, which silence every check
pub record Proposed (s : Shape) (syn : List ℕ) (p : Pair) : Type 0 where
  pub below_a : p.a < word_length s
  pub below_b : p.b < word_length s
  pub width : (w : List ℕ) → Word s w → Syndromes s w syn → (p.x < 2 ^ s.b) × (p.y < 2 ^ s.b)
  pub works : (w : List ℕ) → Syndromes s w syn → silent_test s (at (without s w p)) ≡ true

-- found by two directions, if each parts the wrong symbols
abbrev pub Attempted : Shape → List ℕ → ℕ → ℕ → Option Pair → Type 0
Attempted s syn t u (Some p) = Proposed s syn p
Attempted s syn t u None = (w v : List ℕ) (k : ℕ) → Syndromes s w syn → Near s 2 w v k → Parts s w v t → Parts s w v u → ⊥

-- found, if at most two symbols are wrong
abbrev pub FoundTwo : Shape → List ℕ → Option Pair → Type 0
FoundTwo s syn (Some p) = Proposed s syn p
FoundTwo s syn None = (w v : List ℕ) (k : ℕ) → Syndromes s w syn → Near s 2 w v k → ⊥

-- how many positions a pair changes
unfoldable pub pair_changes : Shape → Pair → ℕ
pair_changes s p = count (word_length s) (λ j. not (eqb (pair_of p.a p.x p.b p.y j) 0))
