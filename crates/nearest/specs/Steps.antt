-- What the private steps of the search for the nearest codeword establish. They see the syndromes in their table alone, `syn` here: check t × q + L at that place.
use Rattle.std.specs.Prelude.{◌≡◌, List, Option, Some, None, ℕ, ◌^◌, ◌<◌, ◌≤◌}
use Rattle.parity.specs.Xor.{◌⊕◌}
use Rattle.gtb.specs.declared.Shape.{Shape}
use Rattle.gtb.specs.Square.{at, Word, Syndromes}
use Rattle.distance.specs.Distance.{Near}
use Rattle.correction.specs.Error.{mended}
use Rattle.correction.specs.Steps.{Within, Lists}

-- x is as narrow as the symbols of a word with these syndromes
pub record Narrow (s : Shape) (syn : List ℕ) (x : ℕ) : Type 0 where
  pub width : (w : List ℕ) → Word s w → Syndromes s w syn → x < 2 ^ s.b

-- k places with an error each give a codeword, which differs at no more positions
pub record Restores (s : Shape) (w : List ℕ) (k : ℕ) (places errors : List ℕ) : Type 0 where
  pub error : ℕ → ℕ
  pub listed : Lists s error k places errors
  pub changed : ℕ
  pub near : Near s k w (mended s w error) changed

-- c places with an error each, k at most, restore every word with these syndromes
pub record Restored (s : Shape) (k : ℕ) (syn places errors : List ℕ) (c : ℕ) : Type 0 where
  pub few : c ≤ k
  pub within : Within s c places
  pub restores : (w : List ℕ) → Word s w → Syndromes s w syn → Restores s w c places errors

-- no codeword is within k of such a word
abbrev pub Far : Shape → ℕ → List ℕ → Type 0
Far s k syn = (w v : List ℕ) (c : ℕ) → Syndromes s w syn → Near s k w v c → ⊥

-- a codeword within k has the same symbol as the word at position j
abbrev pub Alike : Shape → ℕ → ℕ → List ℕ → Type 0
Alike s k j syn = (w v : List ℕ) (c : ℕ) → Syndromes s w syn → Near s k w v c → at w j ⊕ at v j ≡ 0

-- a codeword within k differs there by another value than x, or x is 0
abbrev pub Otherwise : Shape → ℕ → ℕ → ℕ → List ℕ → Type 0
Otherwise s k j x syn = (w v : List ℕ) (c : ℕ) → Syndromes s w syn → Near s k w v c → at w j ⊕ at v j ≡ x → x ≡ 0

-- how many corrections stand in the lists; or none do: then the table is as it came, and `none` holds
abbrev pub Tried : Shape → ℕ → Type 0 → List ℕ → List ℕ → List ℕ → List ℕ → Option ℕ → Type 0
Tried s k none syn syn' places errors (Some c) = Restored s k syn places errors c
Tried s k none syn syn' places errors None = (syn' ≡ syn) × none

abbrev pub Searched : Shape → ℕ → List ℕ → List ℕ → List ℕ → List ℕ → Option ℕ → Type 0
Searched s k syn = Tried s k (Far s k syn) syn

abbrev pub Visited : Shape → ℕ → ℕ → List ℕ → List ℕ → List ℕ → List ℕ → Option ℕ → Type 0
Visited s k j syn = Tried s k (Alike s k j syn) syn

abbrev pub Attempted : Shape → ℕ → ℕ → ℕ → List ℕ → List ℕ → List ℕ → List ℕ → Option ℕ → Type 0
Attempted s k j x syn = Tried s k (Otherwise s k j x syn) syn
