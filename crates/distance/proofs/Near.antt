-- Codewords near a word: a codeword is near itself, and below n wrong symbols there is one at most.
use mathlib.Core.Path.{◌≡◌, refl, ap}
use mathlib.Core.Bool.{not}
use mathlib.Core.List.{List}
use Prim.Native.Nat.{ℕ, ◌<◌, ◌≤◌, zero-le}
use native.Mathlib.Omega.{arith}
use borrow.Author.Tests.{eq-eqb}
use Rattle.parity.proofs.Sums.{count_none}
use Rattle.gtb.specs.declared.Shape.{Shape}
use Rattle.gtb.specs.Shape.{Lawful, word_length}
use Rattle.gtb.specs.Square.{at, Codeword}
use Rattle.distance.specs.Distance.{differences, minimum_distance, Near}
use Rattle.distance.proofs.Differences.{differs}
use Rattle.distance.proofs.Distance.{within_unique}

-- the limit is only a bound
pub near_within : {s : Shape} {l m k : ℕ} {w v : List ℕ} → Near s l w v k → k ≤ m → Near s m w v k
near_within x few = record { word = x.word; codeword = x.codeword; changed = x.changed; few = few }

pub near_self : {s : Shape} {l : ℕ} {w : List ℕ} → Codeword s w → Near s l w w 0
unfolding differences
near_self {s} {l} {w} c = record {
  word = c.word;
  codeword = c;
  changed = count_none (word_length s) (differs w w) (λ j lj. ap not (eq-eqb (at w j) (at w j) refl));
  few = zero-le;
}

-- two within l symbols of a word are within 2l of each other
pub near_unique : (s : Shape) → Lawful s → (l : ℕ) → l < s.n → (w v v' : List ℕ) (k k' : ℕ) → Near s l w v k → Near s l w v' k' → (v ≡ v') × (k ≡ k')
unfolding minimum_distance
near_unique s law l few = within_unique s law l (omega arith)
