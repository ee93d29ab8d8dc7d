-- Arrivals of words that were restored first: any damage to at most n - 1 digits (RULES 3.5), or any at listed places and to few digits beside (RULES 3.6).
use Rattle.std.specs.Prelude.{◌≡◌, true, ◌⊎◌, List, ℕ, ◌-◌, ◌*◌, ◌<◌, ◌≤◌, length, Result}
use Rattle.gtb.specs.declared.Shape.{Shape}
use Rattle.gtb.specs.declared.Refusal.{Refusal}
use Rattle.gtb.specs.Shape.{word_length, scratch_length}
use Rattle.gtb.specs.Square.{at, Word}
use Rattle.gtb.specs.Positions.{Encodes}
use Rattle.correction.specs.Error.{weight, damaged}
use Rattle.erasure.specs.Fill.{rising}
use Rattle.nearest.specs.Nearest.{Restoring}
use Rattle.restore.specs.Restore.{reach, weight_beside, Recovering}
use Rattle.session.specs.Arrival.{the_ways}
use Rattle.session.specs.Recording.{Sheet, sheet_at, symbols_of, Arrival, arrival_at, Brings, TurnedDown}

-- the error is on at most n - 1 digits, clean or not; decode_nearest was called on the word that came, whatever it answered, and left this one
pub record ByNearest (s : Shape) (stored error left : List ℕ) : Type 0 where
  pub few : weight s (at error) ≤ s.n - 1
  pub answer : Result ℕ Refusal
  pub restoring : Restoring s (damaged stored error) left answer

-- the error is on the places of a list that leaves no choice, and on no more digits beside than are in reach; restore was called on the word that came with
-- this list and a scratch of the right length, whatever it answered, and left this one
pub record ByRestore (s : Shape) (stored error left : List ℕ) : Type 0 where
  pub places : List ℕ
  pub rises : rising (word_length s) places ≡ true
  pub choice : length places ≤ 2 * s.n - 1
  pub few : weight_beside s places (at error) ≤ reach s (length places)
  pub lent : List ℕ
  pub size : length lent ≡ scratch_length s
  pub lent_after : List ℕ
  pub answer : Result ℕ Refusal
  pub recovering : Recovering s (damaged stored error) places lent left lent_after answer

-- the stored word of a page came damaged; one of the two restored it; and the word that this left is handed in the clean way, number 0, with a scratch of
-- the right length
pub record Repaired (s : Shape) (a : Arrival) (p : Sheet) : Type 0 where
  pub stored : List ℕ
  pub encodes : Encodes s (symbols_of s p) stored
  pub error : List ℕ
  pub damage : Word s error
  pub restored : ByNearest s stored error a.word ⊎ ByRestore s stored error a.word
  pub way : a.way ≡ 0
  pub scratch : length a.scratch ≡ scratch_length s

-- a page is brought as it came, with damage that the arrival's way allows, or restored first
abbrev pub Brought : Shape → Arrival → Sheet → Type 0
Brought s a p = ((k : ℕ) × Brings the_ways s a p k) ⊎ Repaired s a p

-- each arrival is turned down or brings a page of the recording in one of the two ways, and each page comes at least once
pub record RepairedFits (s : Shape) (pages : List Sheet) (arrivals : List Arrival) : Type 0 where
  pub each : (j : ℕ) → j < length arrivals
      → ((e : Refusal) × TurnedDown the_ways s (arrival_at arrivals j) e)
      ⊎ ((i : ℕ) × (i < length pages) × Brought s (arrival_at arrivals j) (sheet_at pages i))
  pub every : (i : ℕ) → i < length pages → (j : ℕ) × (j < length arrivals) × Brought s (arrival_at arrivals j) (sheet_at pages i)
