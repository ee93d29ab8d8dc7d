-- Demand 3 of arrivals whose words were restored first, by the nearest codeword or with a list of dead cells.
use Rattle.std.specs.Prelude.{Result, Ok}
use mathlib.Core.Path.{◌≡◌, refl, ◌∙◌}
use mathlib.Core.Bool.{true}
use mathlib.Core.List.{List}
use mathlib.Core.Logic.{◌⊎◌, inl, inr, ⊎_elim}
use Prim.Native.Nat.{ℕ, ◌-◌, ◌*◌, ◌≤◌, zero-le}
use native.Mathlib.Omega.{arith}
use lib.ListN.{length, replicate, length-replicate}
use Rattle.gtb.specs.declared.Shape.{Shape}
use Rattle.gtb.specs.Shape.{Lawful, word_length, scratch_length}
use Rattle.gtb.specs.Square.{at, Word, Codeword}
use Rattle.gtb.specs.Positions.{Encodes}
use Rattle.gtb.proofs.Bounds.{bounds}
use Rattle.distance.specs.Distance.{differences, minimum_distance, Near}
use Rattle.correction.specs.Error.{weight, damaged}
use Rattle.correction.specs.Answer.{decoded_word}
use Rattle.correction.proofs.Errors.{damaged_word}
use Rattle.correction.proofs.Near.{damaged_near, near_damages}
use Rattle.erasure.specs.Fill.{rising}
use Rattle.erasure.proofs.Filling.{tests_pass}
use Rattle.nearest.specs.Nearest.{nearest, nearest_of, nearest_word}
use Rattle.nearest.proofs.Meaning.{nearest_meant, nearest_meets}
use Rattle.nearest.proofs.Alikes.{nearest_alike}
use Rattle.restore.specs.Restore.{reach, weight_beside}
use Rattle.restore.proofs.Recovering.{recovering_there, restore_right, damage_reaches}
use Rattle.session.specs.declared.Session.{Session}
use Rattle.session.specs.declared.Unlawful.{Unlawful}
use Rattle.session.specs.declared.Outcome.{Outcome}
use Rattle.session.specs.Session.{begun_session, Beginning}
use Rattle.session.specs.Arrival.{way_by, is_way, way_of, the_ways}
use Rattle.session.specs.Recording.{Sheet, symbols_of, Recording, Arrival, Brings, Fits}
use Rattle.session.specs.Claim.{Run, Demand3}
use Rattle.session.proofs.NoDamage.{no_damage, no_damage_word, no_damage_clean, no_damage_weight, no_damage_same}
use Rattle.session.proofs.Asked.{Asked, asked}
use Rattle.session.proofs.Demand.{demand3_ways}
use Rattle.repair.specs.Repair.{ByNearest, ByRestore, Repaired, Brought, RepairedFits}
use Rattle.repair.proofs.Empty.{nearest_restore}

-- ---- the clean way and no damage
clean_known : (k : ℕ) → k ≡ 0 → is_way k ≡ true
unfolding is_way
clean_known k e = rw e

clean_allowed : (s : Shape) (k : ℕ) → k ≡ 0 → (way_of k).Allowed s (at (no_damage s))
unfolding way_of
clean_allowed s k e = rw e (no_damage_clean s, rw (no_damage_weight s) zero-le)

-- ---- a restored word is the stored one
restored_by_list : {s : Shape} {stored error left : List ℕ} → Lawful s → Codeword s stored → Word s error → ByRestore s stored error left → left ≡ stored
unfolding minimum_distance
restored_by_list {s} {stored} {error} law code damage x =
    (restore_right (tests_pass s (damaged stored error) x.places x.lent law (damaged_word s stored error code.word damage) x.size x.rises) (omega (arith, x.choice, (bounds s law).n2))
    (damage_reaches s stored error x.places code damage x.few) x.recovering).1

-- the nearest codeword is the list with no places
pub restored_same : {s : Shape} {stored error left : List ℕ} → Lawful s → Codeword s stored → Word s error → ByNearest s stored error left ⊎ ByRestore s stored error left → left ≡ stored
restored_same law code damage (inl x) = restored_by_list law code damage (nearest_restore law code damage x)
restored_same law code damage (inr x) = restored_by_list law code damage x

-- so that the arrival brings the page undamaged
pub repaired_brings : {s : Shape} {a : Arrival} {p : Sheet} → Lawful s → Repaired s a p → Brings the_ways s a p 0
repaired_brings {s} {a} {p} law x = record {
  known = clean_known a.way x.way;
  stored = x.stored;
  encodes = x.encodes;
  error = no_damage s;
  damage = no_damage_word s;
  allowed = clean_allowed s a.way x.way;
  changed = no_damage_weight s;
  word = restored_same law x.encodes.codeword x.damage x.restored ∙ no_damage_same s x.stored;
  scratch = x.scratch;
}

brought : {s : Shape} {a : Arrival} {p : Sheet} → Lawful s → Brought s a p → (k : ℕ) × Brings the_ways s a p k
brought law (inl x) = x
brought law (inr x) = (0, repaired_brings law x)

repaired_fits : {s : Shape} {pages : List Sheet} {arrivals : List Arrival} → Lawful s → RepairedFits s pages arrivals → Fits the_ways s pages arrivals
repaired_fits law f = record {
  each = λ j l. ⊎_elim (λ t. inl t) (λ b. let (k, y) = brought law b.2 in inr (b.0, b.1, k, y)) (f.each j l);
  every = λ i l. let b = f.every i l in let (k, y) = brought law b.2 in (b.0, b.1, k, y);
}

-- demand 3
pub repaired_demand3 : (s : Shape) (pages : List Sheet) (arrivals : List Arrival) (answers : List Outcome) (begin : Result Session Unlawful) (end : Session)
    → Recording s pages → RepairedFits s pages arrivals → Beginning s begin → Run the_ways (begun_session begin) arrivals answers end
    → Demand3 the_ways s pages begin arrivals answers end
repaired_demand3 s pages arrivals answers begin end r f = demand3_ways s pages arrivals answers begin end r (repaired_fits r.lawful f)

-- ---- such an arrival is there for every page and every damage to at most n - 1 digits
pub repaired_any : (s : Shape) (p : Sheet) (stored error : List ℕ) → Encodes s (symbols_of s p) stored → Word s error → weight s (at error) ≤ s.n - 1
    → (a : Arrival) × Repaired s a p
repaired_any s p stored error encodes damage few =
    let came : List ℕ = damaged stored error in (
      record { way = 0; word = decoded_word came (nearest_word s came) (nearest_of s came); scratch = replicate (scratch_length s) 0 },
      record {
        stored = stored;
        encodes = encodes;
        error = error;
        damage = damage;
        restored = inl (record { few = few; answer = nearest_of s came; restoring = nearest_meets s came });
        way = refl;
        scratch = length-replicate (scratch_length s) 0;
      },
    )

-- and for every lawful list of at most 2 n - 1 places, every damage there and to as many digits beside as are in reach
pub repaired_listed : (s : Shape) → Lawful s → (p : Sheet) (stored error places : List ℕ) → Encodes s (symbols_of s p) stored → Word s error
    → rising (word_length s) places ≡ true → length places ≤ 2 * s.n - 1 → weight_beside s places (at error) ≤ reach s (length places) → (a : Arrival) × Repaired s a p
unfolding minimum_distance
repaired_listed s law p stored error places encodes damage rises choice few =
    let lent : List ℕ = replicate (scratch_length s) 0 in
    let size : length lent ≡ scratch_length s = length-replicate (scratch_length s) 0 in (
      record { way = 0; word = stored; scratch = lent },
      record {
        stored = stored;
        encodes = encodes;
        error = error;
        damage = damage;
        restored =
            inr
            (record {
              places = places;
              rises = rises;
              choice = choice;
              few = few;
              lent = lent;
              size = size;
              lent_after = replicate (length lent) 0;
              answer = Ok (differences s stored (damaged stored error));
              recovering =
                  recovering_there (tests_pass s (damaged stored error) places lent law (damaged_word s stored error encodes.codeword.word damage) size rises) (omega (arith, (bounds s law).n2))
                  (damage_reaches s stored error places encodes.codeword damage few);
            });
        way = refl;
        scratch = size;
      },
    )

-- ---- and as a way of an arrival, which it is not, it would be sound
pub nearest_asked : Asked (way_by nearest (λ s e. weight s e ≤ s.n - 1))
nearest_asked =
    asked nearest (λ s. Near s (s.n - 1)) _ nearest_meant nearest_alike refl (λ s v e stored word few. (refl, damaged_near s (s.n - 1) v e stored word few))
    (λ s w v k fits x. let d = near_damages x in record { codeword = x.codeword; damages = d; allowed = rw d.changed x.few })
    (λ s fits. rw (no_damage_weight s) zero-le)
