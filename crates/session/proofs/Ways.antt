-- The ways of reading that an arrival may name, all together.
use mathlib.Core.Path.{◌≡◌, refl}
use mathlib.Core.Bool.{true}
use mathlib.Core.List.{List}
use mathlib.Core.Logic.{◌⊎◌, inl, inr}
use Prim.Native.Nat.{ℕ, zero, suc, ◌/◌, zero-le}
use native.Mathlib.Omega.{arith}
use borrow.Author.Tests.{ltb-true, le-leb, leb-true}
use Rattle.gtb.specs.declared.Shape.{Shape}
use Rattle.gtb.specs.Shape.{Lawful}
use Rattle.distance.specs.Distance.{Near}
use Rattle.std.specs.Prelude.{Result}
use Rattle.gtb.specs.declared.Refusal.{Refusal}
use Rattle.correction.proofs.Near.{damaged_near, near_damages}
use Rattle.decoder.specs.Damage.{Explains}
use Rattle.decoder.specs.Decode.{Decoding}
use Rattle.decoder.specs.Decode as decoder
use Rattle.decoder.proofs.Meaning.{clean_meant}
use Rattle.decoder.proofs.Alikes.{clean_alike}
use Rattle.majority.specs.Majority.{Voting}
use Rattle.majority.specs.Majority as majority
use Rattle.majority.proofs.Meaning.{vote_meant}
use Rattle.majority.proofs.Alikes.{vote_alike}
use Rattle.double.specs.Double.{ReadingTwo}
use Rattle.double.specs.Double as double
use Rattle.double.proofs.Meaning.{two_meant}
use Rattle.double.proofs.Alikes.{two_alike}
use Rattle.session.specs.Arrival.{AllSound, clean, vote, two, is_way, way_of, the_ways}
use Rattle.session.specs.Steps.{Reading}
use Rattle.session.proofs.NoDamage.{no_damage_clean, no_damage_weight}
use Rattle.session.proofs.Asked.{Asked, asked}

-- there are these three and no other
pub three_ways : (way : ℕ) → is_way way ≡ true
    → ((way ≡ 0) × (way_of way ≡ clean)) ⊎ (((way ≡ 1) × (way_of way ≡ vote)) ⊎ ((way ≡ 2) × (way_of way ≡ two)))
unfolding is_way way_of
three_ways zero known = inl (refl, refl)
three_ways (suc zero) known = inr (inl (refl, refl))
three_ways (suc (suc zero)) known = inr (inr (refl, refl))
three_ways (suc (suc (suc way))) known = absurd (omega (arith, ltb-true))

-- each reader is a way
clean_asked : Asked clean
clean_asked =
    asked decoder.clean Explains _ clean_meant clean_alike refl
    (λ s v e stored word allowed.
    (refl, record { codeword = stored; error = e; word = word; unmasked = allowed.0; changed = refl; few = allowed.1; received = refl }))
    (λ s w v k fits x. record {
      codeword = x.codeword;
      damages = record { error = x.error; word = x.word; changed = x.changed; received = x.received };
      allowed = (x.unmasked, rw x.changed x.few);
    })
    (λ s fits. (no_damage_clean s, rw (no_damage_weight s) zero-le))

vote_asked : Asked vote
vote_asked =
    asked majority.vote (λ s. Near s (s.n / 2)) _ vote_meant vote_alike refl (λ s v e stored word few. (refl, damaged_near s (s.n / 2) v e stored word few))
    (λ s w v k fits x. let d = near_damages x in record { codeword = x.codeword; damages = d; allowed = rw d.changed x.few })
    (λ s fits. rw (no_damage_weight s) zero-le)

two_asked : Asked two
two_asked =
    asked double.two (λ s. Near s 2) _ two_meant two_alike refl
    (λ s v e stored word allowed. (le-leb 3 s.n allowed.0, damaged_near s 2 v e stored word allowed.1))
    (λ s w v k fits x. let d = near_damages x in record { codeword = x.codeword; damages = d; allowed = (leb-true 3 s.n fits, rw d.changed x.few) })
    (λ s fits. (leb-true 3 s.n fits, rw (no_damage_weight s) zero-le))

pub all_read : (way : ℕ) → Asked (way_of way)
unfolding way_of
all_read zero = clean_asked
all_read (suc zero) = vote_asked
all_read (suc (suc way)) = two_asked

-- each is sound, whatever the shape
pub all_sound : (s : Shape) → Lawful s → AllSound the_ways s
all_sound s legal = record { sound = λ way known. (all_read way).sound s legal }

-- what each reader ensures is what its way gives
module _ {s : Shape} {w w' : List ℕ} {r : Result ℕ Refusal} where
  pub reads_clean : Decoding s w w' r → Reading (way_of 0) s w w' r
  unfolding way_of
  reads_clean read = record { answer = read.answer; word = read.word }

  pub reads_vote : Voting s w w' r → Reading (way_of 1) s w w' r
  unfolding way_of
  reads_vote read = record { answer = read.answer; word = read.word }

  pub reads_two : ReadingTwo s w w' r → Reading (way_of 2) s w w' r
  unfolding way_of
  reads_two read = record { answer = read.answer; word = read.word }
