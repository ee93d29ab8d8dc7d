-- What every way of reading that an arrival may name has to show, and that a reader shows it.
use mathlib.Core.Path.{◌≡◌, sym, ap, ◌∙◌}
use mathlib.Core.Bool.{true, false}
use mathlib.Core.List.{List}
use Prim.Native.Nat.{ℕ}
use lib.ListN.{length}
use Rattle.parity.proofs.Tests.{clash}
use Rattle.gtb.specs.declared.Shape.{Shape}
use Rattle.gtb.specs.declared.Refusal.{Refusal}
use Rattle.gtb.specs.Shape.{Lawful, word_length}
use Rattle.gtb.specs.Square.{at, Word, Codeword}
use Rattle.gtb.specs.Alike.{reslope, Alike}
use Rattle.std.specs.Prelude.{Ok, Err}
use Rattle.correction.specs.Error.{weight, damaged}
use Rattle.correction.specs.Reading.{Reader, restored_by, Meaning}
use Rattle.correction.proofs.Readings.{read_accepted, read_never, read_late, restored_size, Meant, means_read, read_means}
use Rattle.correction.proofs.Near.{Damages}
use Rattle.correction.proofs.Slopes.{AlikeReader, restored_alike, read_alike}
use Rattle.session.specs.Arrival.{Way, way_by, by_session, Sound}
use Rattle.session.proofs.NoDamage.{no_damage}
use Rattle.session.proofs.Late.{Late}
use Rattle.session.proofs.Openings.{session_foreign}

-- a codeword with damage to k symbols that the way allows
pub record Reached (way : Way) (s : Shape) (w v : List ℕ) (k : ℕ) : Type 0 where
  pub codeword : Codeword s v
  pub damages : Damages s w v k
  pub allowed : way.Allowed s (at damages.error)

pub record Asked (way : Way) : Type 0 where
  pub sound : (s : Shape) → Lawful s → Sound way s
  -- no damage is allowed with a shape that it can be used with
  pub none : (s : Shape) → way.suits s ≡ true → way.Allowed s (at (no_damage s))
  -- what it accepts is a codeword with allowed damage
  pub reached : (s : Shape) (w : List ℕ) (k : ℕ) → way.answer s w ≡ Ok k → Reached way s w (way.word s w) k
  -- past tests 1, 18, 16 and 2 it refuses by later ones
  pub late : (s : Shape) (word : List ℕ) → Lawful s → way.suits s ≡ true → length word ≡ word_length s → (e : Refusal) → way.answer s word ≡ Err e → Late e
  -- the word that it gives is one of the shape
  pub size : (s : Shape) (word : List ℕ) → length (way.word s word) ≡ word_length s
  -- it looks at the first n - 1 slopes alone
  pub same_suits : (s : Shape) (slopes : List ℕ) → Alike s slopes → way.suits (reslope s slopes) ≡ way.suits s
  pub same_answer : (s : Shape) (slopes : List ℕ) → Alike s slopes → (word : List ℕ) → way.answer (reslope s slopes) word ≡ way.answer s word
  pub same_word : (s : Shape) (slopes : List ℕ) → Alike s slopes → (word : List ℕ) → way.word (reslope s slopes) word ≡ way.word s word

-- a reader whose answers have a meaning that allowed damage has
pub asked : (reader : Reader) (Means : Meaning) (Allowed : Shape → (ℕ → ℕ) → Type 0) → Meant reader Means → AlikeReader reader → by_session reader.refusal ≡ false
    → ((s : Shape) (v e : List ℕ) → Codeword s v → Word s e → Allowed s (at e) → (reader.suits s ≡ true) × Means s (damaged v e) v (weight s (at e)))
    → ((s : Shape) (w v : List ℕ) (k : ℕ) → reader.suits s ≡ true → Means s w v k → Reached (way_by reader Allowed) s w v k)
    → ((s : Shape) → reader.suits s ≡ true → Allowed s (at (no_damage s))) → Asked (way_by reader Allowed)
asked reader Means Allowed m alike own allowed reached none = record {
  sound = λ s legal. record {
    right = λ v e stored word damage.
        let (fits, x) = allowed s v e stored word damage in
        let (answer, given) = means_read m s legal fits (damaged v e) v (weight s (at e)) x in
        (answer, given, fits);
    never = λ w e by. read_never reader s w e (session_foreign s e by) (λ no h. clash by (ap by_session (sym h))) (λ h. clash (ap by_session h ∙ by) own);
  };
  none = none;
  reached = λ s w k h. reached s w (restored_by reader s w) k (read_accepted reader s w k h).suits (read_means m s w k h);
  late = λ s word. read_late reader s word m.late;
  size = restored_size reader;
  same_suits = λ s slopes same. alike.suits s slopes;
  same_answer = λ s slopes same. read_alike s slopes same alike;
  same_word = λ s slopes same. restored_alike s slopes same alike;
}
