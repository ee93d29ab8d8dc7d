-- What reading two wrong symbols means: it accepts exactly where a codeword is near, and gives that codeword and how many symbols differ.
use mathlib.Core.Path.{◌≡◌, refl}
use mathlib.Core.Bool.{Bool, true, false, not, ◌&&◌}
use mathlib.Core.List.{List}
use mathlib.Core.Logic.{⊎_elim}
use Prim.Native.Nat.{ℕ, ◌^◌, ◌<◌, ◌≤◌}
use lib.Dec.{eqb}
use lib.Pow.{pow_pos}
use borrow.Author.Tests.{leb-true, le-leb, lt-leb}
use Rattle.parity.specs.Count.{any}
use Rattle.parity.proofs.Tests.{either, any_elim, any_no}
use Rattle.parity.proofs.First.{first_some, first_none}
use Rattle.gtb.specs.declared.Shape.{Shape}
use Rattle.gtb.specs.declared.Refusal.{Refusal}
use Rattle.gtb.specs.Shape.{Lawful}
use Rattle.gtb.specs.Square.{line_of, at, Word, Codeword}
use Rattle.gtb.proofs.Rows.{syndrome_width}
use Rattle.distance.specs.Distance.{Near}
use Rattle.distance.proofs.Near.{near_within}
use Rattle.std.specs.Prelude.{Ok, Err}
use Rattle.correction.specs.Error.{weight, damaged, on_check, off}
use Rattle.correction.specs.Answer.{decoded_word}
use Rattle.correction.specs.Reading.{read_of}
use Rattle.correction.proofs.Near.{damaged_near, near_meant}
use Rattle.correction.proofs.Readings.{read_accepted, Meant, means_read, read_means, meets}
use Rattle.decoder.specs.Decode.{clean, decode_of, restored}
use Rattle.decoder.proofs.Meaning.{explains_near, clean_meant}
use Rattle.double.specs.Double.{single, two_at, two, two_of, two_restored, ReadingTwo}
use Rattle.double.proofs.Equation.{two_right}

-- the change at a position is a check's value, or 0
two_narrow : (s : Shape) (w : List ℕ) → Word s w → (j : ℕ) → two_at s (at w) j < 2 ^ s.b
unfolding two_at
two_narrow s w hw j =
    let p : ℕ → Bool = λ t. not (eqb (on_check s (at w) j t) 0) && single s (off (at w) j (on_check s (at w) j t)) in
    ⊎_elim
    (λ (some : any s.n p ≡ true).
    let (t, lt, h) = any_elim s.n p some in
    let (u, lu, hu, e) = first_some s.n p (on_check s (at w) j) t lt h in
    rw e (syndrome_width s (at w) s.b u (line_of s u j) (λ i l. hw.width i)))
    (λ (none : any s.n p ≡ false). rw (first_none s.n p (on_check s (at w) j) (any_no s.n p none)) (pow_pos s.b))
    (either (any s.n p))

pub two_meant : Meant two (λ s. Near s (two.bound s))
two_meant = near_meant two refl (λ s f j. refl) (λ s w hw j l. two_narrow s w hw j) (λ s law fits. two_right s law (leb-true 3 s.n fits))

-- a word with a codeword near it is accepted, with that codeword and that number
pub near_two : (s : Shape) → Lawful s → 3 ≤ s.n → (w v : List ℕ) (k : ℕ) → Near s 2 w v k → (two_of s w ≡ Ok k) × (two_restored s w ≡ v)
near_two s law n3 = means_read two_meant s law (le-leb 3 s.n n3)

-- for every shape and word: the answer by equation, and what it means
pub two_meets : (s : Shape) (w : List ℕ) → ReadingTwo s w (decoded_word w (two_restored s w) (two_of s w)) (two_of s w)
two_meets = meets two_meant

-- any damage to at most two symbols of a codeword is undone
pub double_right : (s : Shape) → Lawful s → 3 ≤ s.n → (v e : List ℕ) → Codeword s v → Word s e → weight s (at e) ≤ 2
    → (two_of s (damaged v e) ≡ Ok (weight s (at e))) × (two_restored s (damaged v e) ≡ v)
double_right s law n3 v e hv he few = near_two s law n3 (damaged v e) v (weight s (at e)) (damaged_near s 2 v e hv he few)

-- where clean reading changes no more than two symbols, the two agree
pub clean_agrees : (s : Shape) → 3 ≤ s.n → (w : List ℕ) (k : ℕ) → decode_of s w ≡ Ok k → k ≤ 2
    → (two_of s w ≡ Ok k) × (two_restored s w ≡ restored s w)
clean_agrees s n3 w k h few =
    near_two s (read_accepted clean s w k h).lawful n3 w (restored s w) k
    (near_within (explains_near s w (restored s w) k (read_means clean_meant s w k h)) few)

-- with two directions every word gets 16, whatever its length and width
pub two_directions : (s : Shape) → Lawful s → s.n < 3 → (w : List ℕ) → two_of s w ≡ Err Refusal.Directions
unfolding read_of
two_directions s law few w = rw (law, lt-leb 3 s.n few)
