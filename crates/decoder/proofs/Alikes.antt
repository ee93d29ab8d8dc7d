-- Reading looks at the first n - 1 slopes alone.
use mathlib.Core.Path.{◌≡◌, refl, ap, ap₂}
use mathlib.Core.Bool.{Bool, not, cond, ◌&&◌}
use mathlib.Core.List.{List}
use Prim.Native.Nat.{ℕ, ◌+◌, ◌<◌}
use lib.Dec.{eqb}
use lib.ListN.{length}
use Rattle.parity.specs.Xor.{when}
use Rattle.parity.proofs.First.{first_cong}
use Rattle.parity.proofs.Tests.{all_cong, any_cong}
use Rattle.parity.proofs.Lowest.{lowest_cong}
use Rattle.gtb.specs.declared.Shape.{Shape}
use Rattle.gtb.specs.declared.Refusal.{Refusal}
use Rattle.gtb.specs.Shape.{word_length}
use Rattle.gtb.specs.Square.{narrow}
use Rattle.gtb.specs.Answer.{unless}
use Rattle.gtb.specs.Alike.{reslope, Alike}
use Rattle.gtb.proofs.Alikes.{lawful_alike, refusal_alike, line_alike}
use Rattle.correction.proofs.Slopes.{AlikeReader, check_alike}
use Rattle.std.specs.Prelude.{Ok, Err}
use Rattle.decoder.specs.Looking.{looked_at, looking_of}
use Rattle.decoder.specs.Decode.{located, alone, error_at, clean}

module _ (s : Shape) (slopes : List ℕ) (alike : Alike s slopes) where
  located_alike : (f : ℕ → ℕ) (j : ℕ) → located (reslope s slopes) f j ≡ located s f j
  unfolding located
  located_alike f j = all_cong s.n _ _ (λ t l. ap (λ (x : ℕ). not (eqb x 0)) (check_alike s slopes alike f j t l))

  alone_alike : (f : ℕ → ℕ) (j t : ℕ) → t < s.n → alone (reslope s slopes) f j t ≡ alone s f j t
  unfolding alone
  alone_alike f j t l =
      ap not
      (any_cong (word_length s) _ _
      (λ i li.
      ap₂ (λ (a b : Bool). a && not (eqb i j) && b) (located_alike f i)
      (ap₂ eqb (line_alike s slopes alike t i l) (line_alike s slopes alike t j l))))

  error_alike : (f : ℕ → ℕ) (j : ℕ) → error_at (reslope s slopes) f j ≡ error_at s f j
  unfolding error_at
  error_alike f j = ap₂ when (located_alike f j) (first_cong s.n _ _ _ _ (alone_alike f j) (check_alike s slopes alike f j))

  -- the checks looked at, and the answer of `looked`
  pub looked_alike : (f : ℕ → ℕ) (j : ℕ) → looked_at (reslope s slopes) f j ≡ looked_at s f j
  unfolding looked_at
  looked_alike f j = λ i.
      cond (located_alike f j i) s.n (lowest_cong s.n _ _ (λ t l. ap (λ (x : ℕ). not (eqb x 0)) (check_alike s slopes alike f j t l)) i + 1)

  pub looking_alike : (w looked : List ℕ) → looking_of (reslope s slopes) w looked ≡ looking_of s w looked
  unfolding looking_of
  looking_alike w looked = λ i.
      unless (lawful_alike s slopes alike i) (Err (refusal_alike s slopes alike i))
      (unless (eqb (length w) (word_length s) && eqb (length looked) (word_length s)) (Err Refusal.Length)
      (unless (narrow s.b w) (Err Refusal.Width) (Ok tt)))

-- so does clean reading
pub clean_alike : AlikeReader clean
clean_alike = record { found = located_alike; change = error_alike; bound = λ s slopes. refl; suits = λ s slopes. refl }
