-- Of a shape's slopes only the first n - 1 matter, to the checks and to every way of reading whose changes depend on nothing else.
use mathlib.Core.Path.{◌≡◌, ap, ap₂, ◌∙◌}
use mathlib.Core.Bool.{Bool, ◌&&◌}
use mathlib.Core.List.{List}
use Prim.Native.Nat.{ℕ, ◌<◌}
use lib.Dec.{eqb, leb}
use lib.ListN.{length}
use Rattle.parity.specs.Xor.{◌⊕◌}
use Rattle.parity.proofs.Sums.{count_cong}
use Rattle.parity.proofs.Lists.{tabulate_cong}
use Rattle.gtb.specs.declared.Shape.{Shape}
use Rattle.gtb.specs.declared.Refusal.{Refusal}
use Rattle.gtb.specs.Shape.{word_length}
use Rattle.gtb.specs.Square.{line_of, at, narrow, syndrome, silent_test}
use Rattle.gtb.specs.Answer.{unless}
use Rattle.gtb.specs.Alike.{reslope, Alike}
use Rattle.gtb.proofs.Alikes.{lawful_alike, refusal_alike, line_alike, syndrome_alike, silent_alike}
use Rattle.std.specs.Prelude.{Ok, Err}
use Rattle.correction.specs.Error.{on_check, mended}
use Rattle.correction.specs.Reading.{Reader, changes_by, restored_by, accepted_by, read_of}

pub record AlikeReader (reader : Reader) : Type 0 where
  pub found : (s : Shape) (slopes : List ℕ) → Alike s slopes → (f : ℕ → ℕ) (j : ℕ) → reader.found (reslope s slopes) f j ≡ reader.found s f j
  pub change : (s : Shape) (slopes : List ℕ) → Alike s slopes → (f : ℕ → ℕ) (j : ℕ) → reader.change (reslope s slopes) f j ≡ reader.change s f j
  pub bound : (s : Shape) (slopes : List ℕ) → reader.bound (reslope s slopes) ≡ reader.bound s
  pub suits : (s : Shape) (slopes : List ℕ) → reader.suits (reslope s slopes) ≡ reader.suits s

module _ (s : Shape) (slopes : List ℕ) (alike : Alike s slopes) where
  pub check_alike : (f : ℕ → ℕ) (j t : ℕ) → t < s.n → on_check (reslope s slopes) f j t ≡ on_check s f j t
  check_alike f j t l = syndrome_alike s slopes alike f t (line_of (reslope s slopes) t j) l ∙ ap (syndrome s f t) (line_alike s slopes alike t j l)

  module _ {reader : Reader} (a : AlikeReader reader) (w : List ℕ) where
    -- the word that is given
    pub restored_alike : restored_by reader (reslope s slopes) w ≡ restored_by reader s w
    unfolding restored_by mended
    restored_alike = tabulate_cong (word_length s) _ _ (λ j l. ap (λ (x : ℕ). at w j ⊕ x) (a.change s slopes alike (at w) j))

    changes_alike : changes_by reader (reslope s slopes) w ≡ changes_by reader s w
    unfolding changes_by
    changes_alike = count_cong (word_length s) _ _ (λ j l. a.found s slopes alike (at w) j)

    accepted_alike : accepted_by reader (reslope s slopes) w ≡ accepted_by reader s w
    unfolding accepted_by
    accepted_alike =
        ap₂ (λ (x y : Bool). x && y) (ap₂ leb changes_alike (a.bound s slopes))
        (silent_alike s slopes alike (at (restored_by reader (reslope s slopes) w)) ∙ ap (λ (v : List ℕ). silent_test s (at v)) restored_alike)

    -- the answer
    pub read_alike : read_of reader (reslope s slopes) w ≡ read_of reader s w
    unfolding read_of
    read_alike = λ i.
        unless (lawful_alike s slopes alike i) (Err (refusal_alike s slopes alike i))
        (unless (a.suits s slopes i) (Err Refusal.Directions)
        (unless (eqb (length w) (word_length s)) (Err Refusal.Length)
        (unless (narrow s.b w) (Err Refusal.Width)
        (unless (accepted_alike i) (Err reader.refusal) (Ok (changes_alike i))))))
