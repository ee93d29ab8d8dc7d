-- Writing and extraction look at the first n - 1 slopes alone; the word that is written is gtb's `encodes-alike`.
use mathlib.Core.Path.{◌≡◌}
use mathlib.Core.List.{List}
use Prim.Native.Nat.{ℕ}
use Rattle.gtb.specs.declared.Shape.{Shape}
use Rattle.gtb.specs.declared.Refusal.{Refusal}
use Rattle.std.specs.Prelude.{Ok, Err}
use Rattle.gtb.specs.Shape.{kept_checks, scratch_length}
use Rattle.gtb.specs.Square.{narrow}
use Rattle.gtb.specs.Answer.{unless}
use Rattle.gtb.specs.Alike.{reslope, Alike}
use Rattle.gtb.proofs.Alikes.{lawful_alike, refusal_alike}
use Rattle.encoder.specs.Contract.{status_of}
use Rattle.encoder.proofs.Answers.{sized}

pub status_alike : (s : Shape) (slopes : List ℕ) → Alike s slopes → (symbols scratch word given : List ℕ)
    → status_of (reslope s slopes) symbols scratch word given ≡ status_of s symbols scratch word given
unfolding status_of scratch_length kept_checks
status_alike s slopes alike symbols scratch word given = λ i.
    unless (lawful_alike s slopes alike i) (Err (refusal_alike s slopes alike i))
    (unless (sized s symbols scratch word) (Err Refusal.Length) (unless (narrow s.b given) (Err Refusal.Width) (Ok tt)))
