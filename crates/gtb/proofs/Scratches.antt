-- The scratch's length, and what each refusal leaves in it, are the paper's.
use mathlib.Core.Path.{◌≡◌, refl}
use mathlib.Core.List.{List}
use Rattle.paper.specs.Paper as paper
use Rattle.paper.specs.Writing.{scratch_left}
use Rattle.gtb.specs.declared.Shape.{Shape}
use Rattle.gtb.specs.declared.Refusal.{Refusal}
use Rattle.gtb.specs.Shape.{kept_checks, scratch_length, of}
use Rattle.gtb.specs.Answer.{refusal_number, scratch_after}
use Prim.Native.Nat.{ℕ}

module _ (s : Shape) where
  -- ---- the scratch after every refusal
  pub scratch_same : (e : Refusal) (scratch : List ℕ) → scratch_after e scratch ≡ scratch_left (refusal_number e) scratch
  unfolding scratch_after scratch_left
  scratch_same Refusal.Shape scratch = refl
  scratch_same Refusal.Length scratch = refl
  scratch_same Refusal.Width scratch = refl
  scratch_same Refusal.Uncorrectable scratch = refl
  scratch_same Refusal.Page scratch = refl
  scratch_same Refusal.Count scratch = refl
  scratch_same Refusal.Function scratch = refl
  scratch_same Refusal.Tail scratch = refl
  scratch_same Refusal.Overflow scratch = refl
  scratch_same Refusal.Syntax scratch = refl
  scratch_same Refusal.Figures scratch = refl
  scratch_same Refusal.Places scratch = refl
  scratch_same Refusal.Unfillable scratch = refl
  scratch_same Refusal.Ambiguous scratch = refl
  scratch_same Refusal.NoMajority scratch = refl
  scratch_same Refusal.Directions scratch = refl
  scratch_same Refusal.BeyondTwo scratch = refl
  scratch_same Refusal.Slope scratch = refl
  scratch_same Refusal.Bill scratch = refl
  scratch_same Refusal.Far scratch = refl

  pub scratch_length_lem : scratch_length s ≡ paper.scratch_length (of s)
  unfolding scratch_length kept_checks
  scratch_length_lem = refl
