-- The codewords within a number of differences are the paper's.
use mathlib.Core.Path.{◌≡◌, refl}
use mathlib.Core.List.{List}
use Prim.Native.Nat.{ℕ}
use native.Mathlib.Omega.{arith}
use Rattle.paper.specs.Paper as paper
use Rattle.paper.specs.Square.{changed}
use Rattle.gtb.specs.declared.Shape.{Shape}
use Rattle.gtb.specs.Shape.{of}
use Rattle.gtb.specs.Square.{Word}
use Rattle.gtb.proofs.Stored.{codeword_stored, stored_codeword}
use Rattle.distance.specs.Distance.{differences, Near}

module _ (s : Shape) where
  pub changed_same : (came given : List ℕ) → differences s given came ≡ changed (of s) came given
  unfolding differences changed
  changed_same came given = refl

  pub near_within : {l k : ℕ} {w v : List ℕ} → Near s l w v k → paper.Within (of s) l w v
  near_within {w = w} {v = v} x = record { stored = codeword_stored s x.codeword; few = omega (arith, changed_same w v, x.changed, x.few) }

  pub within_near : {l : ℕ} {w v : List ℕ} → Word s w → paper.Within (of s) l w v → (k : ℕ) × Near s l w v k
  within_near {w = w} {v = v} hw x = (_, record { word = hw; codeword = stored_codeword s x.stored; changed = changed_same w v; few = x.few })
