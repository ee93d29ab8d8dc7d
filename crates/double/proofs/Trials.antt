-- A pair as a list of two corrections: tried on the table, and taken off the word.
use mathlib.Core.Path.{◌≡◌}
use mathlib.Core.List.{List, [], ◌∷◌}
use Prim.Native.Nat.{ℕ, zero, suc, ◌<◌}
use native.Mathlib.Omega.{arith}
use Rattle.gtb.specs.declared.Shape.{Shape}
use Rattle.gtb.specs.Shape.{Lawful, word_length}
use Rattle.gtb.specs.Square.{at, silent_test, Word, Syndromes}
use Rattle.distance.specs.Distance.{Near}
use Rattle.correction.specs.Error.{mended}
use Rattle.correction.specs.Steps.{quiet, Within, Cancelled, Mends}
use Rattle.correction.proofs.Tables.{silent_by}
use Rattle.correction.proofs.Near.{error_near}
use Rattle.double.specs.declared.Pair.{Pair}
use Rattle.double.specs.Steps.{pair_of, without, Proposed, pair_changes}
use Rattle.double.proofs.Pairs.{pair_lists, pair_narrow, pair_few}

-- its places and values, as a list of corrections
abbrev pub places : Pair → List ℕ
places p = p.a ∷ p.b ∷ 0 ∷ 0 ∷ 0 ∷ 0 ∷ 0 ∷ 0 ∷ []

abbrev pub errors : Pair → List ℕ
errors p = p.x ∷ p.y ∷ 0 ∷ 0 ∷ 0 ∷ 0 ∷ 0 ∷ 0 ∷ []

module _ (s : Shape) (places errors : List ℕ) (la : at places 0 < word_length s) (lb : at places 1 < word_length s) where
  pub pair_within : Within s 2 places
  pair_within = record { few = omega arith; below = below }
    where
      below : (x : ℕ) → x < 2 → at places x < word_length s
      below zero l = la
      below (suc zero) l = lb
      below (suc (suc x)) l = absurd (omega arith)

  pub pair_tried : {w syn new : List ℕ} → Lawful s → Cancelled s 2 places errors syn new → Syndromes s w syn
      → silent_test s (at (mended s w (pair_of (at places 0) (at errors 0) (at places 1) (at errors 1)))) ≡ quiet s new
  pair_tried h t y = silent_by (pair_lists s places errors la lb) y t h

  pub pair_taken : {w w' : List ℕ} → Mends s 2 places errors w w' → w' ≡ mended s w (pair_of (at places 0) (at errors 0) (at places 1) (at errors 1))
  pair_taken m = m.mends _ (pair_lists s places errors la lb)

-- it leaves a codeword near
pub pair_near : {s : Shape} {syn w : List ℕ} {p : Pair} → Proposed s syn p → Word s w → Syndromes s w syn → Near s 2 w (without s w p) (pair_changes s p)
unfolding pair_changes
pair_near {s} {syn} {w} {p} h hw y =
    let (lx, ly) = h.width w hw y in
    error_near s w (pair_of p.a p.x p.b p.y) 2 hw (λ j l. pair_narrow s.b p.a p.x p.b p.y lx ly j)
    (pair_few (word_length s) p.a p.x p.b p.y h.below_a h.below_b) (h.works w y)
