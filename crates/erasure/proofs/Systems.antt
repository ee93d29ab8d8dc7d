-- The system that the code puts down.
use mathlib.Core.Path.{◌≡◌, refl, sym, ap, ◌∙◌, subst}
use mathlib.Core.Bool.{Bool, true, false, xor, ◌&&◌}
use mathlib.Core.List.{List}
use Prim.Native.Nat.{ℕ, ◌+◌, ◌*◌, ◌/◌, ◌≤◌}
use native.Mathlib.Nat.{mul-le-mul_left}
use native.Mathlib.Omega.{arith}
use lib.Dec.{eqb, ltb}
use Rattle.std.specs.Prelude.{Some, None}
use lib.ListN.{length, replicate, length-replicate}
use borrow.Author.Tests.{lt-ltb, le-ltb}
use Rattle.parity.proofs.Tests.{and_no_left}
use Rattle.elimination.specs.Outcome.{Room}
use Rattle.elimination.proofs.Columns.{single, rows_more}
use Rattle.gtb.specs.declared.Shape.{Shape}
use Rattle.gtb.specs.Shape.{Lawful, word_length, kept_checks, scratch_length}
use Rattle.gtb.specs.Square.{at, Syndromes}
use Rattle.gtb.specs.Kept.{kept_direction, kept_line}
use Rattle.gtb.proofs.Sizes.{sizes}
use Rattle.gtb.proofs.Kept.{kept_rows}
use Rattle.erasure.specs.Steps.{on_kept, Numbered, Table, Flipped, Asked, Posed}
use Rattle.erasure.proofs.Cells.{flipped_none, flipped_then, flipped_as, flipped_zeros}

-- ---- the columns
-- the check of direction t on j
turned : (a b c : Bool) → (a && (c && b)) ≡ (a && b && c)
turned true true true = refl
turned true true false = refl
turned true false true = refl
turned true false false = refl
turned false b c = refl

module _ (s : Shape) {S : ℕ} (t j k : ℕ) where
  pub check_marked : {row : ℕ} → Numbered s t j (Some row) → {old new : List ℕ} → Flipped S (kept_checks s) (λ i c. eqb i row && eqb c k) old new
      → Flipped S (kept_checks s) (λ i c. eqb (kept_direction s i) t && (eqb c k && on_kept s i j)) old new
  check_marked h f =
      flipped_as (λ i c. eqb (kept_direction s i) t && (eqb c k && on_kept s i j)) f
      (λ i c l. turned (eqb (kept_direction s i) t) (on_kept s i j) (eqb c k) ∙ ap (λ (b : Bool). b && eqb c k) (sym (h.1 i l)))

  pub check_unmarked : Numbered s t j None → (xs : List ℕ) → Flipped S (kept_checks s) (λ i c. eqb (kept_direction s i) t && (eqb c k && on_kept s i j)) xs xs
  check_unmarked h xs =
      flipped_none S (kept_checks s) _ xs
      (λ i c l. turned (eqb (kept_direction s i) t) (on_kept s i j) (eqb c k) ∙ and_no_left (eqb c k) (h i l))

-- the directions below t
abbrev pub up_to : Shape → ℕ → ℕ → ℕ → ℕ → ℕ → Bool
up_to s k j t i c = ltb (kept_direction s i) t && (eqb c k && on_kept s i j)

module _ (s : Shape) {S : ℕ} (k j : ℕ) where
  pub directions_none : (xs : List ℕ) → Flipped S (kept_checks s) (up_to s k j 0) xs xs
  directions_none xs =
      flipped_none S (kept_checks s) (up_to s k j 0) xs (λ i c l. and_no_left (eqb c k && on_kept s i j) (le-ltb (kept_direction s i) 0 (omega arith)))

  pub directions_more : (t : ℕ) {old mid new : List ℕ} → Flipped S (kept_checks s) (up_to s k j t) old mid
      → Flipped S (kept_checks s) (λ i c. eqb (kept_direction s i) t && (eqb c k && on_kept s i j)) mid new
      → Flipped S (kept_checks s) (up_to s k j (t + 1)) old new
  directions_more t a b = flipped_then (up_to s k j (t + 1)) a b (λ i c l. rows_more (λ u. eqb c k && on_kept s i j) (kept_direction s i) t)

  -- that is all of them
  pub directions_all : {old new : List ℕ} → Lawful s → Flipped S (kept_checks s) (up_to s k j s.n) old new
      → Flipped S (kept_checks s) (λ i c. eqb c k && on_kept s i j) old new
  directions_all law h =
      flipped_as (λ i c. eqb c k && on_kept s i j) h
      (λ i c l. sym (ap (λ (b : Bool). b && (eqb c k && on_kept s i j)) (lt-ltb (kept_direction s i) s.n ((kept_rows s law).kept i l).0)))

-- the first k places
abbrev pub first_places : Shape → List ℕ → ℕ → ℕ → ℕ → Bool
first_places s places k i c = ltb c k && on_kept s i (at places c)

module _ (s : Shape) {S : ℕ} (places : List ℕ) where
  pub places_none : (xs : List ℕ) → Flipped S (kept_checks s) (first_places s places 0) xs xs
  places_none xs =
      flipped_none S (kept_checks s) (first_places s places 0) xs (λ i c l. and_no_left (on_kept s i (at places c)) (le-ltb c 0 (omega arith)))

  pub places_more : (k : ℕ) {old mid new : List ℕ} → Flipped S (kept_checks s) (first_places s places k) old mid
      → Flipped S (kept_checks s) (λ i c. eqb c k && on_kept s i (at places k)) mid new
      → Flipped S (kept_checks s) (first_places s places (k + 1)) old new
  places_more k a b =
      flipped_then (first_places s places (k + 1)) a b
      (λ i c l.
      rows_more (λ c. on_kept s i (at places c)) c k
      ∙ ap (xor (first_places s places k i c)) (single (λ c. on_kept s i (at places c)) k refl c))

-- ---- both
table_fits : (s : Shape) → Lawful s → (p : ℕ) (scratch : List ℕ) → p ≤ word_length s → length scratch ≡ scratch_length s → Table s ((p + 31) / 32) p scratch
unfolding scratch_length
table_fits s law p scratch le e = record {
  width = omega (arith, (sizes s law).word);
  columns = omega arith;
  space = omega (arith, mul-le-mul_left {m = (p + 31) / 32} {n = (s.q * s.q + 31) / 32} (kept_checks s) (omega arith));
}

-- also once it is cleared
pub table_cleared : (s : Shape) (old : List ℕ) {new : List ℕ} (p : ℕ) → Lawful s → p ≤ word_length s → length old ≡ scratch_length s → new ≡ replicate (length old) 0
    → Table s ((p + 31) / 32) p new
table_cleared s old {new} p law le size zeros = table_fits s law p new le (ap length zeros ∙ length-replicate (length old) 0 ∙ size)

pub table_room : {s : Shape} {S p k : ℕ} {old new values : List ℕ} → Lawful s → Table s S p old → k ≤ p → length new ≡ length old → length values ≡ 248
    → Room (kept_checks s) S k new values
table_room {s} law h le e size = record {
  rows = omega (arith, (sizes s law).kept);
  width = h.width;
  columns = omega (arith, h.columns);
  space = omega (arith, h.space);
  sizes = size;
}

pub system_posed : {s : Shape} {S : ℕ} {word places cleared scratch syn values : List ℕ} (n : ℕ) → Lawful s → length places ≤ 32 * S → cleared ≡ replicate n 0
    → Flipped S (kept_checks s) (first_places s places (length places)) cleared scratch → Syndromes s word syn → Asked s syn (kept_checks s) values
    → Posed s word places S scratch values
system_posed {s} {S} {word} {places} {scratch = scratch} n law columns zeros marked syndromes asked = record {
  cell = λ i k li lk.
      flipped_zeros n (subst (λ (xs : List ℕ). Flipped S (kept_checks s) (first_places s places (length places)) xs scratch) zeros marked) i k li (omega arith)
      ∙ ap (λ (b : Bool). b && on_kept s i (at places k)) (lt-ltb k (length places) lk);
  value = λ i l.
      let (lt, lL, kept) = (kept_rows s law).kept i l in
      asked.entry i l ∙ syndromes.entry (kept_direction s i) (kept_line s i) lt lL;
}
