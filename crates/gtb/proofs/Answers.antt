-- Answers that carry no value: they are told apart, and what an answer that is no refusal shows.
use mathlib.Core.Path.{◌≡◌, refl, sym, ap}
use mathlib.Core.Bool.{Bool, true, false}
use mathlib.Core.List.{List}
use mathlib.Core.Logic.{⊎_elim}
use Prim.Native.Nat.{ℕ, ◌<◌, ◌≤◌}
use native.Mathlib.Omega.{arith}
use lib.Dec.{eqb, lit≤}
use borrow.Author.Tests.{eqb-false}
use Rattle.parity.proofs.Tests.{either}
use Rattle.gtb.specs.declared.Shape.{Shape}
use Rattle.gtb.specs.declared.Refusal.{Refusal}
use Rattle.std.specs.Prelude.{Result, Ok, Err}
use Rattle.gtb.specs.Shape.{regular, lawful, shape_refusal}
use Rattle.gtb.specs.Answer.{refusal_number, unless, is_early, scratch_after}

-- a refusal names one number only, and is no answer that carries something
pub same_refusal : {A : Type 0} (e e' : Refusal) → ◌≡◌ {A = Result A Refusal} (Err e) (Err e') → e ≡ e'
same_refusal e e' h = cc

pub never_done : {A : Type 0} {a : A} (e : Refusal) → ◌≡◌ {A = Result A Refusal} (Err e) (Ok a) → ⊥
never_done e h = let z : ◌≡◌ {A = ℕ} 0 1 = cc in omega arith

pub never_refused : {A : Type 0} {a : A} (e : Refusal) → ◌≡◌ {A = Result A Refusal} (Ok a) (Err e) → ⊥
never_refused e h = let z : ◌≡◌ {A = ℕ} 0 1 = cc in omega arith

-- an answer that is not the refusal: the test was passed
pub unless_passed : {A : Type 0} (t : Bool) (refusal next : A) {r : A} → (refusal ≡ r → ⊥) → unless t refusal next ≡ r → (t ≡ true) × (next ≡ r)
unless_passed true refusal next ne h = (refl, h)
unless_passed false refusal next ne h = absurd (ne h)

-- an answer that neither gives
pub unless_never : {A : Type 0} (t : Bool) (refusal next : A) {r : A} → (t ≡ false → refusal ≡ r → ⊥) → (next ≡ r → ⊥) → unless t refusal next ≡ r → ⊥
unless_never true refusal next ne last h = last h
unless_never false refusal next ne last h = ne refl h

pub unless_done : (t : Bool) (e : Refusal) (next : Result (Unit {0}) Refusal) → unless t (Err e) next ≡ Ok tt → (t ≡ true) × (next ≡ Ok tt)
unless_done t e next = unless_passed t (Err e) next (never_done e)

-- no number is above 20
pub refusal_small : (e : Refusal) → refusal_number e ≤ 20
refusal_small Refusal.Shape = lit≤ tt
refusal_small Refusal.Length = lit≤ tt
refusal_small Refusal.Width = lit≤ tt
refusal_small Refusal.Uncorrectable = lit≤ tt
refusal_small Refusal.Page = lit≤ tt
refusal_small Refusal.Count = lit≤ tt
refusal_small Refusal.Function = lit≤ tt
refusal_small Refusal.Tail = lit≤ tt
refusal_small Refusal.Overflow = lit≤ tt
refusal_small Refusal.Syntax = lit≤ tt
refusal_small Refusal.Figures = lit≤ tt
refusal_small Refusal.Places = lit≤ tt
refusal_small Refusal.Unfillable = lit≤ tt
refusal_small Refusal.Ambiguous = lit≤ tt
refusal_small Refusal.NoMajority = lit≤ tt
refusal_small Refusal.Directions = lit≤ tt
refusal_small Refusal.BeyondTwo = lit≤ tt
refusal_small Refusal.Slope = lit≤ tt
refusal_small Refusal.Bill = lit≤ tt
refusal_small Refusal.Far = lit≤ tt

-- ---- a shape is turned down by 1 or by 18
pub shape_refusal_both : (P : Refusal → Type 0) → P Refusal.Shape → P Refusal.Slope → (s : Shape) → P (shape_refusal s)
unfolding shape_refusal
shape_refusal_both P shape slope s =
    ⊎_elim (λ (good : regular s ≡ true). rw good slope) (λ (bad : regular s ≡ false). rw bad shape) (either (regular s))

-- before the scratch is touched
pub shape_early : (s : Shape) → is_early (shape_refusal s) ≡ true
shape_early = shape_refusal_both (λ e. is_early e ≡ true) refl refl

-- either leaves the scratch as it was
pub shape_scratch : (s : Shape) (scratch : List ℕ) → scratch ≡ scratch_after (shape_refusal s) scratch
unfolding scratch_after
shape_scratch s scratch = shape_refusal_both (λ e. scratch ≡ scratch_after e scratch) refl refl s

-- a test that refuses late, and what follows it
pub late_next : {A : Type 0} (refused : Refusal → A) → ((e e' : Refusal) → refused e ≡ refused e' → e ≡ e') → (t : Bool) (e : Refusal) (next : A)
    → is_early e ≡ false → ((e' : Refusal) → next ≡ refused e' → is_early e' ≡ false) → (e' : Refusal) → unless t (refused e) next ≡ refused e' → is_early e' ≡ false
late_next refused same true e next l h e' r = h e' r
late_next refused same false e next l h e' r = rw (same e e' r) at l

-- refusals with different numbers are different
pub other_refusal : (e e' : Refusal) → eqb (refusal_number e) (refusal_number e') ≡ false → e ≡ e' → ⊥
other_refusal e e' differ h = eqb-false (refusal_number e) (refusal_number e') differ (ap refusal_number h)

-- ---- a refusal that none of the tests 1, 18 and 2 to 8 gives
pub record Foreign (s : Shape) (e : Refusal) : Type 0 where
  pub shape : lawful s ≡ false → shape_refusal s ≡ e → ⊥
  pub length : Refusal.Length ≡ e → ⊥
  pub width : Refusal.Width ≡ e → ⊥
  pub damage : Refusal.Uncorrectable ≡ e → ⊥
  pub page : Refusal.Page ≡ e → ⊥
  pub count : Refusal.Count ≡ e → ⊥
  pub function : Refusal.Function ≡ e → ⊥
  pub tail : Refusal.Tail ≡ e → ⊥

-- each with a number above 8 is one, 18 apart
pub late_foreign : (s : Shape) (e : Refusal) → 8 < refusal_number e → (refusal_number e ≡ 18 → ⊥) → Foreign s e
late_foreign s e above other = record {
  shape = λ no. shape_refusal_both (λ e'. e' ≡ e → ⊥) (low Refusal.Shape (lit≤ tt)) (λ h. other (sym (ap refusal_number h))) s;
  length = low Refusal.Length (lit≤ tt);
  width = low Refusal.Width (lit≤ tt);
  damage = low Refusal.Uncorrectable (lit≤ tt);
  page = low Refusal.Page (lit≤ tt);
  count = low Refusal.Count (lit≤ tt);
  function = low Refusal.Function (lit≤ tt);
  tail = low Refusal.Tail (lit≤ tt);
}
  where
    low : (e' : Refusal) → refusal_number e' ≤ 8 → e' ≡ e → ⊥
    low e' few h = let same = ap refusal_number h in omega (arith, same, few, above)
