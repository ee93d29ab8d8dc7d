-- Two rising lists of the same numbers are one, so the data digits of a word are determined.
use mathlib.Core.Path.{◌≡◌, sym, ap, ◌∙◌}
use mathlib.Core.List.{List}
use Prim.Native.Nat.{ℕ, zero, suc, ◌<◌, ◌≤◌}
use native.Mathlib.Nat.{not-suc-le-zero, lt-suc_self}
use native.Mathlib.Decide.{dec_lt}
use native.Mathlib.Omega.{arith}
use lib.ListN.{length}
use Rattle.parity.proofs.Lists.{is_tabulate}
use Rattle.paper.specs.Paper as paper
use Rattle.gtb.specs.declared.Shape.{Shape}
use Rattle.gtb.specs.Shape.{Lawful, info_length, of}
use Rattle.gtb.specs.Square.{at}
use Rattle.gtb.specs.Positions.{info_position, extract_of}
use Rattle.gtb.proofs.Positions.{information_positions}
use Rattle.gtb.proofs.Places.{dependent_place, place_dependent}

pub record Rises (a : ℕ) (f : ℕ → ℕ) : Type 0 where
  pub up : (i k : ℕ) → i < k → k < a → f i < f k

pub record Among (a : ℕ) (f : ℕ → ℕ) (b : ℕ) (g : ℕ → ℕ) : Type 0 where
  pub found : (i : ℕ) → i < a → (k : ℕ) × (k < b) × (g k ≡ f i)

-- below k they are alike: then the one's next is not above the other's
next_le : {a b : ℕ} {f g : ℕ → ℕ} → Rises a f → Rises b g → Among a f b g → (k : ℕ) → ((i : ℕ) → i < k → f i ≡ g i) → k < a → g k ≤ f k
next_le {g = g} rf rg fg k alike lk =
    let (m, lm, e) = fg.found k lk in
    elim (dec_lt m k) [
      | yes l ↦ let u = rf.up m k l lk in let same = alike m l in absurd (omega arith)
      | no l ↦ elim (dec_lt k m) [ yes l' ↦ let u = rg.up k m l' lm in omega arith | no l' ↦ let z : m ≡ k = omega arith in let w : g m ≡ g k = ap g z in omega arith ]
    ]

alike : {a b : ℕ} {f g : ℕ → ℕ} → Rises a f → Rises b g → Among a f b g → Among b g a f → (n k : ℕ) → k < n → k < a → k < b → f k ≡ g k
alike rf rg fg gf zero k l la lb = absurd (not-suc-le-zero l)
alike {f = f} {g = g} rf rg fg gf (suc n) k l la lb =
    let lower : (i : ℕ) → i < k → f i ≡ g i = λ i li. alike rf rg fg gf n i (omega arith) (omega arith) (omega arith) in
    let above = next_le rf rg fg k lower la in
    let below = next_le rg rf gf k (λ i li. sym (lower i li)) lb in
    omega arith

no_longer : {a b : ℕ} {f g : ℕ → ℕ} → Rises a f → Rises b g → Among a f b g → Among b g a f → b < a → ⊥
no_longer {a} {b} rf rg fg gf l =
    let (m, lm, e) = fg.found b l in
    let same = alike rf rg fg gf (suc m) m (lt-suc_self m) (omega arith) lm in
    let u = rf.up m b lm l in
    omega arith

-- the data digits of a word are those that the project takes out
pub data_digits : (s : Shape) → Lawful s → (w d : List ℕ) → paper.DataDigits (of s) w d → d ≡ extract_of s w
unfolding extract_of
data_digits s law w d x =
    let p = information_positions s law in
    let K : ℕ = info_length s in
    let a : ℕ = length x.places in
    let rf : Rises a (at x.places) = record { up = x.rising } in
    let rg : Rises K (info_position s) = record { up = p.rising } in
    let fg : Among a (at x.places) K (info_position s) = record { found = λ i l. let (lo, place) = x.each i l in p.complete _ lo (place_dependent s place) } in
    let gf : Among K (info_position s) a (at x.places) = record { found = λ k l. x.every _ (p.lower k l) (dependent_place s (p.dependent k l)) } in
    let size : a ≡ K = omega (arith, no_longer rf rg fg gf, no_longer rg rf gf fg) in
    is_tabulate K (λ k. at w (info_position s k)) d (x.number ∙ size)
    (λ k l. let la : k < a = rw size l in x.same k la ∙ ap (at w) (alike rf rg fg gf (suc k) k (lt-suc_self k) la l))
