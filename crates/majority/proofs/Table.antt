-- The vote at one position, by the table of syndromes.
use mathlib.Core.Path.{◌≡◌, sym, ap, ◌∙◌}
use mathlib.Core.Bool.{Bool, true, false, not, ◌&&◌}
use mathlib.Core.List.{List}
use mathlib.Core.Logic.{◌⊎◌, ⊎_elim}
use Prim.Native.Nat.{ℕ, ◌+◌, ◌*◌, ◌/◌, ◌<◌, ◌≤◌}
use native.Mathlib.Nat.{zero-add}
use native.Mathlib.Omega.{arith}
use lib.Arith.{digits_div}
use lib.Dec.{eqb, ltb}
use borrow.Author.Tests.{eq-eqb, ne_eqb}
use Rattle.parity.specs.Lists.{Begins}
use Rattle.parity.specs.Count.{bit}
use Rattle.parity.proofs.Tests.{and_both, and_no_left, and_no_right}
use Rattle.parity.proofs.First.{first_at, first_none}
use Rattle.gtb.specs.declared.Shape.{Shape}
use Rattle.gtb.specs.Square.{at}
use Rattle.correction.specs.Error.{shows}
use Rattle.correction.specs.Steps.{check_in}
use Rattle.correction.proofs.Rows.{own_check}
use Rattle.correction.proofs.Showing.{shows_zero, shows_more, shows_grows}
use Rattle.majority.specs.Majority.{majority}
use Rattle.majority.specs.Steps.{prevailing, voted_in, changes, passed_over, found_in}
use Rattle.majority.proofs.Votes.{majority_quiet, majority_cong}

-- the values of the checks
pub values_vote : (s : Shape) (syn : List ℕ) (j : ℕ) {values : List ℕ} → Begins 8 s.n (check_in s syn j) values → majority s.n (at values) ≡ voted_in s syn j
unfolding voted_in
values_vote s syn j {values} h = majority_cong s.n (at values) (check_in s syn j) h.entry

-- ---- the value that prevails
-- a number that is not 0, by how many show it
pub by_number : (n : ℕ) (v : ℕ → ℕ) (x c : ℕ) → (x ≡ 0 → ⊥) → c ≡ shows n v x → ltb n (2 * c) ≡ prevailing n v x
unfolding prevailing
by_number n v x c ne e = ap (λ (k : ℕ). ltb n (2 * k)) e ∙ sym (ap (λ (b : Bool). not b && ltb n (2 * shows n v x)) (ne_eqb x 0 ne))

-- the first one that prevails, or none
pub elects : {n : ℕ} (v : ℕ → ℕ) {t : ℕ} → t < n → ((u : ℕ) → u < t → prevailing n v (v u) ≡ false) → prevailing n v (v t) ≡ true → v t ≡ majority n v
unfolding majority prevailing
elects {n} v {t} l fails p = sym (first_at n (λ t. prevailing n v (v t)) v t l fails p)

pub elects_none : {n : ℕ} (v : ℕ → ℕ) → ((u : ℕ) → u < n → prevailing n v (v u) ≡ false) → 0 ≡ majority n v
unfolding majority prevailing
elects_none {n} v fails = sym (first_none n (λ t. prevailing n v (v t)) v fails)

-- ---- the silent checks on a position
-- that of the row
pub silent_first : (s : Shape) (syn : List ℕ) (row : ℕ) {c own : ℕ} → c < s.q → own ≡ bit (eqb (at syn row) 0) → own ≡ shows 1 (check_in s syn (row * s.q + c)) 0
silent_first s syn row {c} {own} l e =
    sym (zero-add own) ∙ shows_more {c = 0} {h = own} 0 _ 0 (shows_zero _ 0) (e ∙ ap (λ (x : ℕ). bit (eqb (at syn x) 0)) (own_check s row l))

-- half of the checks are silent, or more
pub silent_half : (s : Shape) (syn : List ℕ) (j t : ℕ) {silent : ℕ} → t ≤ s.n → silent ≡ shows t (check_in s syn j) 0 → s.n ≤ 2 * silent → voted_in s syn j ≡ 0
unfolding voted_in
silent_half s syn j t l e half = majority_quiet s.n _ (omega (arith, shows_grows t s.n (check_in s syn j) 0 l))

-- ---- a position that changes, or not
pub stays : (s : Shape) (syn : List ℕ) (j : ℕ) → voted_in s syn j ≡ 0 → changes s syn j ≡ false
unfolding changes
stays s syn j z = ap not (eq-eqb (voted_in s syn j) 0 z)

pub changes_there : (s : Shape) (syn : List ℕ) (j : ℕ) → (voted_in s syn j ≡ 0 → ⊥) → changes s syn j ≡ true
unfolding changes
changes_there s syn j ne = ap not (ne_eqb (voted_in s syn j) 0 ne)

-- ---- rows
module _ (s : Shape) (syn : List ℕ) (loud : Bool) (row c : ℕ) (lc : c < s.q) where
  row_of : passed_over loud (at syn ((row * s.q + c) / s.q)) ≡ passed_over loud (at syn row)
  row_of = ap (λ (r : ℕ). passed_over loud (at syn r)) (digits_div row lc)

  -- nothing is found in a silent one by a search of loud rows
  pub nothing_found : loud ≡ true → at syn row ≡ 0 → found_in s syn loud (row * s.q + c) ≡ false
  unfolding found_in passed_over
  nothing_found l z = and_no_left _ (ap not (row_of ∙ and_both l (eq-eqb (at syn row) 0 z)))

  -- in another, or by another search, all that changes is found
  pub all_found : (loud ≡ true × (at syn row ≡ 0 → ⊥)) ⊎ (loud ≡ false) → found_in s syn loud (row * s.q + c) ≡ changes s syn (row * s.q + c)
  unfolding found_in passed_over
  all_found h =
      let looked : passed_over loud (at syn row) ≡ false =
      ⊎_elim (λ (e : loud ≡ true × (at syn row ≡ 0 → ⊥)). and_no_right loud (ne_eqb (at syn row) 0 e.1)) (λ e. and_no_left (eqb (at syn row) 0) e) h in
      ap (λ (b : Bool). not b && changes s syn (row * s.q + c)) (row_of ∙ looked)
