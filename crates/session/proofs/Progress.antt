-- The two figures: counted and searched for, tested, and kept by an arrival.
use mathlib.Core.Path.{◌≡◌, refl, sym, ap, ap₂, ◌∙◌}
use mathlib.Core.Bool.{Bool, true, false, not, ◌&&◌, and-true}
use mathlib.Core.List.{List, ◌++◌}
use mathlib.Core.Logic.{⊎_elim}
use Prim.Native.Nat.{ℕ, ◌+◌, ◌-◌, ◌<◌, ◌≤◌}
use native.Mathlib.Omega.{arith}
use lib.Dec.{eqb}
use lib.ListN.{length, set, take, drop, get_or-append, get_or-replicate}
use lib.Seq.{get_or-set_same, get_or-set_other, length-take-le}
use Rattle.std.proofs.lemmas.List.{get_or-append-add, get_or-take, get_or-drop, length-append}
use Rattle.std.proofs.lemmas.Bool.{cases_lt}
use borrow.Author.Tests.{eq-eqb, ne_eqb, eqb-true, eqb-false}
use mir.Val.{bool_byte}
use Rattle.parity.specs.Count.{bit, sum, count}
use Rattle.parity.proofs.Tests.{either, clash, and_both, and_left, and_right, and_no_left, and_no_right, not_of_true, not_of_false}
use Rattle.parity.proofs.Sums.{sum_split, sum_cong, count_zero, count_cong, count_bound, count_none, count_all}
use Rattle.parity.proofs.Pigeon.{count_others}
use Rattle.parity.proofs.Lowest.{Lowest, lowest_is, lowest_right, full_count}
use Rattle.gtb.specs.declared.Shape.{Shape}
use Rattle.session.specs.declared.Session.{Session}
use Rattle.session.specs.Session.{marked, pages_of, lowest_of, consistent, Consistent, fresh_of, figured, recorded}
use Rattle.session.specs.Steps.{marks_in}
use Rattle.session.specs.declared.Arrived.{Arrived}
use Rattle.session.specs.Arrival.{Ways, Opened, session_after, Answering}
use Rattle.session.proofs.Settle.{after_cases}

-- ---- counting

-- yes as a number, as a cast gives it
pub bit_byte : (b : Bool) → bool_byte b ≡ bit b
unfolding bit
bit_byte true = refl
bit_byte false = refl

-- a piece of the marks more
pub marks_joined : (xs ys : List Bool) → marks_in (xs ++ ys) ≡ marks_in xs + marks_in ys
unfolding count
marks_joined xs ys =
    let f : ℕ → ℕ = λ k. bit (marked (xs ++ ys) k) in
    ap (λ (n : ℕ). sum n f) (length-append xs ys)
    ∙ sum_split (length xs) (length ys) f
    ∙ ap₂ (λ (a b : ℕ). a + b)
    (sum_cong (length xs) f (λ k. bit (marked xs k)) (λ k l. ap bit (get_or-append xs ys false k l)))
    (sum_cong (length ys) (λ k. f (length xs + k)) (λ k. bit (marked ys k)) (λ k l. ap bit (get_or-append-add xs ys k false)))

-- those at the front
pub marks_front : (taken : List Bool) (end : ℕ) → end ≤ length taken → marks_in (take end taken) ≡ count end (marked taken)
marks_front taken end l =
    ap (λ (n : ℕ). count n (marked (take end taken))) (length-take-le end taken l)
    ∙ count_cong end (marked (take end taken)) (marked taken) (λ k below. get_or-take end taken k false below)

-- none
pub marks_none : (xs : List Bool) → length xs ≡ 0 → marks_in xs ≡ 0
marks_none xs e = ap (λ (n : ℕ). count n (marked xs)) e ∙ count_zero (marked xs)

-- ---- the test

-- the lowest number not taken is at most 1024, all below it are taken, and it is not
pub lowest_found : (taken : List Bool) (lowest : ℕ) → lowest ≤ 1024 → ((p : ℕ) → p < lowest → marked taken p ≡ true)
    → (lowest < 1024 → marked taken lowest ≡ false) → lowest ≡ lowest_of taken
unfolding lowest_of
lowest_found taken lowest few below free = sym (lowest_is 1024 (marked taken) lowest (record { upto = few; below = below; fails = free }))

-- the marks from one number on
pub mark_behind : (taken : List Bool) (from k : ℕ) → k < 1024 - from → marked (take (1024 - from) (drop from taken)) k ≡ marked taken (from + k)
mark_behind taken from k l = get_or-take (1024 - from) (drop from taken) k false l ∙ get_or-drop from taken k false

-- behind marks that are taken, i more are
pub below_found : (taken : List Bool) (from i : ℕ) → i ≤ 1024 - from → ((p : ℕ) → p < from → marked taken p ≡ true)
    → ((k : ℕ) → k < i → marked (take (1024 - from) (drop from taken)) k ≡ true) → (p : ℕ) → p < from + i → marked taken p ≡ true
below_found taken from i room below more p l =
    ⊎_elim (λ (h : p < from). below p h)
    (λ (h : from ≤ p).
    ap (marked taken) (omega arith) ∙ sym (mark_behind taken from (p - from) (omega arith)) ∙ more (p - from) (omega arith))
    (cases_lt p from)

-- so with what the marks say
pub lowest_facts : (taken : List Bool) → Lowest 1024 (marked taken) (lowest_of taken)
unfolding lowest_of
lowest_facts taken = lowest_right 1024 (marked taken)

pub lowest_full : (taken : List Bool) (lowest : ℕ) → lowest ≡ lowest_of taken → count lowest (marked taken) ≡ lowest
lowest_full taken lowest e = count_all lowest (marked taken) (λ p l. (lowest_facts taken).below p (rw e at l))

-- a figure that is another fails it
pub pages_differ : (taken : List Bool) (pages lowest : ℕ) → (pages ≡ pages_of taken → ⊥)
    → false ≡ (eqb pages (pages_of taken) && eqb lowest (lowest_of taken))
pages_differ taken pages lowest ne = sym (and_no_left (eqb lowest (lowest_of taken)) (ne_eqb pages (pages_of taken) ne))

pub lowest_differs : (taken : List Bool) (pages lowest : ℕ) → (lowest ≡ lowest_of taken → ⊥)
    → false ≡ (eqb pages (pages_of taken) && eqb lowest (lowest_of taken))
lowest_differs taken pages lowest ne = sym (and_no_right (eqb pages (pages_of taken)) (ne_eqb lowest (lowest_of taken) ne))

pub both_agree : (taken : List Bool) (pages lowest : ℕ) → pages ≡ pages_of taken → lowest ≡ lowest_of taken
    → true ≡ (eqb pages (pages_of taken) && eqb lowest (lowest_of taken))
both_agree taken pages lowest p l = sym (and_both (eq-eqb pages (pages_of taken) p) (eq-eqb lowest (lowest_of taken) l))

-- all below it are taken: whether it is the lowest is whether it is not
pub last_test : (taken : List Bool) (pages lowest : ℕ) → pages ≡ pages_of taken → lowest < 1024 → count lowest (marked taken) ≡ lowest
    → not (marked taken lowest) ≡ (eqb pages (pages_of taken) && eqb lowest (lowest_of taken))
last_test taken pages lowest p l full =
    ⊎_elim
    (λ (t : marked taken lowest ≡ true).
    not_of_true t ∙ lowest_differs taken pages lowest (λ e. clash t (ap (marked taken) e ∙ (lowest_facts taken).fails (rw e at l))))
    (λ (f : marked taken lowest ≡ false).
    not_of_false f ∙ both_agree taken pages lowest p (lowest_found taken lowest (omega arith) (full_count lowest (marked taken) full) (λ _. f)))
    (either (marked taken lowest))

-- ---- a session whose figures are right
pub consistent_pages : (σ : Session) → Consistent σ → σ.pages ≡ pages_of σ.taken
unfolding consistent
consistent_pages σ h = eqb-true _ _ (and_left (eqb σ.pages (pages_of σ.taken)) (eqb σ.lowest (lowest_of σ.taken)) h)

pub consistent_lowest : (σ : Session) → Consistent σ → σ.lowest ≡ lowest_of σ.taken
unfolding consistent
consistent_lowest σ h = eqb-true _ _ (and_right (eqb σ.pages (pages_of σ.taken)) (eqb σ.lowest (lowest_of σ.taken)) h)

-- a fresh one
pub fresh_consistent : (s : Shape) → Consistent (fresh_of s)
unfolding consistent fresh_of pages_of lowest_of
fresh_consistent s =
    let no : (p : ℕ) → p < 1024 → marked (fresh_of s).taken p ≡ false = λ p l. get_or-replicate 1024 p false false l in
    and_both (eq-eqb 0 _ (sym (count_none 1024 (marked (fresh_of s).taken) no)))
    (eq-eqb 0 _ (sym (lowest_is 1024 (marked (fresh_of s).taken) 0 (record { upto = omega arith; below = λ i l. absurd (omega arith); fails = λ l. no 0 l }))))

-- ---- one page more
module _ (taken : List Bool) (number : ℕ) (size : length taken ≡ 1024) (l : number < 1024) where
  pub page_own : marked (set taken number true) number ≡ true
  page_own = get_or-set_same taken number true false (rw size l)

  pub page_other : (p : ℕ) → (p ≡ number → ⊥) → marked (set taken number true) p ≡ marked taken p
  page_other p ne = get_or-set_other taken number p true false ne

  -- marks stay
  pub page_keeps : (p : ℕ) → marked taken p ≡ true → marked (set taken number true) p ≡ true
  page_keeps p h =
      ⊎_elim (λ (e : eqb p number ≡ true). rw (eqb-true p number e) page_own)
      (λ (n : eqb p number ≡ false). page_other p (λ e. clash (eq-eqb p number e) n) ∙ h)
      (either (eqb p number))

  -- a new page is one more
  pub page_more : marked taken number ≡ false → pages_of taken + 1 ≡ pages_of (set taken number true)
  unfolding pages_of
  page_more new =
      omega (
        arith,
        count_others 1024 (marked (set taken number true)) number l page_own,
        count_cong 1024 (λ p. marked (set taken number true) p && not (eqb p number)) (marked taken) (λ p lp. others p),
      )
    where
      others : (p : ℕ) → (marked (set taken number true) p && not (eqb p number)) ≡ marked taken p
      others p =
          ⊎_elim
          (λ (e : eqb p number ≡ true).
          and_no_right (marked (set taken number true) p) (not_of_true e) ∙ sym new ∙ ap (marked taken) (sym (eqb-true p number e)))
          (λ (n : eqb p number ≡ false).
          ap₂ (λ (a b : Bool). a && b) (page_other p (eqb-false p number n)) (not_of_false n) ∙ and-true (marked taken p))
          (either (eqb p number))

-- ---- what taking a page asks of a session whose figures are right
module _ (σ : Session) (right : Consistent σ) where
  -- its number of pages has room for one more
  pub few_pages : σ.pages ≤ 1024
  unfolding pages_of
  few_pages = rw (consistent_pages σ right) (count_bound 1024 (marked σ.taken))

  module _ (number : ℕ) (size : length σ.taken ≡ 1024) (l : number < 1024) where
    pub more_pages : marked σ.taken number ≡ false → σ.pages + 1 ≡ pages_of (set σ.taken number true)
    more_pages new = rw (consistent_pages σ right) (page_more σ.taken number size l new)

    -- all below its lowest number stay taken
    pub kept_lowest : (σ.lowest ≤ 1024) × ((p : ℕ) → p < σ.lowest → marked (set σ.taken number true) p ≡ true)
    kept_lowest =
        let f = lowest_facts σ.taken in
        rw (consistent_lowest σ right) (f.upto, λ p lp. page_keeps σ.taken number size l p (f.below p lp))

-- ---- an arrival hands back right figures if it was lent them
pub figured_consistent : (s : Shape) (taken : List Bool) (calls : List ℕ) → Consistent (figured s taken calls)
unfolding consistent
figured_consistent s taken calls = and_both (eq-eqb (pages_of taken) (pages_of taken) refl) (eq-eqb (lowest_of taken) (lowest_of taken) refl)

pub recorded_consistent : (σ : Session) (number : ℕ) (marks : List ℕ) → Consistent (recorded σ number marks)
unfolding recorded
recorded_consistent σ number marks = let τ = recorded σ number marks in figured_consistent τ.shape τ.taken τ.calls

pub after_consistent : (σ : Session) (o : Opened) → Consistent σ → Consistent (session_after σ o)
after_consistent σ o right = after_cases Consistent σ right (recorded_consistent σ) o

pub arrival_consistent : (ways : Ways) (σ : Session) {way : ℕ} {o : Opened} {word scratch word' scratch' : List ℕ} {r : Arrived}
    → Answering ways σ way o word scratch word' scratch' r → Consistent σ → Consistent r.session
arrival_consistent ways σ {o} h right = rw h.session (after_consistent σ o right)
