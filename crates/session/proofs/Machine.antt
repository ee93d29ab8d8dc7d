-- Laws of the plain machine: what one more arrival adds to it.
use mathlib.Core.Path.{◌≡◌, refl, sym, ap, ◌∙◌}
use mathlib.Core.Bool.{Bool, true, false, cond, ◌||◌, or-false}
use mathlib.Core.List.{List, [], ◌∷◌}
use mathlib.Core.Logic.{⊎_elim}
use Prim.Native.Nat.{ℕ, zero, suc, ◌+◌, ◌<◌, ◌≤◌}
use native.Mathlib.Nat.{not-suc-le-zero, le_of_suc-le-suc, le_of_lt, add-zero}
use native.Mathlib.Omega.{arith}
use lib.Dec.{eqb}
use lib.ListN.{length, take}
use borrow.Author.Tests.{eq-eqb, ne_eqb, eqb-true}
use Rattle.parity.specs.Count.{sum}
use Rattle.parity.proofs.Tests.{either, same_eqb, any_suc, any_zero}
use Rattle.parity.proofs.Sums.{sum_cong, sum_add, sum_only}
use Rattle.gtb.specs.declared.Shape.{Shape}
use Rattle.session.specs.Session.{count_of}
use Rattle.session.specs.Arrival.{Ways, Opened, Page, Bad}
use Rattle.session.specs.Recording.{Arrival, opened_at}
use Rattle.session.specs.Claim.{has_number, come, empty_machine, Machine, machine_page, machine_step, machine}

-- the set after a page: the page, and what it held
fed_pages : (m : Machine) (number : ℕ) (marks : List ℕ) (known : Bool) → m.pages number ≡ known → (p : ℕ)
    → (machine_page m number marks known).pages p ≡ (m.pages p || eqb number p)
fed_pages m number marks true h p =
    ⊎_elim (λ (t : eqb number p ≡ true). rw (← eqb-true number p t, h)) (λ (f : eqb number p ≡ false). rw f (sym (or-false (m.pages p))))
    (either (eqb number p))
fed_pages m number marks false h p = ap (λ (b : Bool). m.pages p || b) (same_eqb p number number p sym sym)

-- and after an arrival
pub feed_pages : (m : Machine) (o : Opened) (p : ℕ) → (machine_step m o).pages p ≡ (m.pages p || has_number p o)
feed_pages m (Page number marks k) p = fed_pages m number marks (m.pages number) refl p
feed_pages m (Bad e) p = sym (or-false (m.pages p))

-- a new page adds its marks
pub fed_counts : (m : Machine) (number : ℕ) (marks : List ℕ) (known : Bool) (f : ℕ)
    → (machine_page m number marks known).counts f ≡ m.counts f + cond known 0 (count_of f marks)
fed_counts m number marks true f = sym (add-zero (m.counts f))
fed_counts m number marks false f = refl

-- the weights w i of those of n pages, page i with the number num i, that are in the set
unfoldable pub weighed : ℕ → (ℕ → ℕ) → (ℕ → ℕ) → (ℕ → Bool) → ℕ
weighed n num w pages = sum n (λ i. cond (pages (num i)) (w i) 0)

weight_or : (a b : Bool) (w : ℕ) → cond (a || b) w 0 ≡ cond a w 0 + cond a 0 (cond b w 0)
weight_or true b w = sym (add-zero w)
weight_or false true w = omega arith
weight_or false false w = refl

cond_zero : (b : Bool) → ◌≡◌ {A = ℕ} (cond b 0 0) 0
cond_zero true = refl
cond_zero false = refl

-- a new page, the i-th and no other, adds its weight
pub fed_weight : (n : ℕ) (num w : ℕ → ℕ) (m : Machine) (number : ℕ) (marks : List ℕ) (known : Bool) → m.pages number ≡ known
    → (i : ℕ) → i < n → num i ≡ number → ((j : ℕ) → j < n → num j ≡ number → j ≡ i)
    → weighed n num w (machine_page m number marks known).pages ≡ weighed n num w m.pages + cond known 0 (w i)
unfolding weighed
fed_weight n num w m number marks known h i l here alone =
    sum_cong n (λ j. cond ((machine_page m number marks known).pages (num j)) (w j) 0) (λ j. cond (m.pages (num j)) (w j) 0 + new j)
    (λ j lj. ap (λ (b : Bool). cond b (w j) 0) (fed_pages m number marks known h (num j)) ∙ weight_or (m.pages (num j)) (eqb number (num j)) (w j))
    ∙ sum_add n (λ j. cond (m.pages (num j)) (w j) 0) new
    ∙ ap (λ (x : ℕ). sum n (λ j. cond (m.pages (num j)) (w j) 0) + x) (sum_only n i new l others ∙ at_i)
  where
    new : ℕ → ℕ
    new j = cond (m.pages (num j)) 0 (cond (eqb number (num j)) (w j) 0)

    others : (j : ℕ) → j < n → (j ≡ i → ⊥) → new j ≡ 0
    others j lj ne = rw (ne_eqb number (num j) (λ e. ne (alone j lj (sym e)))) (cond_zero (m.pages (num j)))

    at_i : new i ≡ cond known 0 (w i)
    at_i = rw (here, h, eq-eqb number number refl)

-- the machine after one more arrival
pub machine_more : (ways : Ways) (s : Shape) (m : Machine) (arrivals : List Arrival) (j : ℕ) → j < length arrivals
    → machine ways s m (take (suc j) arrivals) ≡ machine_step (machine ways s m (take j arrivals)) (opened_at ways s arrivals j)
machine_more ways s m [] j l = absurd (not-suc-le-zero l)
machine_more ways s m (a ∷ rest) zero l = refl
machine_more ways s m (a ∷ rest) (suc j) l = machine_more ways s (machine_step m (opened_at ways s (a ∷ rest) 0)) rest j (le_of_suc-le-suc l)

-- the machine after the first j arrivals
abbrev pub held : Ways → Shape → List Arrival → ℕ → Machine
held ways s arrivals j = machine ways s empty_machine (take j arrivals)

-- its set: the pages that have come
pub held_pages : (ways : Ways) (s : Shape) (arrivals : List Arrival) (j : ℕ) → j ≤ length arrivals → (p : ℕ)
    → (held ways s arrivals j).pages p ≡ come ways s arrivals j p
unfolding come
held_pages ways s arrivals zero l p = sym (any_zero (λ j. has_number p (opened_at ways s arrivals j)))
held_pages ways s arrivals (suc j) l p =
    ap (λ (m : Machine). m.pages p) (machine_more ways s empty_machine arrivals j l)
    ∙ feed_pages (held ways s arrivals j) (opened_at ways s arrivals j) p
    ∙ ap (λ (b : Bool). b || has_number p (opened_at ways s arrivals j)) (held_pages ways s arrivals j (le_of_lt l) p)
    ∙ sym (any_suc j (λ i. has_number p (opened_at ways s arrivals i)))
