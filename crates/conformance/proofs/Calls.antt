-- Demand 3 at the boundary to C: calls, each on the values that the last one left, are a run of the words that they bring.
use mathlib.Core.Path.{◌≡◌, refl, sym, ap, ap₂, ◌∙◌}
use mathlib.Core.Bool.{true}
use mathlib.Core.List.{List, [], ◌∷◌, ◌++◌, append_assoc}
use mathlib.Core.Logic.{inl, inr, ⊎_elim}
use Prim.Native.Nat.{ℕ, zero, suc, ◌+◌, ◌*◌, ◌<◌, ◌≤◌}
use native.Mathlib.Omega.{arith}
use lib.ListN.{length, get_or, take, drop, length-drop}
use lib.Seq.{take-add, drop-drop, get_or-drop, ext_get_or, length-take-le, get_or-take}
use Rattle.paper.specs.Paper as paper
use Rattle.paper.specs.Boundary.{Calls, none, word, bundle, Returned, session_in, Written, FreshValues, BundlingValues}
use Rattle.gtb.proofs.Judging.{judged_elim, judged_map}
use Rattle.conformance.proofs.Chains.{Chain, stop, step, from, join, answers, flat, bundle_chain, chain_from, all_of, Holds, chain_demand}

-- the session in the values is the one that the call left
returned_same : {values values' : List ℕ} {session' : paper.Session} → Returned values session' values' → session_in values' ≡ session'
returned_same (inl (pages, same, kept)) = ap session_in kept ∙ sym same
returned_same (inr (pages, written)) = written.same

calls_chain : {values end given : List ℕ} {arrivals : List paper.Arrival} → Calls values arrivals given end → Chain (session_in values) arrivals (session_in end)
calls_chain none = stop refl
calls_chain (word (session', arriving, stored, answered) c) = step arriving (sym (returned_same stored)) (calls_chain c)
calls_chain (bundle d stored c) = join (bundle_chain d) (from (sym (returned_same stored)) (calls_chain c))

-- a bundle that is refused whole leaves every value as it was
pub refused_bundle : {values values' words scratch outcomes words' scratch' outcomes' : List ℕ} {way answer : ℕ}
    → BundlingValues values way words scratch outcomes values' words' scratch' outcomes' answer → (answer ≡ 0 → ⊥)
    → (values' ≡ values) × (words' ≡ words) × (scratch' ≡ scratch) × (outcomes' ≡ outcomes)
refused_bundle {values} {values'} {words} {scratch} {outcomes} {words'} {scratch'} {outcomes'} {way} {answer} (session', bundling, stored) other =
    judged_elim (paper.bundle_tests (session_in values) way words scratch outcomes)
    (λ k. (answer ≡ paper.refusal k) × (session' ≡ session_in values) × (words' ≡ words) × (scratch' ≡ scratch) × (outcomes' ≡ outcomes))
    ((answer ≡ 0) × paper.Delivered (session_in values) way words scratch session' words' scratch' outcomes')
    ((values' ≡ values) × (words' ≡ words) × (scratch' ≡ scratch) × (outcomes' ≡ outcomes))
    (λ k left. (
      ⊎_elim (λ kept. kept.2) (λ moved. absurd (moved.0 (ap (λ (σ : paper.Session). σ.pages) left.1))) stored,
      left.2,
      left.3,
      left.4,
    ))
    (λ _ done. absurd (other done.0))
    bundling

-- ---- the values of the outcomes
given_of : {σ end : paper.Session} {arrivals : List paper.Arrival} → Chain σ arrivals end → List ℕ
given_of (stop e) = []
given_of (step {r = r} h n c) = r.answer ++ given_of c

flat_given : {σ end : paper.Session} {arrivals : List paper.Arrival} (c : Chain σ arrivals end) → flat (length arrivals) (answers c) ≡ given_of c
unfolding answers given_of
flat_given (stop e) = refl
flat_given (step {r = r} h n c) = ap (λ (xs : List ℕ). r.answer ++ xs) (flat_given c)

given_from : {σ τ end : paper.Session} {xs : List paper.Arrival} (e : σ ≡ τ) (c : Chain τ xs end) → given_of (from e c) ≡ given_of c
unfolding from given_of
given_from e (stop h) = refl
given_from e (step h n c) = refl

given_join : {σ τ end : paper.Session} {xs ys : List paper.Arrival} (c : Chain σ xs τ) (d : Chain τ ys end) → given_of (join c d) ≡ given_of c ++ given_of d
unfolding join given_of
given_join (stop e) d = given_from e d
given_join (step {r = r} h n c) d = ap (λ (xs : List ℕ). r.answer ++ xs) (given_join c d) ∙ sym (append_assoc r.answer (given_of c) (given_of d))

-- every answer has three values
three : (σ : paper.Session) (a : paper.Arrival) (r : paper.Arrived) → paper.Arriving σ a r → length r.answer ≡ 3
three σ a r =
    judged_elim (paper.arrival_tests σ a) (paper.Refusing σ a r) _ (length r.answer ≡ 3) (λ k refused. ap length refused.0)
    (λ _ read. let (v, digits, given, has, settling) = read in
    judged_elim (paper.contents σ.shape digits) (paper.Refusing σ a r) _ (length r.answer ≡ 3) (λ k refused. ap length refused.0)
    (λ _ page. ⊎_elim (λ again. ap length again.2.0)
    (λ new. judged_elim ((9, paper.Worn σ (paper.marks_in digits)) ∷ []) (paper.Refusing σ a r) _ (length r.answer ≡ 3) (λ k refused. ap length refused.0)
    (λ _ taken. ap length taken.1.0) new.1) page)
    settling)

module _ {σ τ : paper.Session} {way : ℕ} {words scratch words' scratch' outcomes' : List ℕ} (d : paper.Delivered σ way words scratch τ words' scratch' outcomes') where
  one_answer : (i : ℕ) → i < d.number → (d.left i).answer ≡ take 3 (drop (3 * i) outcomes')
  one_answer i l =
      let few : d.number ≤ 64 = d.run.1 in
      let long : 3 ≤ length (drop (3 * i) outcomes') = omega (arith, length-drop (3 * i) outcomes', d.list) in
      ext_get_or 0 (d.left i).answer (take 3 (drop (3 * i) outcomes')) (three _ _ _ (d.each i l) ∙ sym (length-take-le 3 (drop (3 * i) outcomes') long))
      (λ c lc.
      let small : c < 3 = rw (three _ _ _ (d.each i l)) at lc in
      sym (d.outcome i c l small) ∙ sym (get_or-drop (3 * i) outcomes' c 0) ∙ sym (get_or-take 3 (drop (3 * i) outcomes') c 0 small))

  given_bundle : (i m : ℕ) (e : i + m ≡ d.number) → given_of (chain_from d i m e) ≡ take (3 * m) (drop (3 * i) outcomes')
  unfolding chain_from given_of
  given_bundle i zero e = refl
  given_bundle i (suc m) e =
      let l : i < d.number = omega arith in
      let next : 3 * i + 3 ≡ 3 * suc i = omega arith in
      let size : 3 + 3 * m ≡ 3 * suc m = omega arith in
      ap₂ (λ (xs ys : List ℕ). xs ++ ys) (one_answer i l) (given_bundle (suc i) m (omega arith))
      ∙ ap (λ (k : ℕ). take 3 (drop (3 * i) outcomes') ++ take (3 * m) (drop k outcomes')) (sym next)
      ∙ ap (λ (xs : List ℕ). take 3 (drop (3 * i) outcomes') ++ take (3 * m) xs) (sym (drop-drop 3 (3 * i) outcomes'))
      ∙ sym (take-add 3 (3 * m) (drop (3 * i) outcomes'))
      ∙ ap (λ (k : ℕ). take k (drop (3 * i) outcomes')) size

-- what the calls gave are the values of all answers
calls_given : {values end given : List ℕ} {arrivals : List paper.Arrival} (c : Calls values arrivals given end) → given_of (calls_chain c) ≡ given
unfolding calls_chain given_of bundle_chain
calls_given none = refl
calls_given (word {outcome' = outcome'} x c) = ap (λ (xs : List ℕ). outcome' ++ xs) (calls_given c)
calls_given (bundle {outcomes' = outcomes'} d stored c) =
    given_join (bundle_chain d) (from (sym (returned_same stored)) (calls_chain c))
    ∙ ap₂ (λ (xs ys : List ℕ). xs ++ ys) (given_from (sym d.first) (chain_from d 0 d.number (all_of d)) ∙ given_bundle d 0 d.number (all_of d))
    (given_from (sym (returned_same stored)) (calls_chain c) ∙ calls_given c)

-- ---- demand 3, of the values between any two calls and at the end
pub record AtCalls (s : paper.Shape) (pages : List paper.Sheet) (xs ys : List paper.Arrival) (start between end given later : List ℕ) : Type 0 where
  pub holds : Holds s pages xs ys (session_in start) (session_in between) (session_in end)
  pub outcomes : flat (length (xs ++ ys)) holds.answer ≡ given ++ later
  pub counts : (f : ℕ) → f < 256 → get_or end (1036 + f) 0 ≡ paper.tally_of pages (λ i. true) f

pub demand3_calls : (s : paper.Shape) (pages : List paper.Sheet) (xs ys : List paper.Arrival) {blank start between end given later : List ℕ}
    → paper.Recording s pages → paper.Fits s pages (xs ++ ys) → FreshValues s blank start 0 → Calls start xs given between → Calls between ys later end
    → AtCalls s pages xs ys start between end given later
unfolding chain_demand
demand3_calls s pages xs ys {blank} {start} {between} {end} recording fits first before after =
    let begins : paper.Beginning s (session_in start) 0 =
    judged_map (paper.fresh_tests s) (λ k. (0 ≡ paper.refusal k) × (start ≡ blank)) (λ k. 0 ≡ paper.refusal k) ((0 ≡ 0) × Written (paper.fresh s) start) ((0 ≡ 0) × (session_in start ≡ paper.fresh s))
    (λ k x. x.0) (λ x. (x.0, x.1.same)) first in
    let holds = chain_demand s pages recording fits begins (calls_chain before) (calls_chain after) in
    record {
      holds = holds;
      outcomes = flat_given (join (calls_chain before) (calls_chain after)) ∙ given_join (calls_chain before) (calls_chain after) ∙ ap₂ (λ (a b : List ℕ). a ++ b) (calls_given before) (calls_given after);
      counts = λ f l. sym (get_or-drop 1036 end f 0) ∙ ap (λ (σ : paper.Session). get_or σ.calls f 0) (sym holds.last) ∙ holds.demand.whole f l;
    }
