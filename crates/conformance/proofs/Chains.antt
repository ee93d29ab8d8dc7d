-- Arrivals one after the other are a run, and so are bundles.
use mathlib.Core.Path.{◌≡◌, refl, sym, ap, ◌∙◌, subst}
use mathlib.Core.List.{List, [], ◌∷◌, ◌++◌}
use Prim.Native.Nat.{ℕ, zero, suc, ◌+◌, ◌<◌}
use native.Mathlib.Omega.{arith}
use lib.ListN.{length}
use Rattle.paper.specs.Paper as paper
use Rattle.paper.specs.Bundle.{Bundles, none, more}
use Rattle.conformance.proofs.Demands.{demand3}

-- ---- arrivals one after the other
pub data Chain : paper.Session → List paper.Arrival → paper.Session → Type 0 where
  stop : {σ τ : paper.Session} → σ ≡ τ → Chain σ [] τ
  step : {σ τ end : paper.Session} {a : paper.Arrival} {rest : List paper.Arrival} {r : paper.Arrived}
      → paper.Arriving σ a r → r.session ≡ τ → Chain τ rest end → Chain σ (a ∷ rest) end

-- from a session that is the same
unfoldable pub from : {σ τ end : paper.Session} {xs : List paper.Arrival} → σ ≡ τ → Chain τ xs end → Chain σ xs end
from e (stop h) = stop (e ∙ h)
from e (step {a = a} {r = r} h n c) = step (subst (λ (υ : paper.Session). paper.Arriving υ a r) (sym e) h) n c

unfoldable pub join : {σ τ end : paper.Session} {xs ys : List paper.Arrival} → Chain σ xs τ → Chain τ ys end → Chain σ (xs ++ ys) end
join (stop e) d = from e d
join (step h n c) d = step h n (join c d)

unfoldable pub sessions : {σ end : paper.Session} {arrivals : List paper.Arrival} → Chain σ arrivals end → ℕ → paper.Session
sessions {σ} (stop e) i = σ
sessions {σ} (step h n c) zero = σ
sessions (step h n c) (suc i) = sessions c i

unfoldable pub answers : {σ end : paper.Session} {arrivals : List paper.Arrival} → Chain σ arrivals end → ℕ → List ℕ
answers (stop e) i = []
answers (step {r = r} h n c) zero = r.answer
answers (step h n c) (suc i) = answers c i

-- the values of all answers, one after the other
abbrev pub flat : ℕ → (ℕ → List ℕ) → List ℕ
flat zero answer = []
flat (suc m) answer = answer 0 ++ flat m (λ j. answer (suc j))

pub starts : {σ end : paper.Session} {arrivals : List paper.Arrival} (c : Chain σ arrivals end) → sessions c 0 ≡ σ
unfolding sessions
starts (stop e) = refl
starts (step h n c) = refl

pub ends : {σ end : paper.Session} {arrivals : List paper.Arrival} (c : Chain σ arrivals end) → sessions c (length arrivals) ≡ end
unfolding sessions
ends (stop e) = e
ends (step h n c) = ends c

-- where two chains meet
pub meets : {σ τ end : paper.Session} {xs ys : List paper.Arrival} (c : Chain σ xs τ) (d : Chain τ ys end) → sessions (join c d) (length xs) ≡ τ
unfolding sessions join
meets (stop e) d = starts (from e d) ∙ e
meets (step h n c) d = meets c d

pub goes : {σ end : paper.Session} {arrivals : List paper.Arrival} (c : Chain σ arrivals end) (j : ℕ) → j < length arrivals → (word' scratch' : List ℕ)
    × paper.Arriving (sessions c j) (paper.arrival_at arrivals j) (record { session = sessions c (suc j); word = word'; scratch = scratch'; answer = answers c j })
unfolding sessions answers
goes (stop e) j l = absurd (omega arith)
goes (step {σ = σ} {a = a} {r = r} h n c) zero l =
    (r.word, r.scratch, subst (λ (τ : paper.Session). paper.Arriving σ a (record { session = τ; word = r.word; scratch = r.scratch; answer = r.answer })) (n ∙ sym (starts c)) h)
goes (step h n c) (suc j) l = goes c j (omega arith)

-- ---- a bundle's words
module _ {σ τ : paper.Session} {way : ℕ} {words scratch words' scratch' outcomes' : List ℕ} (d : paper.Delivered σ way words scratch τ words' scratch' outcomes') where
  unfoldable pub chain_from : (i m : ℕ) → i + m ≡ d.number → Chain (d.before i) (paper.arrivals_from σ.shape way words scratch i m) τ
  chain_from i zero e = let here : i ≡ d.number = omega arith in stop (ap d.before here ∙ d.last)
  chain_from i (suc m) e =
      let l : i < d.number = omega arith in
      step (d.each i l) (sym (d.next i l)) (chain_from (suc i) m (omega arith))

  pub all_of : 0 + d.number ≡ d.number
  all_of = omega arith

  unfoldable pub bundle_chain : Chain σ (paper.arrivals_from σ.shape way words scratch 0 d.number) τ
  bundle_chain = from (sym d.first) (chain_from 0 d.number all_of)

bundles_chain : {σ end : paper.Session} {arrivals : List paper.Arrival} → Bundles σ arrivals end → Chain σ arrivals end
bundles_chain none = stop refl
bundles_chain (more d rest) = join (bundle_chain d) (bundles_chain rest)

-- ---- demand 3 of a chain, at any place in it
pub record Holds (s : paper.Shape) (pages : List paper.Sheet) (xs ys : List paper.Arrival) (begin between end : paper.Session) : Type 0 where
  pub session : ℕ → paper.Session
  pub answer : ℕ → List ℕ
  pub first : session 0 ≡ begin
  pub middle : session (length xs) ≡ between
  pub last : session (length (xs ++ ys)) ≡ end
  pub run : paper.Run s (xs ++ ys) session answer
  pub demand : paper.Demand3 s pages (xs ++ ys) session answer

unfoldable pub chain_demand : (s : paper.Shape) (pages : List paper.Sheet) {xs ys : List paper.Arrival} {begin between end : paper.Session}
    → paper.Recording s pages → paper.Fits s pages (xs ++ ys) → paper.Beginning s begin 0 → Chain begin xs between → Chain between ys end
    → Holds s pages xs ys begin between end
chain_demand s pages {xs} {ys} recording fits first before after =
    let c = join before after in
    let run : paper.Run s (xs ++ ys) (sessions c) (answers c) =
    record { first = subst (λ (σ : paper.Session). paper.Beginning s σ 0) (sym (starts c)) first; next = goes c } in
    record {
      session = sessions c;
      answer = answers c;
      first = starts c;
      middle = meets before after;
      last = ends c;
      run = run;
      demand = demand3 s (xs ++ ys) (sessions c) (answers c) run pages recording fits;
    }

-- of bundles, and between any two of them
pub demand3_bundles : (s : paper.Shape) (pages : List paper.Sheet) {xs ys : List paper.Arrival} {begin between end : paper.Session}
    → paper.Recording s pages → paper.Fits s pages (xs ++ ys) → paper.Beginning s begin 0 → Bundles begin xs between → Bundles between ys end
    → Holds s pages xs ys begin between end
demand3_bundles s pages recording fits first before after = chain_demand s pages recording fits first (bundles_chain before) (bundles_chain after)
