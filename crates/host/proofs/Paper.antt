-- What crosses is what the paper asks: shapes and sessions as their values, answers as their numbers.
use mathlib.Core.Path.{◌≡◌, refl, sym, ap, ◌∙◌, subst, subst₂}
use mathlib.Core.Bool.{Bool, true, false, cond}
use mathlib.Core.List.{List, map}
use Prim.Native.Nat.{ℕ, ◌+◌, ◌^◌}
use native.Mathlib.Omega.{arith}
use lib.ListN.{length, get_or, length-drop, length-replicate, get_or-append, get_or-map}
use lib.Seq.{get_or-drop}
use Rattle.parity.specs.Count.{bit}
use Rattle.parity.proofs.Sums.{bit_le}
use Rattle.paper.specs.Paper as paper
use Rattle.paper.specs.Boundary as boundary
use Rattle.gtb.specs.declared.Shape.{Shape}
use Rattle.gtb.specs.declared.Refusal.{Refusal}
use Rattle.std.specs.Prelude.{Result, Ok, Err}
use Rattle.gtb.specs.Shape.{of, lawful}
use Rattle.gtb.specs.Answer.{refusal_number, status_number, unless}
use Rattle.gtb.proofs.Judging.{judged_map}
use Rattle.gtb.proofs.Conditions.{shape_tests}
use Rattle.session.specs.declared.Session.{Session}
use Rattle.session.specs.Session.{plain, fresh_of}
use Rattle.session.proofs.Growth.{Sized}
use Rattle.host.specs.Crossing.{shape_in, session_of, values_of}
use Rattle.host.specs.Entries.{length_in}
use Rattle.host.proofs.Values.{many, lists, values_back, values_size}

pub shape_in_lem : {s : Shape} (v : List ℕ) → s ≡ shape_in v → of s ≡ boundary.shape_in v
unfolding shape_in
shape_in_lem v h = ap of h

pub session_in_lem : {σ : Session} (v : List ℕ) → σ ≡ session_of v → plain σ ≡ boundary.session_in v
unfolding session_of shape_in
session_in_lem v h = ap plain h

-- P is what the paper asks of an entry of a shape, with so many lists
module _ {s : Shape} (v : List ℕ) {k r : ℕ} (shape : s ≡ shape_in v) (number : r ≡ k) where
  crossed : (P : paper.Shape → ℕ → Type 0) → P (of s) k → P (boundary.shape_in v) r
  crossed P = subst₂ P (shape_in_lem v shape) (sym number)

  pub one_list : (P : paper.Shape → List ℕ → ℕ → Type 0) (a : List ℕ) → P (of s) a k → P (boundary.shape_in v) a r
  one_list P a = crossed (λ x. P x a)

  pub two_lists : (P : paper.Shape → List ℕ → List ℕ → ℕ → Type 0) (a b : List ℕ) → P (of s) a b k → P (boundary.shape_in v) a b r
  two_lists P a b = crossed (λ x. P x a b)

  pub three_lists : (P : paper.Shape → List ℕ → List ℕ → List ℕ → ℕ → Type 0) (a b c : List ℕ) → P (of s) a b c k → P (boundary.shape_in v) a b c r
  three_lists P a b c = crossed (λ x. P x a b c)

  pub five_lists : (P : paper.Shape → List ℕ → List ℕ → List ℕ → List ℕ → List ℕ → ℕ → Type 0) (a b c d e : List ℕ) → P (of s) a b c d e k → P (boundary.shape_in v) a b c d e r
  five_lists P a b c d e = crossed (λ x. P x a b c d e)

pub marks_in_lem : {s : Shape} (v : List ℕ) → s ≡ shape_in v → (digits marks : List ℕ) → paper.Marks (of s) digits marks → paper.Marks (boundary.shape_in v) digits marks
marks_in_lem v shape digits marks = subst (λ (x : paper.Shape). paper.Marks x digits marks) (shape_in_lem v shape)

pub fresh_in : {s : Shape} (v : List ℕ) → s ≡ shape_in v → (values values' : List ℕ) (r : ℕ) → boundary.FreshValues (of s) values values' r → boundary.FreshValues (boundary.shape_in v) values values' r
fresh_in v shape values values' r = subst (λ (x : paper.Shape). boundary.FreshValues x values values' r) (shape_in_lem v shape)

-- and of a session
pub crossing_session : {A : Type 0} (P : paper.Session → A → ℕ → Type 0) {σ : Session} (v : List ℕ) {k r : ℕ} → σ ≡ session_of v → r ≡ k → (a : A) → P (plain σ) a k → P (boundary.session_in v) a r
crossing_session P v session number a = subst₂ (λ (σ : paper.Session) (x : ℕ). P σ a x) (session_in_lem v session) (sym number)

-- ---- a length
lawful_first : (t : Bool) (k : ℕ) → cond t k 0 ≡ unless t 0 k
lawful_first true k = refl
lawful_first false k = refl

pub length_asked : (size : Shape → ℕ) (asked : paper.Shape → ℕ) (v : List ℕ) {r : ℕ} → size (shape_in v) ≡ asked (of (shape_in v)) → r ≡ length_in size v → boundary.LengthOf asked (boundary.shape_in v) r
length_asked size asked v {r} same h =
    subst (λ (s : paper.Shape). boundary.LengthOf asked s r) (shape_in_lem {s = shape_in v} v refl)
    (shape_tests (shape_in v) (λ e. 0) (size (shape_in v)) (λ (z : r ≡ 0). z) (λ (z : r ≡ 0). z) (λ _ z. z ∙ same) (h ∙ lawful_first (lawful (shape_in v)) (size (shape_in v))))

-- ---- a session as it is written
pub written : (σ : Session) → Sized σ → boundary.Written (plain σ) (values_of σ)
unfolding bit
written σ h = record {
  size = values_size σ h;
  same = sym (session_in_lem {σ = session_of (values_of σ)} (values_of σ) refl) ∙ ap plain (values_back σ h);
  marks = λ p l.
      let here : get_or (values_of σ) (12 + p) 0 ≡ bit (paper.is_yes (plain σ) p) =
      sym (get_or-drop 12 (values_of σ) p 0)
      ∙ ap (λ (xs : List ℕ). get_or xs p 0) (lists σ h)
      ∙ get_or-append (map bit σ.taken) σ.calls 0 p (rw (many σ h) l)
      ∙ get_or-map bit σ.taken p _ in
      omega (arith, here, bit_le (paper.is_yes (plain σ) p));
}

-- ---- a fresh session
module _ (s : Shape) (values : List ℕ) where
  pub fresh_refused : {τ : paper.Session} {t : Result (Unit {0}) Refusal} {e : Refusal} {r : ℕ} → t ≡ Err e → paper.Beginning (of s) τ (status_number t) → r ≡ 2 ^ 31 + refusal_number e → boundary.FreshValues (of s) values values r
  fresh_refused {τ} {t} {e} {r} told begun is =
      judged_map (paper.fresh_tests (of s)) (λ k. status_number (Err e) ≡ paper.refusal k) (λ k. (r ≡ paper.refusal k) × (values ≡ values))
      ((status_number (Err e) ≡ 0) × (τ ≡ paper.fresh (of s))) ((r ≡ 0) × boundary.Written (paper.fresh (of s)) values)
      (λ k h. (is ∙ h, refl)) (λ h. absurd (let z : 2 ^ 31 + refusal_number e ≡ 0 = h.0 in omega arith)) (subst (λ (x : Result (Unit {0}) Refusal). paper.Beginning (of s) τ (status_number x)) told begun)

  pub fresh_done : {σ : Session} {t : Result (Unit {0}) Refusal} {values' : List ℕ} → Sized σ → t ≡ Ok tt → paper.Beginning (of s) (plain σ) (status_number t) → values' ≡ values_of σ → boundary.FreshValues (of s) values values' 0
  fresh_done {σ} {t} {values'} sized told begun is =
      judged_map (paper.fresh_tests (of s)) (λ k. 0 ≡ paper.refusal k) (λ k. (0 ≡ paper.refusal k) × (values' ≡ values))
      ((0 ≡ 0) × (plain σ ≡ paper.fresh (of s))) ((0 ≡ 0) × boundary.Written (paper.fresh (of s)) values')
      (λ k h. absurd (let z : 0 ≡ 2 ^ 31 + k = h in omega arith)) (λ h. (refl, subst₂ boundary.Written h.1 (sym is) (written σ sized))) (subst (λ (x : Result (Unit {0}) Refusal). paper.Beginning (of s) (plain σ) (status_number x)) told begun)

-- a fresh session has its lengths where the shape was loaded from ten values
pub fresh_sized : {s : Shape} (v : List ℕ) → length v ≡ 10 → s ≡ shape_in v → {σ : Session} → σ ≡ fresh_of s → Sized σ
unfolding fresh_of shape_in
fresh_sized v ten loaded is = record {
  slopes = ap (λ (τ : Session). length τ.shape.slopes) is ∙ ap (λ (x : Shape). length x.slopes) loaded ∙ omega (arith, length-drop 3 v, ten);
  taken = ap (λ (τ : Session). length τ.taken) is ∙ length-replicate {A = Bool} 1024 false;
  calls = ap (λ (τ : Session). length τ.calls) is ∙ length-replicate {A = ℕ} 256 0;
}
