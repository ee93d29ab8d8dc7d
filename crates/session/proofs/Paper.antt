-- Tests 1, 18 and 11 of a session, the fresh session and the count query are the paper's.
use mathlib.Core.Path.{◌≡◌, refl, sym, ap, ◌∙◌, subst}
use mathlib.Core.Bool.{Bool, true, false}
use mathlib.Core.Logic.{◌⊎◌}
use Prim.Native.Nat.{ℕ, ◌<◌}
use native.Mathlib.Omega.{arith}
use lib.Dec.{eqb, ltb}
use borrow.Author.Tests.{eqb-true, ltb-true, ltb-false, eqb-false}
use Rattle.parity.proofs.Lowest.{Lowest, lowest_is, lowest_right}
use Rattle.paper.specs.Paper as paper
use Rattle.gtb.specs.declared.Shape.{Shape}
use Rattle.gtb.specs.declared.Refusal.{Refusal}
use Rattle.std.specs.Prelude.{Result, Ok, Err}
use Rattle.gtb.specs.Shape.{of, lawful, shape_refusal}
use Rattle.gtb.specs.Answer.{unless, status_number}
use Rattle.gtb.proofs.Judging.{Decides, decides_eqb, decides_both, test}
use Rattle.gtb.proofs.Conditions.{shape_tests}
use Rattle.session.specs.declared.Session.{Session}
use Rattle.session.specs.declared.Unlawful.{Unlawful}
use Rattle.session.specs.Session.{begun_session, begun_status, plain, marked, pages_of, lowest_of, consistent, session_status, past, fresh_of, fresh_status, Beginning, counted_of, counted_number}

-- ---- test 11
module _ (σ : Session) where
  abbrev pub WrongFigures_of : Type 0
  WrongFigures_of = paper.WrongFigures (plain σ)

  decides_lowest : (k : ℕ) → Decides (eqb k (lowest_of σ.taken)) (¬ paper.Lowest (paper.is_yes (plain σ)) k)
  unfolding lowest_of
  decides_lowest k = record {
    holds = λ differs l. eqb-false _ _ differs (sym (lowest_is 1024 (marked σ.taken) k (record { upto = l.upto; below = l.below; fails = l.fails })));
    fails = λ same wrong.
        let l = subst (Lowest 1024 (marked σ.taken)) (sym (eqb-true k (lowest_of σ.taken) same)) (lowest_right 1024 (marked σ.taken)) in
        wrong (record { upto = l.upto; below = l.below; fails = l.fails });
  }

  pub decides_figures : Decides (consistent σ) WrongFigures_of
  unfolding consistent pages_of
  decides_figures = decides_both _ _ (decides_eqb _ _) (decides_lowest σ.lowest)

  past_tests : {A : Type 0} (a c : Bool) (e : Refusal) (refuse : Refusal → A) (next : A)
      → past (unless a (Err e) (unless c (Err Refusal.Figures) (Ok tt))) refuse next ≡ unless a (refuse e) (unless c (refuse Refusal.Figures) next)
  past_tests false c e refuse next = refl
  past_tests true false e refuse next = refl
  past_tests true true e refuse next = refl

  -- tests 1, 18 and 11, as every entry that takes a session begins with them
  pub session_tests_lem : {A Refused₁ Refused₁₈ Refused₁₁ Next : Type 0} (refuse : Refusal → A) (next : A) {r : A}
      → (r ≡ refuse Refusal.Shape → Refused₁) → (r ≡ refuse Refusal.Slope → Refused₁₈) → (r ≡ refuse Refusal.Figures → Refused₁₁)
      → (r ≡ next → Next) → r ≡ past (session_status σ) refuse next
      → ((¬ paper.InLists (of σ.shape)) × Refused₁) ⊎ ((¬ (¬ paper.InLists (of σ.shape))) × ((paper.WrongSlopes (of σ.shape) × Refused₁₈)
      ⊎ ((¬ paper.WrongSlopes (of σ.shape)) × ((WrongFigures_of × Refused₁₁) ⊎ ((¬ WrongFigures_of) × Next)))))
  unfolding session_status
  session_tests_lem refuse next turn₁ turn₁₈ turn₁₁ pass h =
      shape_tests σ.shape refuse _ turn₁ turn₁₈ (λ _. test (consistent σ) _ _ decides_figures turn₁₁ (λ _. pass))
      (h ∙ past_tests (lawful σ.shape) (consistent σ) (shape_refusal σ.shape) refuse next)

  decides_function : (f : ℕ) → Decides (ltb f 256) (255 < f)
  decides_function f = record { holds = ltb-false f 256; fails = λ h no. let l = ltb-true f 256 h in omega arith }

  pub counting : (f : ℕ) {r : Result ℕ Refusal} → r ≡ counted_of σ f
      → paper.Counting (plain σ) f (counted_number r)
  unfolding counted_of
  counting f =
      session_tests_lem Err _ (ap counted_number) (ap counted_number) (ap counted_number)
      (test (ltb f 256) _ _ (decides_function f) (ap counted_number) (λ _. ap counted_number))

  pub counting_asked : (f : ℕ) {r : Result ℕ Refusal} → r ≡ counted_of σ f → (r ≡ counted_of σ f) × paper.Counting (plain σ) f (counted_number r)
  counting_asked f h = (h, counting f h)

-- ---- the fresh session
pub beginning : (s : Shape) (r : Result Session Unlawful) → Beginning s r → paper.Beginning (of s) (plain (begun_session r)) (status_number (begun_status r))
unfolding fresh_status fresh_of
beginning s r x = shape_tests s Err _ (ap status_number) (ap status_number) (λ _ h. (ap status_number h, ap plain x.session)) x.status

pub beginning_asked : {s : Shape} {r : Result Session Unlawful} → Beginning s r → Beginning s r × paper.Beginning (of s) (plain (begun_session r)) (status_number (begun_status r))
beginning_asked {s} {r} x = (x, beginning s r x)
