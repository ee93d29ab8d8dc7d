-- The session after a page, and when a count would be too large, are the paper's.
use mathlib.Core.Path.{◌≡◌, refl, sym, ap, ◌∙◌}
use mathlib.Core.Bool.{Bool, true, false, not, ◌&&◌, ◌||◌}
use mathlib.Core.List.{List, [], ◌∷◌}
use mathlib.Core.Logic.{⊎_elim}
use Prim.Native.Nat.{ℕ, zero, suc, ◌+◌, ◌^◌, ◌<◌}
use native.Mathlib.Omega.{arith}
use lib.Dec.{eqb, leb}
use lib.ListN.{length, get_or, set, length-set}
use lib.Seq.{get_or-set_same, get_or-set_other}
use borrow.Author.Tests.{eqb-true, eqb-false, leb-true, leb-false, not-true, not-false}
use Rattle.parity.specs.Count.{bit, sum, count}
use Rattle.parity.proofs.Tests.{either, any_elim, any_no}
use Rattle.parity.proofs.Lists.{length_tabulate, at_tabulate}
use Rattle.paper.specs.Paper as paper
use Rattle.paper.specs.Session.{marks_for}
use Rattle.gtb.specs.declared.Shape.{Shape}
use Rattle.gtb.proofs.Judging.{Decides}
use Rattle.session.specs.declared.Session.{Session}
use Rattle.session.specs.Session.{plain, is_call, count_of, added, overflows, recorded}
use Rattle.session.proofs.Progress.{figured_consistent}
use Rattle.session.proofs.Paper.{decides_figures}

or_yes : (a : Bool) → (a || true) ≡ true
or_yes true = refl
or_yes false = refl

or_no_more : (a : Bool) → (a || false) ≡ a
or_no_more true = refl
or_no_more false = refl

-- ---- the marks for a function
sum_head : (n : ℕ) (g : ℕ → ℕ) → sum (suc n) g ≡ g 0 + sum n (λ i. g (suc i))
unfolding sum
sum_head zero g = omega arith
sum_head (suc n) g = let ih = sum_head n g in omega arith

pub marks_for_lem : (f : ℕ) (marks : List ℕ) → count_of f marks ≡ marks_for f marks
unfolding count_of marks_for count sum
marks_for_lem f [] = refl
marks_for_lem f (m ∷ marks) =
    ap (λ (x : ℕ). bit (eqb m f && is_call m) + x) (marks_for_lem f marks)
    ∙ sym (sum_head (length marks) (λ i. bit (eqb (get_or (m ∷ marks) i 0) f && not (eqb (get_or (m ∷ marks) i 0) 0))))

-- ---- the session after a page
module _ (σ : Session) (size : length σ.taken ≡ 1024) (number : ℕ) (below : number < 1024) (marks : List ℕ) where
  abbrev s : Shape
  s = σ.shape

  set_marked : (p : ℕ) → get_or (set σ.taken number true) p false ≡ (get_or σ.taken p false || eqb p number)
  set_marked p =
      ⊎_elim
      (λ (same : eqb p number ≡ true).
      ap (λ (x : ℕ). get_or (set σ.taken number true) x false) (eqb-true p number same)
      ∙ get_or-set_same σ.taken number true false (rw size below)
      ∙ sym (ap (λ (x : Bool). get_or σ.taken p false || x) same ∙ or_yes (get_or σ.taken p false)))
      (λ (other : eqb p number ≡ false).
      get_or-set_other σ.taken number p true false (eqb-false p number other) ∙ sym (ap (λ (x : Bool). get_or σ.taken p false || x) other ∙ or_no_more (get_or σ.taken p false)))
      (either (eqb p number))

  pub recorded_paper : paper.Recorded (plain σ) number marks (plain (recorded σ number marks))
  unfolding recorded added
  recorded_paper = record {
    marked = λ p l. set_marked p;
    counted = λ f l. at_tabulate 256 _ f l ∙ ap (λ (x : ℕ). get_or σ.calls f 0 + x) (marks_for_lem f marks);
    shape = refl;
    size = (length-set σ.taken number true ∙ size, length_tabulate 256 _);
    figures = (decides_figures (recorded σ number marks)).fails (figured_consistent σ.shape _ _);
  }

  pub decides_worn : Decides (not (overflows σ.calls marks)) (paper.Worn (plain σ) marks)
  unfolding overflows
  decides_worn = record {
    holds = λ h.
        let (f, l, e) = any_elim 256 (λ f. leb (2 ^ 32) (get_or σ.calls f 0 + count_of f marks)) (not-false _ h) in
        let large = leb-true (2 ^ 32) (get_or σ.calls f 0 + count_of f marks) e in
        (f, l, omega (arith, marks_for_lem f marks));
    fails = λ h worn.
        let (f, l, large) = worn in
        let small = leb-false (2 ^ 32) (get_or σ.calls f 0 + count_of f marks) (any_no 256 _ (not-true _ h) f l) in
        omega (arith, marks_for_lem f marks);
  }
