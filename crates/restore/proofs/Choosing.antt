-- Which positions are looked at, and what their checks say of them.
use mathlib.Core.Path.{◌≡◌, refl, sym, ap, ◌∙◌}
use mathlib.Core.Bool.{Bool, true, false, not, ◌&&◌}
use mathlib.Core.List.{List}
use mathlib.Core.Logic.Dec
use Prim.Native.Nat.{ℕ, ◌+◌, ◌-◌, ◌/◌, ◌<◌, ◌≤◌}
use native.Mathlib.Decide.{dec_lt}
use native.Mathlib.Omega.{arith}
use lib.Dec.{eqb, leb}
use lib.ListN.{length}
use borrow.Author.Tests.{ne_eqb, le-leb}
use Rattle.std.specs.Prelude.{Option, Some, None, take, get_or}
use Rattle.std.specs.List.{list_any}
use Rattle.std.proofs.lemmas.List.Folds.{list_any_at}
use Rattle.std.proofs.lemmas.List.{get_or-take, length-take-le}
use Rattle.parity.specs.Lists.{Begins}
use Rattle.parity.proofs.Tests.{clash, and_both, not_of_false}
use Rattle.gtb.specs.declared.Shape.{Shape}
use Rattle.gtb.specs.Shape.{Lawful}
use Rattle.gtb.specs.Square.{at}
use Rattle.correction.specs.Error.{shows}
use Rattle.correction.specs.Steps.{check_in}
use Rattle.correction.proofs.Showing.{shows_cong, first_shown}
use Rattle.correction.proofs.Guessing.{number_lt}
use Rattle.erasure.specs.Fill.{is_listed}
use Rattle.restore.specs.declared.marks.Marks.{Marks}
use Rattle.restore.specs.Steps.{suspects, rank, On, Outvoted, Suspected}

-- ---- the positions on a check, or all
pub rank_lt : (s : Shape) (check : Option ℕ) {p : ℕ} → Lawful s → On s check p → rank s check p < suspects s check
rank_lt s (Some check) {p} law on = number_lt s law (check / s.q) p on.below
rank_lt s None law on = on.below

-- ---- the vote
pub outvoted : {n least : ℕ} {values : List ℕ} → n ≤ length values → 0 < least
    → list_any (λ x. not (eqb x 0) && leb least (shows n (at values) x)) (take n values) ≡ false → Outvoted n values least
outvoted {n} {least} {values} long pos none = record {
  few = λ x nz.
      (Dec.not-not (dec_lt (shows n (at values) x) least)).0
      (λ ge.
      let (t, lt, here, first) = first_shown n (at values) x (omega arith) in
      let size : length (take n values) ≡ n = length-take-le n values long in
      let value : get_or (take n values) t 0 ≡ x = get_or-take n values t 0 lt ∙ here in
      clash
      (list_any_at (λ x. not (eqb x 0) && leb least (shows n (at values) x)) (take n values) t 0 (omega (arith, size))
      (ap (λ (y : ℕ). not (eqb y 0) && leb least (shows n (at values) y)) value ∙ and_both (not_of_false (ne_eqb x 0 nz)) (le-leb least (shows n (at values) x) (omega arith))))
      none);
}

module _ {s : Shape} {places : List ℕ} {marks : Marks} {k j : ℕ} where
  pub suspects_listed : true ≡ is_listed places j → Suspected s places marks k j false
  suspects_listed e = record { yes = λ t. absurd (clash t refl); no = λ f un. absurd (clash (sym e) un) }

  pub suspects_free : false ≡ is_listed places j → Suspected s places marks k j true
  suspects_free e = record { yes = λ t. sym e; no = λ f. absurd (clash refl f) }

  pub suspects_shown : {values touched : List ℕ} {free : ℕ} {r : Bool} → false ≡ is_listed places j → Begins 8 s.n (check_in s marks.seen j) values → Begins 8 s.n (check_in s marks.touched j) touched
      → free ≡ shows s.n (at touched) 1 + k → free ≤ s.n → (r ≡ false → Outvoted s.n values (s.n + 1 - free)) → Suspected s places marks k j r
  suspects_shown {values} {touched} e a b is few h = record {
    yes = λ t. sym e;
    no = λ f un x nz.
        omega (
          arith,
          (h f).few x nz,
          shows_cong s.n (at values) (check_in s marks.seen j) x a.entry,
          shows_cong s.n (at touched) (check_in s marks.touched j) 1 b.entry,
        );
  }
