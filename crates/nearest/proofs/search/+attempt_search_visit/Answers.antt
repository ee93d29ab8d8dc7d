-- The proof of the cycle of calls {attempt, search, visit}.
use mathlib.Core.Path.{◌∙◌}
use native.Mathlib.Nat.{le_antisymm}
use native.Mathlib.Omega.{arith}
use borrow.Author.Rules.{rules}
use Rattle.gtb.proofs.Bounds.{bounds}
use Rattle.nearest.proofs.Guessing.{guess_narrow}
use Rattle.nearest.proofs.Searching.{attempt_fails, attempt_works, missed_more, visit_far, search_silent, search_none, search_many, passed_more, search_far}
use Rattle.nearest.proofs.search.+attempt_search_visit.Goals as goal
use Rattle.nearest.proofs.search.+attempt_search_visit.Goals.{search-then-k-eq0-via-then-k-eq0, search-then-k-eq0-via-else-k-eq0+then-too_many_not_silent}

pub attempt-returns-in_default : goal.attempt-returns-in_default
attempt-returns-in_default t c =
    let p = c.requires in
    attempt_fails c.args.checks.lawful p.0 p.1 p.2 c.cancel_one.ensures c.in_default.ensures c.cancel_one-in_default.ensures

-- the list has room for one more
pub attempt-bounds-places-found : goal.attempt-bounds-places-found
attempt-bounds-places-found t c = omega (arith, c.in-Some.ensures.few, c.requires.1, (bounds _ c.args.checks.lawful).n8)

pub attempt-bounds-errors-found : goal.attempt-bounds-errors-found
attempt-bounds-errors-found t c = omega (arith, c.in-Some.ensures.few, c.requires.1, (bounds _ c.args.checks.lawful).n8)

pub attempt-returns : goal.attempt-returns
attempt-returns t c =
    let p = c.requires in
    attempt_works c.args.checks.lawful p.0 p.1 p.2 c.cancel_one.ensures c.search.array_long2 c.search.array_long3 c.in-Some.ensures p.3

pub search-returns-in_default : goal.search-returns-in_default
search-returns-in_default t c = search_silent c.args.checks.lawful c.in_default.ensures

pub search-returns-then-k-eq0 : goal.search-returns-then-k-eq0
search-returns-then-k-eq0 t c =
    let law = c.args.checks.lawful in
    elim c.then-k-eq0.branch [
      | search-then-k-eq0-via-then-k-eq0 w ↦ search_none law c.in-Some.ensures w.if-k-eq0.true
      | search-then-k-eq0-via-else-k-eq0+then-too_many_not_silent w ↦ search_many law (w.too_many_not_silent.ensures w.if-too_many_not_silent.true)
    ]

pub search-returns-in-Some-visit : goal.search-returns-in-Some-visit
search-returns-in-Some-visit t c = rw c.loop-i.invariant.1 at c.in-Some-visit.ensures

pub search-loop-i-preserved : goal.search-loop-i-preserved
search-loop-i-preserved t c =
    let same = c.loop-i.invariant.1 in
    let none = c.in_default-visit.ensures in
    (search rules, none.0 ∙ same, passed_more same c.loop-i.invariant.2 c.place_of-j.ensures none.1)

pub search-returns : goal.search-returns
search-returns t c =
    search_far c.args.checks.lawful c.in-Some.ensures c.loop-i.invariant.1
    (rw (le_antisymm c.loop-i.invariant.0 c.loop-i-test.false) at c.loop-i.invariant.2)

pub visit-candidate-value-requires : goal.visit-candidate-value-requires
visit-candidate-value-requires t c = ((bounds _ c.args.checks.lawful).n8, c.loop-t-test.true)

pub visit-attempt-requires : goal.visit-attempt-requires
visit-attempt-requires t c =
    let (pos, lk, lj) = c.requires in
    let same = c.loop-t.invariant.1 in (
      omega (arith, pos),
      (pos, lk, lj, rw (c.candidate-value.ensures, same) (guess_narrow c.args.checks.lawful lj c.gather-values.ensures _ c.loop-t-test.true)),
    )

pub visit-returns-in-Some : goal.visit-returns-in-Some
visit-returns-in-Some t c = rw c.loop-t.invariant.1 at c.in-Some.ensures

pub visit-loop-t-preserved : goal.visit-loop-t-preserved
visit-loop-t-preserved t c =
    let same = c.loop-t.invariant.1 in
    let none = c.in_default.ensures in
    (search rules, none.0 ∙ same, missed_more same c.loop-t.invariant.2 c.candidate-value.ensures none.1)

pub visit-returns : goal.visit-returns
visit-returns t c =
    visit_far c.loop-t.invariant.1 c.args.checks.lawful c.requires.1 c.requires.2 c.gather-values.ensures
    (rw (le_antisymm c.loop-t.invariant.0 c.loop-t-test.false) at c.loop-t.invariant.2)
