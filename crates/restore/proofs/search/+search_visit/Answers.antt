-- The proof of the cycle of calls {search, visit}.
use mathlib.Core.Path.{refl, sym, ◌∙◌}
use native.Mathlib.Omega.{arith}
use Rattle.gtb.proofs.Bounds.{bounds}
use Rattle.gtb.proofs.Sizes.{sizes}
use Rattle.restore.proofs.Searching.{nothing_left, passed_more, visit_dull, node_more, visit_named, search_none, search_many, search_far}
use Rattle.restore.proofs.search.+search_visit.Goals.{search-then-k-eq0-via-then-k-eq0, search-then-k-eq0-via-else-k-eq0+then-too_many_not_silent}
use Rattle.restore.proofs.search.+search_visit.Goals as goal

pub search-returns-then-k-eq0 : goal.search-returns-then-k-eq0
search-returns-then-k-eq0 t c =
    let none = sym c.is_some.ensures ∙ c.if-is_some.false in
    elim c.then-k-eq0.branch [
      | search-then-k-eq0-via-then-k-eq0 w ↦ search_none c.requires.0 c.settle-settled.ensures none w.if-k-eq0.true
      | search-then-k-eq0-via-else-k-eq0+then-too_many_not_silent w ↦
          search_many c.requires.0 c.settle-settled.ensures none (w.too_many_not_silent.ensures w.if-too_many_not_silent.true)
    ]

pub search-returns : goal.search-returns
search-returns t c =
    search_far c.requires.0 c.settle-settled.ensures (sym c.is_some.ensures ∙ c.if-is_some.false) c.loop-i.invariant.1 c.first_not_silent-check.ensures c.loop-i.invariant.3
    (omega (arith, c.loop-i-test.false, c.suspect_count-count.ensures))

pub search-loop-i-preserved-then-not-is_suspect : goal.search-loop-i-preserved-then-not-is_suspect
search-loop-i-preserved-then-not-is_suspect t c =
    let same = nothing_left c.settle-settled.ensures (sym c.is_some.ensures ∙ c.if-is_some.false) in (
      omega arith,
      c.loop-i.invariant.1,
      c.loop-i.invariant.2,
      passed_more (sym same) c.loop-i.invariant.3 c.suspect-j.ensures (visit_dull c.requires.0 c.suspect-j.ensures.below c.is_suspect.ensures c.if-not-is_suspect.true) refl,
    )

pub visit-overflow_cast-j : goal.visit-overflow_cast-j
visit-overflow_cast-j t c = omega (arith, c.requires.3, (sizes _ c.requires.0.law).word)

pub visit-append-named-requires : goal.visit-append-named-requires
visit-append-named-requires t c = omega (arith, c.requires.0.few, (bounds _ c.requires.0.law).n8)

pub visit-search-requires : goal.visit-search-requires
visit-search-requires t c =
    let p = c.requires in (
      omega (arith, p.2),
      (rw c.append-named.ensures (node_more p.0 p.3 p.2 p.4 c.hide.ensures), p.1),
    )

pub visit-returns : goal.visit-returns
visit-returns t c = visit_named c.requires.0 c.requires.3 c.requires.2 (rw c.append-named.ensures at c.search.ensures)
