-- `session::figures::agree` meets its contract: each test that is not passed tells a figure that is another.
use mathlib.Core.Path.{◌≡◌, sym, ◌∙◌}
use Prim.Native.Nat.{◌<◌}
use native.Mathlib.Omega.{arith}
use borrow.Author.Tests.{eq-eqb}
use Rattle.parity.specs.Count.{count}
use Rattle.parity.proofs.Lowest.{full_count}
use Rattle.session.specs.Session.{marked, pages_of}
use Rattle.session.proofs.Progress.{lowest_found, lowest_facts, lowest_full, pages_differ, lowest_differs, both_agree, last_test}
use Rattle.session.proofs.figures.agree.Goals as goal

pub returns-then-marked_below-pages : goal.returns-then-marked_below-pages
unfolding pages_of
returns-then-marked_below-pages c = pages_differ c.args.taken.now _ _ (λ e. c.if-marked_below-pages.true (c.marked_below.ensures ∙ sym e))

pub returns-then-lowest-gt1024 : goal.returns-then-lowest-gt1024
returns-then-lowest-gt1024 c = lowest_differs c.args.taken.now _ _ (λ e. omega (arith, e, c.if-lowest-gt1024.true, (lowest_facts c.args.taken.now).upto))

pub marked_below-requires-2 : goal.marked_below-requires-2
marked_below-requires-2 c = c.if-lowest-gt1024.false

pub returns-then-marked_below-lowest : goal.returns-then-marked_below-lowest
returns-then-marked_below-lowest c = lowest_differs c.args.taken.now _ _ (λ e. c.if-marked_below-lowest.true (c.marked_below-2.ensures ∙ lowest_full c.args.taken.now _ e))

pub bounds-taken-at : goal.bounds-taken-at
bounds-taken-at c =
    let below : c.args.lowest < 1024 = omega (arith, c.if-lowest-gt1024.false, c.if-at-eq-PAGES.false) in
    below

pub returns-then-at-eq-PAGES : goal.returns-then-at-eq-PAGES
unfolding pages_of
returns-then-at-eq-PAGES c =
    let right : c.args.pages ≡ pages_of c.args.taken.now = sym c.if-marked_below-pages.false ∙ c.marked_below.ensures in
    let full : count c.args.lowest (marked c.args.taken.now) ≡ c.args.lowest = sym c.marked_below-2.ensures ∙ c.if-marked_below-lowest.false in
    let e = c.if-at-eq-PAGES.true in
    let taken = c.args.taken.now in
    eq-eqb _ _ e ∙ both_agree taken _ _ right
    (lowest_found taken _ c.if-lowest-gt1024.false (full_count _ (marked taken) full) (λ l. absurd (omega (arith, e, l))))

pub returns-else-at-eq-PAGES : goal.returns-else-at-eq-PAGES
unfolding pages_of
returns-else-at-eq-PAGES c =
    let right : c.args.pages ≡ pages_of c.args.taken.now = sym c.if-marked_below-pages.false ∙ c.marked_below.ensures in
    let below : c.args.lowest < 1024 = omega (arith, c.if-lowest-gt1024.false, c.if-at-eq-PAGES.false) in
    let full : count c.args.lowest (marked c.args.taken.now) ≡ c.args.lowest = sym c.marked_below-2.ensures ∙ c.if-marked_below-lowest.false in
    last_test c.args.taken.now _ _ right below full
