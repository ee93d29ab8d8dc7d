-- `host::figures::agree` meets its contract: each test that is not passed tells a figure that is another.
use mathlib.Core.Path.{◌≡◌, sym, ap, ◌∙◌}
use mathlib.Core.Bool.{Bool, not, not-not}
use mathlib.Core.List.{List, ◌++◌, map}
use Prim.Native.Nat.{ℕ, ◌+◌, ◌-◌, ◌<◌, ◌≤◌}
use native.Mathlib.Omega.{arith}
use lib.Dec.{eqb}
use lib.ListN.{length, get_or, take, drop, get_or-map, length-map, length-drop, take-append-drop}
use lib.Seq.{length-take-le}
use borrow.Author.Tests.{eq-eqb}
use Rattle.std.proofs.lemmas.List.{map-append, take-map}
use Rattle.parity.specs.Count.{count}
use Rattle.parity.proofs.Lowest.{full_count}
use Rattle.page.proofs.Parts.{rest_part}
use Rattle.session.specs.Session.{marked, pages_of}
use Rattle.session.specs.Steps.{marks_in}
use Rattle.session.proofs.Progress.{marks_joined, marks_front, lowest_found, lowest_facts, lowest_full, pages_differ, lowest_differs, both_agree, last_test}
use Rattle.host.specs.Crossing.{is_yes}
use Rattle.host.proofs.figures.agree.Goals as goal

module _ (marks : List ℕ) (size : length marks ≡ 1024) (lowest : ℕ) (few : lowest ≤ 1024) where
  abbrev yes : List Bool
  yes = map is_yes marks

  many : length yes ≡ 1024
  many = length-map marks is_yes ∙ size

  -- the marks below the lowest number, and the rest of them
  front : marks_in (map is_yes (take lowest marks)) ≡ count lowest (marked yes)
  front = ap (λ (xs : List Bool). marks_in xs) (sym (take-map is_yes lowest marks)) ∙ marks_front yes lowest (omega (arith, many))

  whole : count lowest (marked yes) + marks_in (map is_yes (take (length marks - lowest) (drop lowest marks))) ≡ pages_of yes
  unfolding pages_of
  whole =
      let cut : map is_yes (take lowest marks) ++ map is_yes (drop lowest marks) ≡ yes = sym (map-append is_yes (take lowest marks) (drop lowest marks)) ∙ ap (map is_yes) (take-append-drop lowest marks) in
      rw (rest_part lowest marks, ← front)
      (sym (marks_joined (map is_yes (take lowest marks)) (map is_yes (drop lowest marks)))
      ∙ ap (λ (xs : List Bool). marks_in xs) cut ∙ ap (λ (n : ℕ). count n (marked yes)) many)

  -- as many as are not marked below the lowest number
  below : (unmarked : ℕ) → unmarked + marks_in (map is_yes (take lowest marks)) ≡ length (take lowest marks) → unmarked + count lowest (marked yes) ≡ lowest
  below unmarked is = omega (arith, is, front, length-take-le lowest marks (omega (arith, size)))

  -- where all below it are marked, what is left over of the others are pages
  left_over : (above : ℕ) → count lowest (marked yes) ≡ lowest
      → above + marks_in (map is_yes (take (length marks - lowest) (drop lowest marks))) ≡ length (take (length marks - lowest) (drop lowest marks))
      → (1024 - above ≡ pages_of yes) × (above ≤ 1024)
  left_over above full is =
      let rest : length (take (length marks - lowest) (drop lowest marks)) ≡ 1024 - lowest = ap length (rest_part lowest marks) ∙ omega (arith, length-drop lowest marks, size) in
      (omega (arith, full, is, whole, rest, few), omega (arith, is, rest))

pub returns-then-lowest-gt1024 : goal.returns-then-lowest-gt1024
returns-then-lowest-gt1024 c =
    let taken = map is_yes c.args.marks.now in
    lowest_differs taken _ _ (λ e. omega (arith, e, c.if-lowest-gt1024.true, (lowest_facts taken).upto))

pub returns-then-unmarked_in-ne0 : goal.returns-then-unmarked_in-ne0
returns-then-unmarked_in-ne0 c =
    let a = c.args in
    let taken = map is_yes a.marks.now in
    lowest_differs taken _ _ (λ e. c.if-unmarked_in-ne0.true (omega (arith, below a.marks.now c.requires a.lowest c.if-lowest-gt1024.false _ c.unmarked_in.ensures, lowest_full taken _ e)))

pub returns-then-above-pages : goal.returns-then-above-pages
returns-then-above-pages c =
    let a = c.args in
    let few = c.if-lowest-gt1024.false in
    let full : count a.lowest (marked (map is_yes a.marks.now)) ≡ a.lowest = omega (arith, below a.marks.now c.requires a.lowest few _ c.unmarked_in.ensures, c.if-unmarked_in-ne0.false) in
    pages_differ (map is_yes a.marks.now) _ _ (λ e. c.if-above-pages.true ((left_over a.marks.now c.requires a.lowest few _ full c.unmarked_in-above.ensures).0 ∙ sym e))

pub returns-then-at-eq1024 : goal.returns-then-at-eq1024
returns-then-at-eq1024 c =
    let a = c.args in
    let taken = map is_yes a.marks.now in
    let few = c.if-lowest-gt1024.false in
    let full : count a.lowest (marked taken) ≡ a.lowest = omega (arith, below a.marks.now c.requires a.lowest few _ c.unmarked_in.ensures, c.if-unmarked_in-ne0.false) in
    let right = sym c.if-above-pages.false ∙ (left_over a.marks.now c.requires a.lowest few _ full c.unmarked_in-above.ensures).0 in
    let e = c.if-at-eq1024.true in
    eq-eqb _ _ e ∙ both_agree taken _ _ right (lowest_found taken _ few (full_count _ (marked taken) full) (λ l. absurd (omega (arith, e, l))))

pub returns-else-at-eq1024 : goal.returns-else-at-eq1024
returns-else-at-eq1024 c =
    let a = c.args in
    let taken = map is_yes a.marks.now in
    let few = c.if-lowest-gt1024.false in
    let full : count a.lowest (marked taken) ≡ a.lowest = omega (arith, below a.marks.now c.requires a.lowest few _ c.unmarked_in.ensures, c.if-unmarked_in-ne0.false) in
    let right = sym c.if-above-pages.false ∙ (left_over a.marks.now c.requires a.lowest few _ full c.unmarked_in-above.ensures).0 in
    let last : a.lowest < 1024 = omega (arith, few, c.if-at-eq1024.false) in
    sym (not-not (eqb (get_or a.marks.now a.lowest 0) 0)) ∙ ap not (sym (get_or-map is_yes a.marks.now a.lowest 0)) ∙ last_test taken _ _ right last full
