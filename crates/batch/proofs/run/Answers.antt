-- `batch::run` meets its contract. The loop's invariant: after i words there is a run of the first i arrivals, and all that is lent is as they leave it.
use mathlib.Core.Path.{◌≡◌, refl, sym, ap, ◌∙◌}
use Prim.Native.Nat.{ℕ, ◌/◌, ◌≤◌}
use native.Mathlib.Omega.{arith}
use lib.ListN.{length}
use Rattle.session.proofs.Opens.{lent_marks}
use Rattle.batch.specs.Batch.{words_in}
use Rattle.batch.proofs.Runs.{word_positive, run_words, Place, run_place}
use Rattle.batch.proofs.Turns.{page_arrives, delivering_begins, delivering_ends, list_size, turn_ready, turn_code}
use Rattle.batch.proofs.run.Goals as goal
use Rattle.batch.proofs.run.Goals.{In-loop-i, After-loop-i}

pub nonzero_div-i-end : goal.nonzero_div-i-end
nonzero_div-i-end c = rw c.requires.1 (word_positive _ c.requires.0.admitted.lawful)

pub loop-i-init : goal.loop-i-init
loop-i-init c = (delivering_begins c.requires.0 (c.fill.ensures.after (λ y h. h)), refl, c.requires.2)

-- word i lies within the run
place : (c : In-loop-i) → Place c.args.words.now (length c.args.came.now) c.loop-i.i
place c =
    let lawful = c.requires.0.admitted.lawful in
    run_place c.args.session.shape lawful c.args.words.now (run_words c.args.session.shape lawful c.args.words.now c.requires.0.run) _ _ c.requires.1 c.loop-i-test.true

pub overflow_mul-from : goal.overflow_mul-from
overflow_mul-from c = let p = place (goal.at.overflow_mul-from c).In-loop-i in omega arith

pub overflow_mul-at : goal.overflow_mul-at
overflow_mul-at c = let p = place (goal.at.overflow_mul-at c).In-loop-i in omega arith

pub overflow_add-word : goal.overflow_add-word
overflow_add-word c = let p = place (goal.at.overflow_add-word c).In-loop-i in omega arith

pub offset_bounds-outcomes-at : goal.offset_bounds-outcomes-at
offset_bounds-outcomes-at c = let p = place (goal.at.offset_bounds-outcomes-at c).In-loop-i in omega arith

pub slice_bounds-values-end : goal.slice_bounds-values-end
slice_bounds-values-end c =
    let p = place (goal.at.slice_bounds-values-end c).In-loop-i in
    let few : c.loop-i.i ≤ 64 = omega arith in
    omega (arith, list_size c.loop-i.invariant.0 few)

pub look-seen-requires : goal.look-seen-requires
look-seen-requires c =
    let inv = c.loop-i.invariant in
    turn_ready inv.0 c.requires.0 c.requires.1 (place (goal.at.look-seen-requires c).In-loop-i) c.loop-i.came c.loop-i.symbols inv.1 inv.2

-- a word whose answer leaves the session as it is
pub loop-i-preserved-in_default : goal.loop-i-preserved-in_default
loop-i-preserved-in_default c =
    let inv = c.loop-i.invariant in (
      turn_code inv.0 c.requires.0 c.requires.1 (place (goal.at.loop-i-preserved-in_default c).In-loop-i) c.look-seen.auto.word (c.look-seen.ensures.known c.in_default.is c.loop-i.after inv.0.shape refl),
      c.look-seen.auto.came ∙ inv.1,
      c.look-seen.auto.symbols ∙ inv.2,
    )

-- a word with a page that is new
pub slice_bounds-settled-end : goal.slice_bounds-settled-end
slice_bounds-settled-end c = ((c.look-seen.ensures.new _ c.in-Some.is).tells.readable _ _ _ refl).room

pub settled-arrived-requires : goal.settled-arrived-requires
settled-arrived-requires c = let page = (c.look-seen.ensures.new _ c.in-Some.is).tells.readable _ _ _ refl in
    (c.loop-i.invariant.0.consistent, page.low, lent_marks page)

pub put_back-requires : goal.put_back-requires
put_back-requires c =
    let inv = c.loop-i.invariant in
    c.look-seen.auto.came ∙ (turn_ready inv.0 c.requires.0 c.requires.1 (place (goal.at.put_back-requires c).In-loop-i) c.loop-i.came c.loop-i.symbols inv.1 inv.2).1 ∙ sym c.look-seen.auto.word

pub loop-i-preserved : goal.loop-i-preserved
loop-i-preserved c =
    let inv = c.loop-i.invariant in (
      turn_code inv.0 c.requires.0 c.requires.1 (place (goal.at.loop-i-preserved c).In-loop-i) (c.put_back.auto.word ∙ c.look-seen.auto.word)
          (page_arrives c.loop-i.after inv.0.shape (c.look-seen.ensures.new _ c.in-Some.is) c.settled-arrived.ensures c.put_back.ensures (c.copy_from_slice.ensures.after ∙ c.values.ensures)),
      c.look-seen.auto.came ∙ inv.1,
      c.look-seen.auto.symbols ∙ inv.2,
    )

-- all words have been taken
all : (c : After-loop-i) → c.loop-i.i ≡ words_in c.args.session.shape c.args.words.now
all c = let end : c.loop-i.i ≡ length c.args.words.now / length c.args.came.now = omega arith in
    end ∙ ap (λ (n : ℕ). length c.args.words.now / n) c.requires.1

pub shape_of-outcomes : goal.shape_of-outcomes
shape_of-outcomes c =
    let s = (goal.at.shape_of-outcomes c).After-loop-i in
    list_size c.loop-i.invariant.0 (rw (all s) (run_words c.args.session.shape c.requires.0.admitted.lawful c.args.words.now c.requires.0.run).few) ∙ sym c.requires.0.outcomes_size

pub returns : goal.returns
returns c = delivering_ends (all (goal.at.returns c).After-loop-i) (c.fill-2.ensures.after (λ y h. h)) c.loop-i.invariant.0
