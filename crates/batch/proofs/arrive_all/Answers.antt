-- `batch::arrive_all` meets its contract: a refusal is the call's, and past all tests the arrays have room for a word and for its symbols.
use mathlib.Core.Path.{◌≡◌, refl, sym, ◌∙◌}
use Prim.Native.Nat.{◌≤◌}
use native.Mathlib.Omega.{arith}
use lib.Seq.{length-take-le}
use Rattle.std.specs.Prelude.{Ok}
use Rattle.gtb.specs.Shape.{word_length, info_length}
use Rattle.gtb.proofs.Sizes.{sizes}
use Rattle.batch.specs.Batch.{batch_status}
use Rattle.batch.specs.Steps.{Tested}
use Rattle.batch.proofs.Answers.{status_tested, batching_refused, batching_done}
use Rattle.batch.proofs.arrive_all.Goals as goal
use Rattle.batch.proofs.arrive_all.Goals.{In-Ok}

-- what the tests tell that are passed
tested : (c : In-Ok) → let s = c.args in Tested s.session s.way s.words.now s.scratch.now s.outcomes.now
tested c = status_tested _ _ _ _ _ c.in-Ok.ensures.0

word_room : (c : In-Ok) → word_length c.args.session.shape ≤ 961
word_room c = omega (arith, (sizes _ (tested c).admitted.lawful).word)

info-room : (c : In-Ok) → info_length c.args.session.shape ≤ 900
info-room c = omega (arith, (sizes _ (tested c).admitted.lawful).info)

pub word_length-size-requires : goal.word_length-size-requires
word_length-size-requires c = (tested (goal.at.word_length-size-requires c).In-Ok).admitted.lawful

pub info_length-info-requires : goal.info_length-info-requires
info_length-info-requires c = (tested (goal.at.info_length-info-requires c).In-Ok).admitted.lawful

pub slice_bounds-came-end : goal.slice_bounds-came-end
slice_bounds-came-end c = omega (arith, c.word_length-size.ensures, word_room (goal.at.slice_bounds-came-end c).In-Ok)

pub slice_bounds-run-end : goal.slice_bounds-run-end
slice_bounds-run-end c = sym (length-take-le _ _ (omega (arith, c.word_length-size.ensures, word_room (goal.at.slice_bounds-run-end c).In-Ok)))

pub slice_bounds-symbols-end : goal.slice_bounds-symbols-end
slice_bounds-symbols-end c = omega (arith, c.info_length-info.ensures, info-room (goal.at.slice_bounds-symbols-end c).In-Ok)

pub slice_bounds-run-end-in-Ok : goal.slice_bounds-run-end-in-Ok
slice_bounds-run-end-in-Ok c = sym (length-take-le _ _ (omega (arith, c.info_length-info.ensures, info-room (goal.at.slice_bounds-run-end-in-Ok c).In-Ok)))

pub run-after-requires : goal.run-after-requires
run-after-requires c =
    let s = (goal.at.run-after-requires c).In-Ok in (
      rw c.in-Ok.ensures.1 (tested s),
      length-take-le _ _ (omega (arith, c.word_length-size.ensures, word_room s)) ∙ c.word_length-size.ensures,
      length-take-le _ _ (omega (arith, c.info_length-info.ensures, info-room s)) ∙ c.info_length-info.ensures,
    )

pub returns-in-Err : goal.returns-in-Err
returns-in-Err c = batching_refused _ _ _ _ _ _ c.in-Err.ensures refl refl

pub returns-in-Ok : goal.returns-in-Ok
returns-in-Ok c = batching_done _ _ _ _ _ c.in-Ok.ensures.0 refl (rw c.in-Ok.ensures.1 at c.run-after.ensures)
