-- `encoder::test` meets its contract: each return has the tests before it passed and its own failed.
use mathlib.Core.Path.{refl, sym, ◌∙◌}
use Rattle.gtb.specs.Answer.{scratch_after}
use Rattle.gtb.proofs.Bounds.{bounds}
use Rattle.encoder.proofs.Answers.{status_length, status_width, status_done, tested_refused, tested_done}
use Rattle.encoder.proofs.test.Goals as goal

pub returns-then-not-sizes_match : goal.returns-then-not-sizes_match
unfolding scratch_after
returns-then-not-sizes_match c =
    let a = c.args in
    tested_refused _ _ _ _ _ _ _
    (status_length a.code.shape a.symbols.now a.scratch.now a.word.now _ c.args.code.lawful
    (sym c.sizes_match.ensures ∙ c.if-not-sizes_match.true))
    refl

pub is_narrow-requires : goal.is_narrow-requires
is_narrow-requires c = (bounds _ c.args.code.lawful).b32

pub returns-then-not-is_narrow : goal.returns-then-not-is_narrow
unfolding scratch_after
returns-then-not-is_narrow c =
    let a = c.args in
    tested_refused _ _ _ _ _ _ _
    (status_width a.code.shape a.symbols.now a.scratch.now a.word.now _ c.args.code.lawful (sym c.sizes_match.ensures ∙ c.if-not-sizes_match.false)
    (sym c.is_narrow.ensures ∙ c.if-not-is_narrow.true))
    (c.fill.ensures.after (λ y e. e))

pub returns : goal.returns
returns c =
    let a = c.args in
    tested_done _ _ _ _ _ _
    (status_done a.code.shape a.symbols.now a.scratch.now a.word.now _ c.args.code.lawful (sym c.sizes_match.ensures ∙ c.if-not-sizes_match.false)
    (sym c.is_narrow.ensures ∙ c.if-not-is_narrow.false))
    (c.fill.ensures.after (λ y e. e))
