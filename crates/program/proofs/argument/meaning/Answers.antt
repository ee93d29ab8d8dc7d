-- `program::argument::meaning` meets its contract.
use Rattle.std.proofs.Common.{sym, ◌∙◌}
use Rattle.program.specs.Choice.{meaning_of}
use Rattle.program.proofs.Texts.{dashed_is}
use Rattle.program.proofs.argument.meaning.Goals as goal

pub returns-then-is_text : goal.returns-then-is_text
unfolding meaning_of
returns-then-is_text c = rw (sym c.if-is_text.ensures)

pub returns-then-is_text-2 : goal.returns-then-is_text-2
unfolding meaning_of
returns-then-is_text-2 c = rw (sym c.if-is_text.ensures, sym c.if-is_text-2.ensures)

pub returns-then-is_text-3 : goal.returns-then-is_text-3
unfolding meaning_of
returns-then-is_text-3 c = rw (sym c.if-is_text.ensures, sym c.if-is_text-2.ensures, sym c.if-is_text-3.ensures)

pub returns-then-is_text-4 : goal.returns-then-is_text-4
unfolding meaning_of
returns-then-is_text-4 c = rw (sym c.if-is_text.ensures, sym c.if-is_text-2.ensures, sym c.if-is_text-3.ensures, sym c.if-is_text-4.ensures)

pub returns-then-starts_with : goal.returns-then-starts_with
unfolding meaning_of
returns-then-starts_with c =
    rw (
      sym c.if-is_text.ensures,
      sym c.if-is_text-2.ensures,
      sym c.if-is_text-3.ensures,
      sym c.if-is_text-4.ensures,
      sym (dashed_is c.args.argument.now c.starts_with.ensures.value) ∙ c.if-starts_with.true,
    )

pub returns-else-starts_with : goal.returns-else-starts_with
unfolding meaning_of
returns-else-starts_with c =
    rw (
      sym c.if-is_text.ensures,
      sym c.if-is_text-2.ensures,
      sym c.if-is_text-3.ensures,
      sym c.if-is_text-4.ensures,
      sym (dashed_is c.args.argument.now c.starts_with.ensures.value) ∙ c.if-starts_with.false,
    )
