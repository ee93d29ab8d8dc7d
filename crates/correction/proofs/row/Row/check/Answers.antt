-- `correction::row::Row::check` meets its contract: the table's number, or that by the row's shift.
use mathlib.Core.Path.{sym, ◌∙◌}
use native.Mathlib.Omega.{arith}
use Rattle.gtb.proofs.Bounds.{bounds}
use Rattle.correction.proofs.Rows.{shift_lt, shift_check}
use Rattle.correction.proofs.row.Row.check.Goals as goal

pub bounds-self-t : goal.bounds-self-t
bounds-self-t c = omega (arith, c.requires.1, (bounds _ c.args.self.checks.lawful).n8)

pub add_mod-requires : goal.add_mod-requires
add_mod-requires c =
    let law = c.args.self.checks.lawful in
    let shift = shift_lt (c.args.self.shifted (sym c.has_table.ensures ∙ c.if-has_table.false)) law c.args.t c.requires.1 c.requires.0 in
    (c.requires.2, omega (arith, shift), (bounds _ law).q31)

pub returns : goal.returns
returns c =
    shift_check (c.args.self.shifted (sym c.has_table.ensures ∙ c.if-has_table.false)) c.args.t c.args.column c.requires.2 c.requires.1 c.requires.0
    c.add_mod.ensures.0
