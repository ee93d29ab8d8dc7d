-- `decoder::looking::note` meets its contract. The loop's invariant: the list is right in the rows passed.
use native.Mathlib.Nat.{zero-mul, le_antisymm}
use borrow.Author.Rules.{rules}
use Rattle.correction.proofs.Rows.{next_row}
use Rattle.parity.proofs.Writes.{begins_none}
use Rattle.decoder.proofs.Looks.{noted_all}
use Rattle.decoder.proofs.looking.note.Goals as goal

pub loop-row-init : goal.loop-row-init
loop-row-init c = (search rules, rw (zero-mul c.args.checks.shape.q) (begins_none c.requires.1))

pub loop-row-preserved : goal.loop-row-preserved
loop-row-preserved c = (search rules, rw next_row c.note_row.ensures)

pub returns : goal.returns
returns c = noted_all c.args.checks.lawful c.syndromes-syn.ensures (rw (le_antisymm c.loop-row.invariant.0 c.loop-row-test.false) at c.loop-row.invariant.1)
