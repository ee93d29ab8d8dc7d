-- `double::lines::first_line` meets its contract.
use native.Mathlib.Omega.{arith}
use borrow.Author.Rules.{rules}
use Rattle.gtb.proofs.Bounds.{positive}
use Rattle.correction.proofs.CheckNumbers.{lines_fit}
use Rattle.double.proofs.Crossings.{first_found, first_none}
use Rattle.double.proofs.lines.first_line.Goals as goal

pub returns-in-Some : goal.returns-in-Some
returns-in-Some c =
    first_found _ c.args.syn.now c.args.t (omega (arith, lines_fit c.args.checks.shape c.args.checks.lawful c.args.t c.requires, c.told-syn)) c.checks_of.ensures
    c.in-Some.line (search rules) (search rules) (search rules)

pub returns-in-None : goal.returns-in-None
returns-in-None c =
    first_none _ c.args.syn.now c.args.t (omega (arith, lines_fit c.args.checks.shape c.args.checks.lawful c.args.t c.requires, c.told-syn)) c.checks_of.ensures
    (positive _ c.args.checks.lawful) (search rules)
