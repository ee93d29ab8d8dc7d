-- `decoder::error::shares_check` meets its contract. Check numbers of one direction are equal exactly if the lines are.
use mathlib.Core.Path.{sym}
use Rattle.decoder.proofs.Private.{shares_self, shares_check_lem}
use Rattle.decoder.proofs.error.shares_check.Goals as goal

pub returns-then-i-j : goal.returns-then-i-j
returns-then-i-j c = sym (shares_self _ _ _ _ c.if-i-j.true)

pub returns : goal.returns
returns c = shares_check_lem _ _ _ _ c.if-i-j.false c.number.ensures c.number-2.ensures
