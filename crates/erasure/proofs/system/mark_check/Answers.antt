-- `erasure::system::mark_check` meets its contract.
use Rattle.erasure.proofs.Systems.{check_unmarked}
use Rattle.erasure.proofs.system.mark_check.Goals as goal

pub returns-in_default : goal.returns-in_default
returns-in_default c = check_unmarked _ _ _ c.args.k c.in_default.ensures _
