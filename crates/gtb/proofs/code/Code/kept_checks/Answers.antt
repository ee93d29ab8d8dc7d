-- `gtb::code::Code::kept_checks` meets its contract.
use native.Mathlib.Omega.{arith}
use Rattle.gtb.proofs.Sizes.{sizes}
use Rattle.gtb.proofs.code.Code.kept_checks.Goals as goal

pub overflow_sub-result : goal.overflow_sub-result
overflow_sub-result c = let b = sizes c.args.self.shape c.args.self.lawful in omega arith
