-- `gtb::code::Code::info_length` meets its contract.
use native.Mathlib.Omega.{arith}
use Rattle.gtb.proofs.Bounds.{bounds}
use Rattle.gtb.proofs.code.Code.info_length.Goals as goal

pub overflow_sub-result : goal.overflow_sub-result
overflow_sub-result c = let b = bounds c.args.self.shape c.args.self.lawful in omega arith

pub overflow_sub-result-2 : goal.overflow_sub-result-2
overflow_sub-result-2 c = let b = bounds c.args.self.shape c.args.self.lawful in omega arith
