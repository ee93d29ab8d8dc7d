-- `encoder::checks::copy_checks` meets its contract.
use native.Mathlib.Omega.{arith}
use Rattle.gtb.proofs.Bounds.{bounds}
use Rattle.encoder.proofs.Bounds.{upper_fits}
use Rattle.encoder.proofs.Upper.{raised_copied}
use Rattle.encoder.proofs.checks.copy_checks.Goals as goal

pub overflow_sub-m : goal.overflow_sub-m
overflow_sub-m c = let b = bounds _ c.args.code.lawful in omega arith

pub copy_run-requires : goal.copy_run-requires
copy_run-requires c = let f = upper_fits _ c.args.code.lawful in omega (arith, c.fill.ensures.size)

pub returns : goal.returns
returns c = raised_copied _ c.args.code.lawful _ _ _ c.fill.ensures c.copy_run.ensures
