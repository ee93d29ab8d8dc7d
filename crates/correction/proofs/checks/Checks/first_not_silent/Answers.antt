-- `correction::checks::Checks::first_not_silent` meets its contract.
use native.Mathlib.Omega.{arith}
use Rattle.correction.proofs.CheckNumbers.{checks_fit}
use Rattle.correction.proofs.Silence.{first_loud}
use Rattle.correction.proofs.checks.Checks.first_not_silent.Goals as goal

pub overflow_mul-count : goal.overflow_mul-count
overflow_mul-count c = omega (arith, checks_fit c.args.self.shape c.args.self.lawful)

pub shared_ref_as_front-first_nonzero : goal.shared_ref_as_front-first_nonzero
shared_ref_as_front-first_nonzero c = checks_fit c.args.self.shape c.args.self.lawful

pub returns : goal.returns
returns c =
    first_loud c.args.self.shape c.args.syn.now (omega (arith, checks_fit c.args.self.shape c.args.self.lawful, c.told-syn)) c.first_nonzero.result c.first_nonzero.ensures
