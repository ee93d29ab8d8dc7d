-- `energy::cost` meets its contract: the product fits.
use native.Mathlib.Omega.{arith}
use Rattle.energy.proofs.Sums.{product_fits}
use Rattle.energy.proofs.cost.Goals as goal

pub overflow_mul-result : goal.overflow_mul-result
overflow_mul-result c = omega (arith, product_fits c.args.calls c.args.price (omega arith) (omega arith))
