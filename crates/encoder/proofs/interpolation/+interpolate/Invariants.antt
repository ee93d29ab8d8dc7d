-- The proof of the cycle of calls {interpolate}. The measure is n less k.
use Prim.Native.Nat.{◌-◌}
use Rattle.encoder.proofs.interpolation.+interpolate.Given as goal

abbrev pub decreases-interpolate : goal.decreases-interpolate
decreases-interpolate l = l.code.shape.n - l.k
