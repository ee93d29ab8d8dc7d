-- `gtb::is_narrow` meets its contract.
use mathlib.Core.Path.{sym}
use native.Mathlib.Omega.{arith}
use Rattle.gtb.proofs.Words.{all_narrow}
use Rattle.gtb.proofs.is_narrow.Goals as goal

pub returns-then-b-eq32 : goal.returns-then-b-eq32
returns-then-b-eq32 c = let a = c.args in
    sym (all_narrow a.b a.symbols.now (omega (arith, c.if-b-eq32.true)) (λ j. omega (arith, c.type_inv.symbols j)))
