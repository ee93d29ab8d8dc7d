-- `erasure::system::mark` meets its contract.
use mathlib.Core.Path.{sym, subst}
use mathlib.Core.Bool.{◌&&◌}
use Prim.Native.Nat.{ℕ, ◌+◌, ◌*◌, ◌/◌, ◌%◌, ◌<◌}
use native.Mathlib.Omega.{arith}
use lib.Dec.{eqb}
use lib.ListN.{length, set}
use Rattle.parity.specs.Xor.{◌⊕◌}
use Rattle.gtb.specs.Square.{at}
use Rattle.erasure.specs.Steps.{Flipped}
use Rattle.erasure.proofs.Cells.{one_shifted, flipped_one, cell_inside}
use Rattle.erasure.proofs.system.mark.Goals as goal

pub returns : goal.returns
unfolding ◌⊕◌
returns c =
    let inside : c.args.row * c.args.width + c.args.k / 32 < length c.args.scratch.now = cell_inside c.args.width c.args.rows c.args.row c.args.k (length c.args.scratch.now) c.requires.0 c.requires.1 c.requires.2 in
    let a = c.args in
    subst (λ (x : ℕ). Flipped a.width a.rows (λ i k. eqb i a.row && eqb k a.k) a.scratch.now (set a.scratch.now (a.row * a.width + a.k / 32) (at a.scratch.now (a.row * a.width + a.k / 32) ⊕ x)))
    (sym (one_shifted (a.k % 32) (omega arith))) (flipped_one a.width a.scratch.now a.row a.k c.requires.1 a.rows inside)
