-- `capture::output::put_counts` meets its contract: after f turns the counts of the first f functions have been written.
use native.Mathlib.Omega.{arith}
use Rattle.capture.proofs.Texts.{counting_begins, counting_passes, counting_writes, counting_ends}
use Rattle.capture.proofs.output.put_counts.Goals as goal
use Rattle.capture.proofs.output.put_counts.Goals.{then-k-ne0, else-k-ne0}

pub loop-f-init : goal.loop-f-init
loop-f-init c = counting_begins _ _ _

pub put_count-next-requires : goal.put_count-next-requires
put_count-next-requires c = omega (arith, c.loop-f.invariant.short)

pub loop-f-preserved : goal.loop-f-preserved
loop-f-preserved c =
    let inv = c.loop-f.invariant in
    elim c.if-k-ne0.branch [
      | then-k-ne0 w ↦ rw (w.out-is, w.next-is) (counting_writes (omega arith) w.if-k-ne0.true (omega (arith, inv.short)) w.put_count-next.ensures.0 w.put_count-next.ensures.1 inv)
      | else-k-ne0 w ↦ rw (w.out-is, w.next-is) (counting_passes (omega arith) w.if-k-ne0.false inv)
    ]

pub returns : goal.returns
returns c = counting_ends (omega arith) (omega arith) c.loop-f.invariant
