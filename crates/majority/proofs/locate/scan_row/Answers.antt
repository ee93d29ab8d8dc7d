-- `majority::locate::scan_row` meets its contract. The loop's invariant: the list holds what is found up to here, at most n/2 positions.
use Prim.Native.Nat.{◌+◌, ◌*◌, ◌<◌}
use native.Mathlib.Nat.{add_assoc}
use native.Mathlib.Omega.{arith}
use borrow.Author.Rules.{rules}
use Rattle.gtb.proofs.Bounds.{bounds}
use Rattle.correction.proofs.Listing.{listed_skips, scanned_few, scanned_many}
use Rattle.correction.proofs.Showing.{bit_byte}
use Rattle.majority.specs.Steps.{found_in}
use Rattle.majority.proofs.Table.{nothing_found, all_found}
use Rattle.majority.proofs.locate.scan_row.Goals as goal

pub bounds-syn-row : goal.bounds-syn-row
bounds-syn-row c =
    let inside : c.args.row < 248 = omega (arith, (bounds c.args.checks.shape c.args.checks.lawful).q31, c.requires.0) in
    inside

pub returns-then-silent : goal.returns-then-silent
returns-then-silent c = scanned_few c.requires.1
    (listed_skips c.args.checks.shape.q
    (λ column l. nothing_found c.args.checks.shape c.args.syn.now c.args.loud c.args.row column l c.if-loud.true c.if-silent.true)
    c.requires.2)

pub keep-k-requires : goal.keep-k-requires
keep-k-requires c = rw (c.of-in_row.ensures.0, c.of-in_row.ensures.1) (bit_byte _, c.loop-c-test.true, c.loop-c.invariant.1, c.loop-c.invariant.2.size)

pub returns-then-limit-k : goal.returns-then-limit-k
returns-then-limit-k c =
    let s = c.args.checks.shape in
    let same = all_found s c.args.syn.now c.args.loud c.args.row c.loop-c.c c.loop-c-test.true c.else-loud.either in
    let listed = (rw (c.of-in_row.ensures.0, c.of-in_row.ensures.1) at c.keep-k.ensures).next (found_in s c.args.syn.now c.args.loud) same c.loop-c.invariant.2 in
    scanned_many (c.args.row * s.q + c.loop-c.c + 1) (omega (arith, c.loop-c-test.true)) (omega (arith, listed.counted, c.if-limit-k.true))

pub loop-c-preserved : goal.loop-c-preserved
loop-c-preserved c =
    let s = c.args.checks.shape in
    let same = all_found s c.args.syn.now c.args.loud c.args.row c.loop-c.c c.loop-c-test.true c.else-loud.either in
    let listed = (rw (c.of-in_row.ensures.0, c.of-in_row.ensures.1) at c.keep-k.ensures).next (found_in s c.args.syn.now c.args.loud) same c.loop-c.invariant.2 in
    (search rules, c.if-limit-k.false, rw (← add_assoc) listed)
