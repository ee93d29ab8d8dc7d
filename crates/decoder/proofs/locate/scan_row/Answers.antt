-- `decoder::locate::scan_row` meets its contract. The loop's invariant: the list holds the located positions up to here, fewer than n.
use mathlib.Core.Path.{refl}
use Prim.Native.Nat.{◌+◌, ◌*◌, ◌<◌}
use native.Mathlib.Nat.{add-zero, add_assoc, le_antisymm}
use native.Mathlib.Omega.{arith}
use borrow.Author.Rules.{rules}
use Rattle.gtb.proofs.Bounds.{bounds}
use Rattle.decoder.proofs.Looks.{passed_over}
use Rattle.correction.proofs.Listing.{listed_skips, scanned_few, scanned_many}
use Rattle.decoder.proofs.locate.scan_row.Goals as goal

pub offset_bounds-syn-row : goal.offset_bounds-syn-row
offset_bounds-syn-row c =
    let inside : c.args.row < 248 = omega (arith, (bounds c.args.checks.shape c.args.checks.lawful).q31) in
    omega (arith, inside)

pub bounds-syn-row : goal.bounds-syn-row
bounds-syn-row c =
    let inside : c.args.row < 248 = omega (arith, (bounds c.args.checks.shape c.args.checks.lawful).q31) in
    inside

pub returns-then-own-eq0 : goal.returns-then-own-eq0
returns-then-own-eq0 c = let passed = passed_over c.args.checks.shape c.args.checks.lawful c.args.syn.now c.args.row c.if-own-eq0.true in
    (scanned_few c.requires.1 (listed_skips c.args.checks.shape.q passed.located c.requires.2), λ _. (refl, refl))

pub loop-c-init : goal.loop-c-init
loop-c-init c = (search rules, c.requires.1, rw (add-zero (c.args.row * c.args.checks.shape.q)) c.requires.2)

pub keep-found-requires : goal.keep-found-requires
keep-found-requires c = rw (c.of-in_row.ensures.0, c.of-in_row.ensures.1) (refl, c.loop-c-test.true, c.loop-c.invariant.1, c.loop-c.invariant.2)

pub returns-then-n-found : goal.returns-then-n-found
returns-then-n-found c = let s = c.args in
    let kept = rw (c.of-in_row.ensures.0, c.of-in_row.ensures.1) at c.keep-found.ensures in (
      scanned_many (s.row * s.checks.shape.q + c.loop-c.c + 1) (omega arith) (omega (arith, kept.counted)),
      λ z. absurd (c.if-own-eq0.false z),
    )

pub loop-c-preserved : goal.loop-c-preserved
loop-c-preserved c = (search rules, c.if-n-found.false, rw (← add_assoc) (rw (c.of-in_row.ensures.0, c.of-in_row.ensures.1) at c.keep-found.ensures))

pub returns : goal.returns
returns c = (
  scanned_few c.loop-c.invariant.1 (rw (le_antisymm c.loop-c.invariant.0 c.loop-c-test.false) at c.loop-c.invariant.2),
  λ z. absurd (c.if-own-eq0.false z),
)
