-- `syndrome::doubled::other_directions` meets its contract. The loop's invariant: the first t directions are done.
use Prim.Native.Nat.{ℕ, ◌+◌, ◌*◌, ◌≤◌}
use native.Mathlib.Omega.{arith}
use Rattle.gtb.proofs.Bounds.{bounds}
use Rattle.gtb.proofs.Slopes.{slope_lt}
use Rattle.gtb.proofs.Sizes.{direction_room}
use Rattle.syndrome.proofs.Directions.{direction_last}
use Rattle.syndrome.proofs.Doubles.{next_of}
use Rattle.syndrome.proofs.doubled.other_directions.Goals as goal

pub lay-requires : goal.lay-requires
lay-requires c =
    let small : c.args.q ≤ 31 = rw c.requires.4 (bounds _ c.requires.0).q31 in
    (small, rw c.requires.4 c.requires.1, c.requires.3)

pub loop-t-init : goal.loop-t-init
loop-t-init c = let b = bounds _ c.requires.0 in
    (omega arith, omega arith, c.requires.2)

pub overflow_mul-t : goal.overflow_mul-t
overflow_mul-t c =
    let room : (t : ℕ) → t + 1 ≤ c.args.shape.n → t * c.args.q + c.args.q ≤ 248 = λ t. λ l. rw c.requires.4 (direction_room c.args.shape c.requires.0 t (omega arith)) in
    omega (arith, room c.loop-t.t (omega arith))

pub slope-requires : goal.slope-requires
slope-requires c = omega (arith, (bounds _ c.requires.0).n8, c.loop-t.invariant.0, c.loop-t-test.true)

pub overflow_sub-q : goal.overflow_sub-q
overflow_sub-q c = omega (arith, c.requires.4, c.slope.ensures, slope_lt _ c.requires.0 _ c.loop-t.invariant.0 c.loop-t-test.true)

pub sweep_twice-requires : goal.sweep_twice-requires
sweep_twice-requires c =
    let room : (t : ℕ) → t + 1 ≤ c.args.shape.n → t * c.args.q + c.args.q ≤ 248 = λ t. λ l. rw c.requires.4 (direction_room c.args.shape c.requires.0 t (omega arith)) in
    let small : c.args.q ≤ 31 = rw c.requires.4 (bounds _ c.requires.0).q31 in (
      c.loop-t.invariant.2.size,
      room c.loop-t.t (omega arith),
      c.lay.ensures.size,
      omega arith,
      small,
    )

pub loop-t-preserved : goal.loop-t-preserved
loop-t-preserved c = (
  omega arith,
  omega arith,
  next_of c.args.shape c.requires.0 c.args.word.now c.args.q c.requires.4 c.loop-t.t _ c.lay.ensures
      c.loop-t.invariant.0 c.loop-t-test.true c.slope.ensures c.loop-t.invariant.2 c.sweep_twice.ensures,
)

pub returns : goal.returns
returns c = direction_last c.args.shape c.requires.0 c.args.word.now c.loop-t.t c.loop-t.syn (omega arith) c.loop-t.invariant.2
