-- `syndrome::doubled::sweep_twice` meets its contract. The loop's invariant is the contract for the first r rows, and `place` is step × r mod q.
use mathlib.Core.Path.{◌∙◌}
use Prim.Native.Nat.{◌+◌, ◌*◌, ◌≤◌}
use native.Mathlib.Omega.{arith}
use borrow.Author.Rules.{rules}
use Rattle.syndrome.proofs.Sweeps.{rounds_none, rounds_more, rounds_end}
use Rattle.gtb.proofs.Turns.{turn_none, turn_more, turn_lt}
use Rattle.syndrome.proofs.Doubles.{place_in, doubled_small, run_symbol}
use Rattle.syndrome.proofs.doubled.sweep_twice.Goals as goal

pub loop-r-init : goal.loop-r-init
loop-r-init c = (search rules, turn_none _ _, rounds_none _ _ _ _)

pub overflow_mul-r : goal.overflow_mul-r
overflow_mul-r c =
    let run_in : c.loop-r.r * (c.args.q + c.args.q) + c.loop-r.place + c.args.q ≤ c.args.q * (c.args.q + c.args.q) = let q = c.args.q in
    omega (arith, place_in c.loop-r.r q c.loop-r-test.true, turn_lt _ _ _ _ c.loop-r.invariant.1 c.loop-r-test.true) in
    let run_small : c.loop-r.r * (c.args.q + c.args.q) + c.loop-r.place + c.args.q ≤ 1922 = omega (arith, run_in, doubled_small c.args.q c.requires.4) in
    omega (arith, run_small)

pub overflow_add-r : goal.overflow_add-r
overflow_add-r c =
    let run_in : c.loop-r.r * (c.args.q + c.args.q) + c.loop-r.place + c.args.q ≤ c.args.q * (c.args.q + c.args.q) = let q = c.args.q in
    omega (arith, place_in c.loop-r.r q c.loop-r-test.true, turn_lt _ _ _ _ c.loop-r.invariant.1 c.loop-r-test.true) in
    let run_small : c.loop-r.r * (c.args.q + c.args.q) + c.loop-r.place + c.args.q ≤ 1922 = omega (arith, run_in, doubled_small c.args.q c.requires.4) in
    omega (arith, run_small)

pub add_run-requires : goal.add_run-requires
add_run-requires c =
    let run_in : c.loop-r.r * (c.args.q + c.args.q) + c.loop-r.place + c.args.q ≤ c.args.q * (c.args.q + c.args.q) = let q = c.args.q in
    omega (arith, place_in c.loop-r.r q c.loop-r-test.true, turn_lt _ _ _ _ c.loop-r.invariant.1 c.loop-r-test.true) in
    (omega (arith, c.loop-r.invariant.2.size ∙ c.requires.0, c.requires.1), omega (arith, run_in, c.requires.2))

pub add_mod-place-requires : goal.add_mod-place-requires
add_mod-place-requires c = (turn_lt _ _ _ _ c.loop-r.invariant.1 c.loop-r-test.true, search rules, search rules)

pub loop-r-preserved : goal.loop-r-preserved
loop-r-preserved c = let a = c.args in (
  search rules,
  turn_more _ _ _ _ _ c.loop-r.invariant.1 c.add_mod-place.ensures.0,
  rounds_more _ _ _ _ _ _ _ _ c.loop-r.invariant.2 c.add_run.ensures
      (λ L. run_symbol a.twice.now (c.loop-r.r * (a.q + a.q)) _ _ _ _ L c.loop-r.invariant.1),
)

pub returns : goal.returns
returns c = rounds_end _ c.loop-r.invariant.2 (omega arith)
