-- `encoder::interpolation::walk` meets its contract. The loop's invariant: i steps are done, u is where they lead, and `value` what stands there.
use mathlib.Core.Path.{◌≡◌, refl, sym, ap₂}
use Prim.Native.Nat.{ℕ, ◌-◌}
use native.Mathlib.Omega.{arith}
use borrow.Author.Rules.{rules}
use lib.Seq.{get_or-set_same}
use Rattle.parity.specs.Xor.{◌⊕◌}
use Rattle.gtb.proofs.Turns.{turn_none, turn_more}
use Rattle.encoder.proofs.Walks.{walking_none, walking_more, walking_all, taken_up}
use Rattle.encoder.proofs.interpolation.walk.Goals as goal

pub loop-i-init : goal.loop-i-init
loop-i-init c = let a = c.args in
    (search rules, turn_none a.delta a.q, search rules, refl, walking_none a.q a.delta _ (search rules))

pub loop-i-preserved : goal.loop-i-preserved
unfolding ◌⊕◌
loop-i-preserved c = let a = c.args in (
  omega arith,
  turn_more a.delta c.loop-i.i a.q c.loop-i.u _ c.loop-i.invariant.1 c.add_mod-u.ensures.0,
  c.add_mod-u.ensures.1,
  sym (get_or-set_same c.loop-i.walked c.add_mod-u.result _ 0 (omega (arith, c.loop-i.invariant.4.size, c.add_mod-u.ensures.1))),
  walking_more a.q a.delta _ (omega arith) c.loop-i.i c.loop-i.u _ _ _ (omega arith) c.requires.5 c.loop-i.invariant.1 c.add_mod-u.ensures.0
      (ap₂ (λ (x y : ℕ). x ⊕ y) c.loop-i.invariant.3 (taken_up a.q a.word.now a.k a.t c.loop-i.u c.loop-i.invariant.2)) c.loop-i.invariant.4,
)

pub returns : goal.returns
returns c = let a = c.args in
    let e : c.loop-i.i ≡ a.q - 1 = omega arith in
    walking_all a.q a.delta _ (omega arith) _ (rw e at c.loop-i.invariant.4)
