-- (f) Whatever the input, and in whatever ways the calls end, the program stops: so there is a run for all of them, and what holds of all runs holds of some.
use mathlib.Core.Path.{◌≡◌, refl, sym, ap, subst}
use mathlib.Core.Bool.{Bool}
use mathlib.Core.List.{List}
use mathlib.Core.Logic.{◌⊎◌, inl, inr, ⊎_elim}
use Prim.Native.Nat.{ℕ, zero, suc, ◌+◌, ◌≤◌, ◌<◌}
use native.Mathlib.Omega.{arith}
use lib.ListN.{length, take, length-take}
use Rattle.program.specs.declared.Action.{Action}
use Rattle.program.specs.declared.Action.TheVariants.{Read, Take, Write, Look, Draw, Close, Say, BlameInput, BlameOutput, Stop}
use Rattle.capture.specs.Output.{answers_text}
use Rattle.capture.specs.Feed.{is_ended, feed, closing}
use Rattle.program.specs.Steps.{rank, measure_of, Going, Went}
use Rattle.program.specs.Run.{Config, Way, Made, came, step_in, step, run_of, Stopped, first, beginning}
use Rattle.program.proofs.Moves.{pick, begun_sound, toward_went, received_went, taken_went, closed_went, written_went, looked_went}

module _ (w : Way) (c : Config) (input : List ℕ) where
  -- no more comes than was asked for
  pub came_few : (length (take (came w c) input) ≤ c.state.input.left) × (length (take (came w c) input) ≤ 16384)
  came_few = (omega (arith, length-take (came w c) input), omega (arith, length-take (came w c) input))

  module _ (h : Going c.state) where
    -- to an end
    ends : (a : Action) → rank a < rank c.state.action → rank a < 4 → Went c.state (record { action = a; input = c.state.input; size = c.state.size; watch = c.state.watch })
    ends a l m = toward_went c.state h a l (omega arith) (λ e. absurd (omega arith))

    step_went : (a : Action) → c.state.action ≡ a → (a ≡ Stop) ⊎ Went c.state (step_in a w c input).config.state
    step_went Read is =
        inr (pick (λ (m : Made). Went c.state m.config.state) w.fails
        (λ f. ends BlameInput (omega (arith, ap rank is)) (omega arith)) (λ f. received_went c.state h (length (take (came w c) input)) is came_few.0))
    step_went Take is =
        let fed = feed c.tally c.held c.block in
        inr (taken_went c.state h (is_ended fed.tally.phase) (c.state.size + length (answers_text fed.answers)) is)
    step_went Close is = inr (closed_went c.state h (c.state.size + length (closing c.tally c.held)) is)
    step_went Write is =
        inr (pick (λ (m : Made). Went c.state m.config.state) w.fails
        (λ f. ends BlameOutput (omega (arith, ap rank is)) (omega arith)) (λ f. written_went c.state h is))
    step_went Look is = inr (looked_went c.state h w.second is)
    step_went Draw is = inr (toward_went c.state h Read (omega (arith, ap rank is)) (omega arith) (λ e. omega (arith, ap rank is)))
    step_went Say is = inr (ends Stop (omega (arith, ap rank is)) (omega arith))
    step_went BlameInput is = inr (ends Stop (omega (arith, ap rank is)) (omega arith))
    step_went BlameOutput is = inr (ends Stop (omega (arith, ap rank is)) (omega arith))
    step_went Stop is = inl refl

    pub step_going : Going (step w c input).config.state
    step_going =
        ⊎_elim (λ (stop : c.state.action ≡ Stop). subst (λ (a : Action). Going (step_in a w c input).config.state) (sym stop) h)
        (λ (v : Went c.state (step w c input).config.state). v.going) (step_went c.state.action refl)

runs : (fuel : ℕ) (ways : ℕ → Way) (c : Config) (input : List ℕ) → Going c.state → measure_of c.state < fuel → (n : ℕ) × Stopped (run_of (first n ways) c input)
runs zero ways c input h l = absurd (omega arith)
runs (suc fuel) ways c input h l =
    ⊎_elim (λ (stop : c.state.action ≡ Stop). (0, stop))
    (λ (v : Went c.state (step (ways 0) c input).config.state).
    let r = runs fuel (λ i. ways (suc i)) (step (ways 0) c input).config (step (ways 0) c input).left v.going (omega (arith, v.less)) in
    (suc r.0, r.1))
    (step_went (ways 0) c input h c.state.action refl)

-- after so many steps, whose calls end in these ways one after the other, it has stopped
pub every_run : (ways : ℕ → Way) (error output : Bool) (second : ℕ) (input : List ℕ) → (n : ℕ) × Stopped (run_of (first n ways) (beginning error output second) input)
every_run ways error output second input =
    let c = beginning error output second in
    runs (suc (measure_of c.state)) ways c input (begun_sound error output second).going (omega arith)
