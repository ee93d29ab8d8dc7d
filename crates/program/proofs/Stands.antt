-- What the code's steps promise is what the configurations say: each step leads from what stands for one to what stands for the next.
use mathlib.Core.Path.{◌≡◌, refl, sym, ap, ◌∙◌, subst}
use mathlib.Core.Bool.{Bool}
use mathlib.Core.List.{List, ◌++◌}
use Prim.Native.Nat.{ℕ, ◌+◌}
use native.Mathlib.Omega.{arith}
use lib.ListN.{length, take}
use Rattle.capture.specs.declared.Reader.{Reader}
use Rattle.capture.specs.Output.{answers_text}
use Rattle.capture.specs.Counting.{counted, counted_in}
use Rattle.capture.specs.Feed.{Fed, is_ended, feed, last_of, closing}
use Rattle.capture.specs.Steps.{Begun, LineSoFar}
use Rattle.program.specs.declared.State.{State}
use Rattle.program.specs.declared.Taken.{Taken}
use Rattle.program.specs.Moves.{begun, received_of, taken_of, closed_of, written_of}
use Rattle.program.specs.Steps.{Took, Closing}
use Rattle.program.specs.Run.{Config, Stands, moved, received, fed_to, closed, written, beginning}

-- at the beginning
pub begin_stands : {out out' : List ℕ} {r : Reader} (error output : Bool) (second : ℕ) (block line : List ℕ) → length line ≡ 16384 → Begun out out' r
    → Stands (beginning error output second) (begun r.at error output second) r block line out'
unfolding begun
begin_stands {out} {out'} {r} error output second block line full b =
    record {
      state = ap (λ (n : ℕ). begun n error output second) b.at;
      tally = b.tally;
      held = record { size = full; kept = λ l. ap (λ (n : ℕ). take n line) b.held; long = λ l. absurd (omega (arith, b.held)) };
      counts = b.counts;
      block = refl;
      text = ap (λ (n : ℕ). take n out') (sym b.at) ∙ b.output.front;
    }

module _ {c : Config} {s : State} {reader : Reader} {block line out : List ℕ} (h : Stands c s reader block line out) where
  -- in another state, with the same block and the same output waiting
  pub moved_stands : (t : State) → t.input.count ≡ c.state.input.count → t.size ≡ c.state.size → Stands (moved c t) t reader block line out
  moved_stands t k n =
      record {
        state = refl;
        tally = h.tally;
        held = h.held;
        counts = h.counts;
        block = ap (λ (x : ℕ). take x block) k ∙ h.block;
        text = ap (λ (x : ℕ). take x out) n ∙ h.text;
      }

  pub received_stands : (bytes block' : List ℕ) → take (length bytes) block' ≡ bytes → Stands (received c bytes) (received_of s (length bytes)) reader block' line out
  received_stands bytes block' same =
      record {
        state = ap (λ (x : State). received_of x (length bytes)) h.state;
        tally = h.tally;
        held = h.held;
        counts = h.counts;
        block = same;
        text = h.text;
      }

  pub written_stands : Stands (written c) (written_of s) reader block line out
  written_stands =
      record { state = ap written_of h.state; tally = h.tally; held = h.held; counts = h.counts; block = h.block; text = refl }

  pub took_stands : {line' out' : List ℕ} {r : Taken} → Took s reader line (take c.state.input.count block) out line' out' r
      → Stands (fed_to c (feed c.tally c.held c.block)) r.state r.reader block line' out'
  took_stands {line'} {out'} {r} t =
      let fed = feed reader.tally c.held (take c.state.input.count block) in
      let same : fed ≡ feed c.tally c.held c.block = (λ i. feed (h.tally i) c.held (h.block i)) in
      let f = t.taken.fed c.held h.held in
      let size : s.size ≡ c.state.size = ap (λ (x : State). x.size) h.state in
      let at : r.reader.at ≡ c.state.size + length (answers_text (feed c.tally c.held c.block).answers) =
      f.output.next ∙ (λ i. size i + length (answers_text (same i).answers)) in
      record {
        state = t.state ∙ (λ i. taken_of (h.state i) (is_ended ((f.tally ∙ ap (λ (x : Fed). x.tally) same) i).phase) (at i));
        tally = f.tally ∙ ap (λ (x : Fed). x.tally) same;
        held = subst (λ (x : Fed). LineSoFar line' r.reader.held x.held) same f.held;
        counts = f.counts ∙ (λ i. counted_in (h.counts i) (same i).answers);
        block = refl;
        text = ap (λ (n : ℕ). take n out') (sym at) ∙ f.output.front ∙ (λ i. (ap (λ (n : ℕ). take n out) size ∙ h.text) i ++ answers_text (same i).answers);
      }

  pub closed_stands : {out' : List ℕ} {r : Taken} → Closing s reader out out' r → Stands (closed c) r.state r.reader block line out'
  closed_stands {out'} {r} t =
      let size : s.size ≡ c.state.size = ap (λ (x : State). x.size) h.state in
      let output = t.finished.output line c.held h.held in
      let at : r.reader.at ≡ c.state.size + length (closing c.tally c.held) =
      output.next ∙ (λ i. size i + length (closing (h.tally i) c.held)) in
      record {
        state = t.state ∙ (λ i. closed_of (h.state i) (at i));
        tally = t.finished.tally ∙ h.tally;
        held = subst (λ (n : ℕ). LineSoFar line n c.held) (sym t.finished.held) h.held;
        counts = t.finished.counts line c.held h.held ∙ (λ i. counted (h.counts i) (last_of (h.tally i) c.held));
        block = h.block;
        text = ap (λ (n : ℕ). take n out') (sym at) ∙ output.front ∙ (λ i. (ap (λ (n : ℕ). take n out) size ∙ h.text) i ++ closing (h.tally i) c.held);
      }
