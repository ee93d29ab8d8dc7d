-- Every step keeps a state within its bounds, and its measure falls; after a fault, and at the end of the input, nothing more is read.
use mathlib.Core.Path.{◌≡◌, refl, sym, ap, subst}
use mathlib.Core.Bool.{Bool, true, false, cond, not}
use mathlib.Core.Logic.{⊎_elim}
use Prim.Native.Nat.{ℕ, zero, suc, ◌+◌, ◌≤◌, ◌<◌}
use native.Mathlib.Omega.{arith}
use borrow.Author.Tests.{eqb-true, eqb-false, not-true, not-false, lt-ltb}
use lib.Dec.{eqb, ltb}
use Rattle.parity.proofs.Tests.{either, clash}
use Rattle.capture.specs.declared.Fault.{Fault}
use Rattle.capture.specs.declared.Phase.TheVariants.{Ended}
use Rattle.capture.specs.Feed.{is_ended}
use Rattle.program.specs.declared.Action.{Action}
use Rattle.program.specs.declared.Action.TheVariants.{Read, Take, Write, Look, Draw, Close, Say}
use Rattle.program.specs.declared.State.{State}
use Rattle.program.specs.Moves.{begun, toward_of, received_of, is_more, taken_of, closed_of, written_of, looked_of}
use Rattle.program.specs.Steps.{rank, measure_of, most, Going, Sound, Went, Stepped}

-- by either value of a test
pub pick : {A : Type 0} (P : A → Type 0) (b : Bool) {x y : A} → (b ≡ true → P x) → (b ≡ false → P y) → P (cond b x y)
pick P true t f = t refl
pick P false t f = f refl

pub most_all : (a : Action) → most a ≤ 500000
most_all a =
    pick (λ (n : ℕ). n ≤ 500000) (ltb (rank a) 4) (λ e. omega arith)
    (λ e. pick (λ (n : ℕ). n ≤ 500000) (eqb (rank a) 7) (λ f. omega arith) (λ f. pick (λ (n : ℕ). n ≤ 500000) (eqb (rank a) 8) (λ g. omega arith) (λ g. omega arith)))

pub begun_sound : (error output : Bool) (second : ℕ) → Sound (begun 19 error output second)
unfolding begun
begun_sound error output second =
    record {
      going = record { there = λ e. absurd (omega arith); more = λ l m. refl; some = λ o l m. omega arith; shut = λ e. absurd (omega arith) };
      limit = omega arith;
      block = omega arith;
      out = omega arith;
    }

-- the loop's test of what was read, and of what may be read
more_left : (ended : Bool) (left : ℕ) → is_more ended left ≡ true → 0 < left
more_left true zero o = absurd (clash o refl)
more_left false zero o = absurd (clash o refl)
more_left ended (suc left) o = omega arith

pub some_bytes : (k : ℕ) → not (eqb k 0) ≡ true → 0 < k
some_bytes k o = omega (arith, eqb-false k 0 (not-true (eqb k 0) o))

pub no_bytes : (k : ℕ) → not (eqb k 0) ≡ false → k ≡ 0
no_bytes k o = eqb-true k 0 (not-false (eqb k 0) o)

-- ---- step by step
module _ (s : State) (h : Going s) where
  -- toward something of a lower rank
  pub toward_went : (a : Action) → rank a < rank s.action → rank a < 5 → (rank a ≡ 4 → rank s.action < 7) → Went s (toward_of a s)
  unfolding measure_of
  toward_went a l m r =
      record {
        going = record {
          there = λ e. absurd (omega arith);
          more = λ x y. h.more (omega arith) (r (omega arith));
          some = λ o x y. h.some o (omega arith) (omega (arith, r (omega arith)));
          shut = λ e. absurd (omega arith);
        };
        less = omega arith;
      }

  pub received_went : (k : ℕ) → s.action ≡ Read → k ≤ s.input.left → Went s (received_of s k)
  unfolding measure_of
  received_went k is few =
      let r = ap rank is in
      let o = h.more (omega arith) (omega arith) in
      ⊎_elim
      (λ (b : not (eqb k 0) ≡ true).
      rw (b, o) (record { going = record { there = λ e. some_bytes k b; more = λ x y. refl; some = λ p x y. absurd (omega arith); shut = λ e. absurd (omega arith) }; less = omega (arith, some_bytes k b) }))
      (λ (b : not (eqb k 0) ≡ false).
      rw (b, o) (record { going = record { there = λ e. absurd (omega arith); more = λ x y. absurd (omega arith); some = λ p x y. absurd (omega arith); shut = λ e. refl }; less = omega (arith, no_bytes k b) }))
      (either (not (eqb k 0)))

  pub taken_went : (ended : Bool) (size : ℕ) → s.action ≡ Take → Went s (taken_of s ended size)
  unfolding measure_of
  taken_went ended size is =
      let r = ap rank is in
      ⊎_elim
      (λ (b : is_more ended s.input.left ≡ true).
      rw b
      (record {
        going = record { there = λ e. absurd (omega arith); more = λ x y. refl; some = λ p x y. more_left ended s.input.left b; shut = λ e. absurd (omega arith) };
        less = omega (arith, h.there r);
      }))
      (λ (b : is_more ended s.input.left ≡ false).
      rw b
      (record {
        going = record { there = λ e. absurd (omega arith); more = λ x y. absurd (omega arith); some = λ p x y. absurd (omega arith); shut = λ e. refl };
        less = omega (arith, h.there r);
      }))
      (either (is_more ended s.input.left))

  pub closed_went : (size : ℕ) → s.action ≡ Close → Went s (closed_of s size)
  unfolding measure_of
  closed_went size is =
      let r = ap rank is in
      record { going = record { there = λ e. absurd (omega arith); more = λ x y. absurd (omega arith); some = λ o x y. absurd (clash o (h.shut r)); shut = λ e. absurd (omega arith) }; less = omega arith }

  pub written_went : s.action ≡ Write → Went s (written_of s)
  unfolding measure_of
  written_went is =
      let r = ap rank is in
      ⊎_elim
      (λ (o : s.input.more ≡ true).
      let left = h.some o (omega arith) (omega arith) in
      ⊎_elim
      (λ (p : s.watch.progress ≡ true).
      rw (o, p) (record { going = record { there = λ e. absurd (omega arith); more = λ x y. refl; some = λ q x y. left; shut = λ e. absurd (omega arith) }; less = omega arith }))
      (λ (p : s.watch.progress ≡ false).
      rw (o, p) (record { going = record { there = λ e. absurd (omega arith); more = λ x y. refl; some = λ q x y. left; shut = λ e. absurd (omega arith) }; less = omega arith }))
      (either s.watch.progress))
      (λ (o : s.input.more ≡ false).
      rw o (record { going = record { there = λ e. absurd (omega arith); more = λ x y. absurd (omega arith); some = λ q x y. absurd (omega arith); shut = λ e. absurd (omega arith) }; less = omega arith }))
      (either s.input.more)

  pub looked_went : (second : ℕ) → s.action ≡ Look → Went s (looked_of s second)
  unfolding measure_of
  looked_went second is =
      let r = ap rank is in
      pick (Went s) (eqb second s.watch.second)
      (λ e. toward_went Read (omega arith) (omega arith) (λ x. omega arith))
      (λ e.
      record {
        going = record { there = λ x. absurd (omega arith); more = λ x y. h.more (omega arith) (omega arith); some = λ o x y. h.some o (omega arith) (omega arith); shut = λ x. absurd (omega arith) };
        less = omega arith;
      })

-- ---- and within the bounds
stepped : {s r : State} → Sound s → Went s r → r.input.left ≤ s.input.left → r.input.count ≤ 16384 → r.size ≤ most r.action → Stepped s r
stepped h w l b o = record { sound = record { going = w.going; limit = omega (arith, h.limit); block = b; out = o }; less = w.less }

pub size_at : {s : State} {a : Action} → Sound s → s.action ≡ a → s.size ≤ most a
size_at {s} h is = subst (λ (a : Action). s.size ≤ most a) is h.out

-- a state that is another one
pub stepped_by : {s r t : State} → r ≡ t → Stepped s t → Stepped s r
stepped_by {s} e h = subst (Stepped s) (sym e) h

module _ (s : State) (h : Sound s) where
  -- to an end
  pub ended_stepped : (a : Action) → rank a < rank s.action → rank a < 3 → Stepped s (toward_of a s)
  ended_stepped a l m =
      stepped h (toward_went s h.going a l (omega arith) (λ e. absurd (omega arith))) (omega arith) h.block
      (rw (lt-ltb (rank a) 4 (omega arith)) (omega (arith, h.out, most_all s.action)))

  pub received_stepped : (k : ℕ) → s.action ≡ Read → k ≤ s.input.left → k ≤ 16384 → Stepped s (received_of s k)
  received_stepped k is few fits =
      let size : s.size ≤ 19 = size_at h is in
      stepped h (received_went s h.going k is few) (omega arith) fits
      (pick (λ (a : Action). s.size ≤ most a) (not (eqb k 0)) (λ b. size) (λ b. omega arith))

  pub taken_stepped : (ended : Bool) (size : ℕ) → s.action ≡ Take → size ≤ s.size + 491520 → Stepped s (taken_of s ended size)
  taken_stepped ended size is l =
      let before : s.size ≤ 19 = size_at h is in
      stepped h (taken_went s h.going ended size is) (omega arith) (omega arith)
      (pick (λ (a : Action). size ≤ most a) (is_more ended s.input.left) (λ b. omega arith) (λ b. omega arith))

  pub closed_stepped : (size : ℕ) → s.action ≡ Close → size ≤ s.size + 5687 → Stepped s (closed_of s size)
  closed_stepped size is l =
      let before : s.size ≤ 491539 = size_at h is in
      stepped h (closed_went s h.going size is) (omega arith) h.block (omega arith)

  pub written_stepped : s.action ≡ Write → Stepped s (written_of s)
  written_stepped is = stepped h (written_went s h.going is) (omega arith) h.block (omega arith)

  pub looked_stepped : (second : ℕ) → s.action ≡ Look → Stepped s (looked_of s second)
  looked_stepped second is =
      pick (λ (r : State). Went s r → Stepped s r) (eqb second s.watch.second)
      (λ e w. stepped h w (omega arith) h.block (size_at h is)) (λ e w. stepped h w (omega arith) h.block (size_at h is))
      (looked_went s h.going second is)

  pub drawn_stepped : s.action ≡ Draw → Stepped s (toward_of Read s)
  drawn_stepped is =
      let r = ap rank is in
      stepped h (toward_went s h.going Read (omega arith) (omega arith) (λ e. omega arith)) (omega arith) h.block (size_at h is)

-- ---- after a fault in the first three lines, and at the end of the input, nothing more is read: the output is closed and written, and then the last things are said
-- what is next from here on, however long the output gets
pub record Unread (s : State) : Type 0 where
  pub closes : s.action ≡ Close
  pub writes : (size : ℕ) → (closed_of s size).action ≡ Write
  pub says : (size : ℕ) → (written_of (closed_of s size)).action ≡ Say

pub fault_unread : (s : State) (f : Fault) (size : ℕ) → Unread (taken_of s (is_ended (Ended f)) size)
fault_unread s f size = record { closes = refl; writes = λ k. refl; says = λ k. refl }

pub end_unread : (s : State) → Unread (received_of s 0)
end_unread s = record { closes = refl; writes = λ k. refl; says = λ k. refl }
