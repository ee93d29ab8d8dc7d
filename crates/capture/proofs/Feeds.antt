-- The input fed in pieces.
use Rattle.std.specs.Prelude.{Some, None}
use Rattle.std.specs.List.{position_or_len}
use Rattle.std.proofs.lemmas.List.Quantifiers.{position-Some}
use Rattle.std.proofs.lemmas.List.Sums.{fails_before_first}
use Rattle.std.proofs.lemmas.Option.{none-some}
use native.Mathlib.Numerals.{add-one}
use mathlib.Core.Path.{◌≡◌, refl, sym, ap, ◌∙◌}
use mathlib.Core.Logic.{⊎_elim}
use mathlib.Core.Bool.{Bool, true, false}
use mathlib.Core.List.{List, [], ◌∷◌, ◌++◌, append-nil, append_assoc}
use Prim.Native.Nat.{ℕ, suc, ◌+◌, ◌≤◌, ◌<◌}
use native.Mathlib.Nat.{zero-lt-suc}
use native.Mathlib.Omega.{arith}
use borrow.Author.Tests.{ne_eqb, eq-eqb, ltb-false}
use lib.Dec.{eqb, ltb}
use lib.ListN.{length, get_or, take, drop, length-append, take-append-drop}
use lib.Seq.{drop-cons, get_or-take, length-take-le}
use Rattle.parity.proofs.Tests.{either, clash}
use Rattle.lines.specs.Text.{newline}
use Rattle.lines.specs.Parse.{first_newline}
use Rattle.capture.specs.declared.Fault.{Fault}
use Rattle.capture.specs.declared.Phase.{Phase}
use Rattle.capture.specs.declared.Phase.TheVariants.{ShapeNames, ShapeValues, WordNames, Words, Ended}
use Rattle.capture.specs.declared.Tally.{Tally}
use Rattle.capture.specs.declared.Judged.{Judged}
use Rattle.capture.specs.declared.Answer.{Answer}
use Rattle.capture.specs.Judge.{passed, judged_of}
use Rattle.capture.specs.declared.Counts.{Counts}
use Rattle.capture.specs.Output.{answers_text}
use Rattle.capture.specs.Counting.{counted_in}
use Rattle.capture.specs.Feed.{is_ended, Fed, after, feed, closing}
use Rattle.capture.proofs.Texts.{closing_in}

-- ---- one byte more
pub feed_none : (t : Tally) (held : List ℕ) → feed t held [] ≡ record { tally = t; held = held; answers = [] }
unfolding feed
feed_none t held = refl

-- after a line: its answer, and what the rest leads to
abbrev pub next : Judged → List ℕ → Fed
next j bytes = after (j.answer ∷ []) (feed j.tally [] bytes)

pub feed_end : (t : Tally) (held : List ℕ) (b : ℕ) (bytes : List ℕ) → eqb b newline ≡ true → feed t held (b ∷ bytes) ≡ next (judged_of t held) bytes
unfolding feed
feed_end t held b bytes h = rw (feed, h)

feed_byte : (t : Tally) (held : List ℕ) (b : ℕ) (bytes : List ℕ) → eqb b newline ≡ false → feed t held (b ∷ bytes) ≡ feed t (held ++ (b ∷ [])) bytes
unfolding feed
feed_byte t held b bytes h = rw (feed, h)

-- ---- bytes with no newline join the line
pub feed_run : (t : Tally) (run held bytes : List ℕ) → ((k : ℕ) → k < length run → get_or run k 0 ≡ newline → ⊥)
    → feed t held (run ++ bytes) ≡ feed t (held ++ run) bytes
feed_run t [] held bytes none = ap (λ (l : List ℕ). feed t l bytes) (sym (append-nil held))
feed_run t (b ∷ run) held bytes none =
    feed_byte t held b (run ++ bytes) (ne_eqb b newline (none 0 (zero-lt-suc (length run))))
    ∙ feed_run t run (held ++ (b ∷ [])) bytes (λ k l. none (suc k) (omega arith))
    ∙ ap (λ (l : List ℕ). feed t l bytes) (append_assoc held (b ∷ []) run)

pub after_after : (a b : List Answer) (r : Fed) → after (a ++ b) r ≡ after a (after b r)
after_after a b r = ap (λ (x : List Answer). record { tally = r.tally; held = r.held; answers = x }) (append_assoc a b r.answers)

-- ---- blocks one after the other are the whole input
pub feed_append : (a b : List ℕ) (t : Tally) (held : List ℕ)
    → feed t held (a ++ b) ≡ after (feed t held a).answers (feed (feed t held a).tally (feed t held a).held b)
feed_append [] b t held = rw (feed_none t held)
feed_append (x ∷ a) b t held =
    ⊎_elim
    (λ (h : eqb x newline ≡ true).
    let j = judged_of t held in
    feed_end t held x (a ++ b) h
    ∙ ap (after (j.answer ∷ [])) (feed_append a b j.tally [])
    ∙ sym (after_after (j.answer ∷ []) (feed j.tally [] a).answers (feed (feed j.tally [] a).tally (feed j.tally [] a).held b))
    ∙ ap (λ (r : Fed). after r.answers (feed r.tally r.held b)) (sym (feed_end t held x a h)))
    (λ (h : eqb x newline ≡ false).
    feed_byte t held x (a ++ b) h
    ∙ feed_append a b t (held ++ (x ∷ []))
    ∙ ap (λ (r : Fed). after r.answers (feed r.tally r.held b)) (sym (feed_byte t held x a h)))
    (either (eqb x newline))

-- ---- after a fault nothing more is written or counted
ended_judged : (t : Tally) (line : List ℕ) {f : Fault} → t.phase ≡ Ended f → judged_of t line ≡ passed (Ended f) t.session
unfolding judged_of
ended_judged t line h = rw h

pub ended_fault : (p : Phase) → is_ended p ≡ true → (f : Fault) × (p ≡ Ended f)
ended_fault ShapeNames h = absurd (clash h refl)
ended_fault ShapeValues h = absurd (clash h refl)
ended_fault WordNames h = absurd (clash h refl)
ended_fault Words h = absurd (clash h refl)
ended_fault (Ended f) h = (f, refl)

-- the fault stays, and no line is answered
pub record Silent (f : Fault) (r : Fed) : Type 0 where
  pub phase : r.tally.phase ≡ Ended f
  pub text : answers_text r.answers ≡ []
  pub counts : (c : Counts) → counted_in c r.answers ≡ c

pub ended_silent : (bytes : List ℕ) (t : Tally) (held : List ℕ) {f : Fault} → t.phase ≡ Ended f → Silent f (feed t held bytes)
unfolding answers_text counted_in
ended_silent [] t held h = rw (feed_none t held) (record { phase = h; text = refl; counts = λ c. refl })
ended_silent (b ∷ bytes) t held {f} h =
    ⊎_elim
    (λ (e : eqb b newline ≡ true).
    let rest = ended_silent bytes (passed (Ended f) t.session).tally [] refl in
    rw (feed_end t held b bytes e, ended_judged t held h) (record { phase = rest.phase; text = rest.text; counts = rest.counts }))
    (λ (e : eqb b newline ≡ false). rw (feed_byte t held b bytes e) (ended_silent bytes t (held ++ (b ∷ [])) h))
    (either (eqb b newline))

-- what is left to write after a fault: nothing
pub silent_closing : (t : Tally) (held : List ℕ) {f : Fault} → t.phase ≡ Ended f → closing t held ≡ []
silent_closing t held h = closing_in t held h

-- ---- a line has a byte at least: no more answers than bytes
pub feed_few : (bytes : List ℕ) (t : Tally) (held : List ℕ) → length (feed t held bytes).answers + length (feed t held bytes).held ≤ length held + length bytes
feed_few [] t held = rw (feed_none t held) (omega arith)
feed_few (b ∷ bytes) t held =
    ⊎_elim (λ (e : eqb b newline ≡ true). rw (feed_end t held b bytes e) (omega (arith, feed_few bytes (judged_of t held).tally [])))
    (λ (e : eqb b newline ≡ false). rw (feed_byte t held b bytes e) (omega (arith, feed_few bytes t (held ++ (b ∷ [])), length-append held (b ∷ []))))
    (either (eqb b newline))

-- ---- what is left of a block, up to its first newline
abbrev is_newline : ℕ → Bool
is_newline b = eqb b newline

pub newline_within : (rest : List ℕ) (size : ℕ) → first_newline rest ≡ Some size → size < length rest
newline_within rest size e = (position-Some is_newline rest size 0 e).0

module _ (t : Tally) (held rest : List ℕ) where
  -- no newline: all that is left joins the line
  pub feed_rest : first_newline rest ≡ None → feed t held rest ≡ record { tally = t; held = held ++ rest; answers = [] }
  feed_rest e =
      let n : ℕ = position_or_len is_newline rest in
      let all : length rest ≤ n =
      ⊎_elim (λ (h : ltb n (length rest) ≡ true). absurd (none-some n (sym e ∙ rw h))) (λ h. ltb-false n (length rest) h) (either (ltb n (length rest))) in
      ap (feed t held) (sym (append-nil rest))
      ∙ feed_run t rest held [] (λ k l h. clash (eq-eqb (get_or rest k 0) newline h) (fails_before_first is_newline rest k 0 (omega arith)))
      ∙ feed_none t (held ++ rest)

  -- a newline: the line is judged
  pub feed_line : (size : ℕ) → first_newline rest ≡ Some size → feed t held rest ≡ next (judged_of t (held ++ take size rest)) (drop (size + 1) rest)
  feed_line size e =
      let p = position-Some is_newline rest size 0 e in
      let piece = take size rest in
      let cut : rest ≡ piece ++ get_or rest size 0 ∷ drop (size + 1) rest =
      sym (take-append-drop size rest) ∙ ap (λ (l : List ℕ). piece ++ l) (rw (add-one size) (drop-cons rest size 0 p.0)) in
      let few : length piece ≡ size = length-take-le size rest (omega (arith, p.0)) in
      ap (feed t held) cut
      ∙ feed_run t piece held (get_or rest size 0 ∷ drop (size + 1) rest)
      (λ k l h.
      let m : k < size = rw few at l in
      clash (eq-eqb (get_or rest k 0) newline (sym (get_or-take size rest k 0 m) ∙ h)) (p.2 k m))
      ∙ feed_end t (held ++ piece) (get_or rest size 0) (drop (size + 1) rest) p.1
