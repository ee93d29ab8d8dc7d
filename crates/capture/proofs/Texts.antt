-- Texts written one after another at the end of the output that waits.
use mathlib.Core.Path.{◌≡◌, refl, sym, ap, ◌∙◌}
use mathlib.Core.List.{List, [], ◌∷◌, ◌++◌, map, append_assoc, append-nil}
use mathlib.Core.Logic.{⊎_elim}
use Prim.Native.Nat.{ℕ, zero, suc, ◌+◌, ◌*◌, ◌≤◌, ◌<◌}
use native.Mathlib.Numerals.{add-one}
use native.Mathlib.Omega.{arith}
use borrow.Author.Tests.{ltb-true, ltb-false, ne_eqb}
use lib.Dec.{eqb, ltb}
use lib.ListN.{length, get_or, take, drop, length-append, length-take, length-drop, drop_of_length-le}
use lib.Seq.{take_at, length-take-le, drop-cons}
use Rattle.parity.proofs.Tests.{either}
use Rattle.lines.specs.declared.Kind.{Kind}
use Rattle.lines.specs.declared.Kind.TheVariants as kind
use Rattle.lines.specs.Text.{count_text, outcome_text, Put, pasted}
use Rattle.session.specs.declared.Outcome.{Outcome}
use Rattle.session.specs.declared.Outcome.TheVariants.{Taken, Again, Refused}
use Rattle.session.specs.Arrival.{outcome_values}
use Rattle.capture.specs.declared.Phase.{Phase}
use Rattle.capture.specs.declared.Tally.{Tally}
use Rattle.capture.specs.declared.Answer.{Answer}
use Rattle.capture.specs.declared.Answer.TheVariants.{Word}
use Rattle.capture.specs.Output.{outcome_line, answer_text, answers_text, calls_from}
use Rattle.capture.specs.Feed.{last_in, table_in, closing}
use Rattle.capture.specs.Steps.{Appended, LineSoFar}
use Rattle.capture.specs.Print.{answer_lines}

-- a text written over the output that waits stands at its end
pub put_appended : {old text new : List ℕ} {at r : ℕ} → at + length text ≤ length old → Put old at text new r → Appended old at text new r
unfolding pasted
put_appended {old} {text} {new} {at} {r} fits p =
    record {
      size = rw p.written (simp (length-append, length-take, length-drop) (omega arith));
      next = p.next;
      front = rw (p.next, p.written) (take_at (take at old ++ text) (drop (at + length text) old) (at + length text) (rw (length-append, length-take-le at old (omega arith))));
    }

-- no text
pub appended_none : (old : List ℕ) (at : ℕ) → Appended old at [] old at
appended_none old at = record { size = refl; next = omega arith; front = sym (append-nil (take at old)) }

-- one text and then another
pub appended_both : {old a mid b new : List ℕ} {at m r : ℕ} → Appended old at a mid m → Appended mid m b new r → Appended old at (a ++ b) new r
appended_both {old} {a} {b = b} {at = at} p q =
    record {
      size = q.size ∙ p.size;
      next = rw (q.next, p.next, length-append) (omega arith);
      front = q.front ∙ rw p.front (append_assoc (take at old) a b);
    }

-- ---- the lines of the output
-- the kinds by number
abbrev pub numbered : ℕ → Kind
numbered zero = kind.Taken
numbered (suc zero) = kind.Again
numbered (suc (suc k)) = kind.Refused

-- the line of an outcome has its three values
pub outcome_values_lem : (r : Outcome) → outcome_line r ≡ outcome_text (numbered (get_or (outcome_values r) 0 0)) (get_or (outcome_values r) 1 0) (get_or (outcome_values r) 2 0)
unfolding outcome_line
outcome_values_lem (Taken number k) = refl
outcome_values_lem (Again number k) = refl
outcome_values_lem (Refused e) = refl

pub put_line_lem : {old text new : List ℕ} {at r : ℕ} → at + 40 ≤ length old → Put old at text new r × (r ≤ at + 30) → Appended old at text new r × (r ≤ at + 30)
put_line_lem fits p = (put_appended (omega (arith, p.0.next, p.1)) p.0, p.1)

-- answers one after the other
pub answers_append : (a b : List Answer) → answers_text (a ++ b) ≡ answers_text a ++ answers_text b
unfolding answers_text
answers_append [] b = refl
answers_append (x ∷ a) b = ap (λ (t : List ℕ). answer_text x ++ t) (answers_append a b) ∙ sym (append_assoc (answer_text x) (answers_text a) (answers_text b))

pub answers_one : (a : Answer) → answers_text (a ∷ []) ≡ answer_text a
unfolding answers_text
answers_one a = append-nil (answer_text a)

pub answers_words : (rs : List Outcome) → answers_text (map Word rs) ≡ answer_lines rs
unfolding answers_text answer_lines
answers_words [] = refl
answers_words (r ∷ rs) = ap (λ (t : List ℕ). outcome_line r ++ t) (answers_words rs)

-- ---- the counts
module _ (f : ℕ) (calls : List ℕ) (l : f < length calls) where
  calls_none : get_or calls f 0 ≡ 0 → calls_from f (drop f calls) ≡ calls_from (f + 1) (drop (f + 1) calls)
  unfolding calls_from
  calls_none e = rw (drop-cons calls f 0 l, e, add-one f)

  calls_some : (get_or calls f 0 ≡ 0 → ⊥) → calls_from f (drop f calls) ≡ count_text f (get_or calls f 0) ++ calls_from (f + 1) (drop (f + 1) calls)
  unfolding calls_from
  calls_some e = rw (drop-cons calls f 0 l, ne_eqb (get_or calls f 0) 0 e, add-one f)

-- the counts of the functions below f have been written: with what is left after them, all is
pub record Counting (old : List ℕ) (at : ℕ) (calls out : List ℕ) (next f : ℕ) : Type 0 where
  pub size : length out ≡ length old
  pub short : next ≤ at + 22 * f
  pub left : (new : List ℕ) (r : ℕ) → Appended out next (calls_from f (drop f calls)) new r → Appended old at (calls_from 0 calls) new r

pub counting_begins : (old : List ℕ) (at : ℕ) (calls : List ℕ) → Counting old at calls old at 0
counting_begins old at calls = record { size = refl; short = omega arith; left = λ new r p. p }

pub counting_passes : {old calls out : List ℕ} {at next f : ℕ} → f < length calls → get_or calls f 0 ≡ 0 → Counting old at calls out next f
    → Counting old at calls out next (f + 1)
counting_passes {calls = calls} {f = f} l e h = record { size = h.size; short = omega arith; left = λ new r p. h.left new r (rw (calls_none f calls l e) p) }

pub counting_writes : {old calls out out' : List ℕ} {at next next' f : ℕ} → f < length calls → (get_or calls f 0 ≡ 0 → ⊥) → next + 22 ≤ length out
    → Put out next (count_text f (get_or calls f 0)) out' next' → next' ≤ next + 22 → Counting old at calls out next f → Counting old at calls out' next' (f + 1)
counting_writes {calls = calls} {f = f} l e fits p few h =
    let q = put_appended (omega (arith, p.next)) p in
    record {
      size = q.size ∙ h.size;
      short = omega arith;
      left = λ new r s. h.left new r (rw (calls_some f calls l e) (appended_both q s));
    }

pub counting_ends : {old calls out : List ℕ} {at next f : ℕ} → length calls ≤ f → f ≤ 256 → Counting old at calls out next f → Appended old at (calls_from 0 calls) out next × (next ≤ at + 5632)
unfolding calls_from
counting_ends {calls = calls} {out} {next = next} {f = f} l m h = (h.left out next (rw (drop_of_length-le calls {i = f} l) (appended_none out next)), omega (arith, h.short))

-- ---- the end of the input
pub closing_in : (t : Tally) (line : List ℕ) {p : Phase} → t.phase ≡ p → closing t line ≡ answer_text (last_in p (eqb (length line) 0)) ++ table_in p t.session.calls
unfolding closing
closing_in t line e = rw e

-- the line so far is empty when nothing is held
pub held_none : {buffer line : List ℕ} {held : ℕ} → LineSoFar buffer held line → eqb held 0 ≡ eqb (length line) 0
held_none {buffer} {line} {held} h =
    ⊎_elim
    (λ s. rw (← h.kept (ltb-true held 16384 s), length-take-le held buffer (omega (arith, ltb-true held 16384 s, h.size))))
    (λ s. let far = ltb-false held 16384 s in ne_eqb held 0 (λ e. omega arith) ∙ sym (ne_eqb (length line) 0 (λ e. omega (arith, h.long far))))
    (either (ltb held 16384))
