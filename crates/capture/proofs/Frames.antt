-- The line so far, in its buffer, and a block taken line by line.
use Rattle.std.specs.Prelude.{Some, None}
use mathlib.Core.Path.{◌≡◌, refl, sym, ap, ◌∙◌, subst}
use mathlib.Core.Logic.{⊎_elim}
use mathlib.Core.Bool.{true, false}
use mathlib.Core.List.{List, [], ◌∷◌, ◌++◌, append-nil}
use Prim.Native.Nat.{ℕ, ◌+◌, ◌-◌, ◌*◌, ◌≤◌, ◌<◌}
use native.Mathlib.Omega.{arith}
use borrow.Author.Tests.{ltb-true, ltb-false}
use lib.Dec.{ltb}
use lib.ListN.{length, take, drop, length-append, length-drop}
use lib.Seq.{take_all, length-take-le}
use Rattle.parity.proofs.Tests.{either}
use Rattle.lines.specs.Text.{Put}
use Rattle.lines.specs.Parse.{first_newline}
use Rattle.session.specs.Session.{Consistent}
use Rattle.capture.specs.declared.Tally.{Tally}
use Rattle.capture.specs.declared.Judged.{Judged}
use Rattle.capture.specs.declared.Answer.{Answer}
use Rattle.capture.specs.declared.Counts.{Counts}
use Rattle.capture.specs.declared.Reader.{Reader}
use Rattle.capture.specs.Output.{answer_text, answers_text}
use Rattle.capture.specs.Counting.{counted, counted_in}
use Rattle.capture.specs.Judge.{judged_of}
use Rattle.capture.specs.Feed.{Fed, after, feed}
use Rattle.capture.specs.Steps.{Appended, LineSoFar, Extended, End, LineEnded, BlockTaken}
use Rattle.capture.proofs.Sessions.{judged_consistent}
use Rattle.capture.proofs.Texts.{put_appended, appended_none, appended_both, answers_append, answers_one}
use Rattle.capture.proofs.Judges.{long_judged}
use Rattle.capture.proofs.Feeds.{after_after, newline_within, feed_rest, feed_line}

-- ---- bytes join the line
module _ {buffer : List ℕ} {held : ℕ} (bytes : List ℕ) (full : length buffer ≡ 16384) where
  held_length : (line : List ℕ) → LineSoFar buffer held line → held < 16384 → length line ≡ held
  held_length line h l = ap length (sym (h.kept l)) ∙ length-take-le held buffer (omega arith)

  -- it is too long by now, or was so before
  pub extended_over : 16383 < held + length bytes → Extended buffer held bytes buffer 16384
  extended_over l =
      record {
        joined = λ line h.
            record {
              size = full;
              kept = λ m. absurd (omega arith);
              long = λ _.
                  rw length-append
                  (⊎_elim (λ (b : ltb held 16384 ≡ true). omega (arith, held_length line h (ltb-true held 16384 b))) (λ (b : ltb held 16384 ≡ false). omega (arith, h.long (ltb-false held 16384 b)))
                  (either (ltb held 16384)));
            };
        size = full;
      }

  -- it is not
  pub extended_put : {buffer' : List ℕ} {r : ℕ} → held + length bytes ≤ 16383 → Put buffer held bytes buffer' r → Extended buffer held bytes buffer' r
  extended_put {buffer'} {r} l p =
      let a = put_appended (omega arith) p in
      let size : length buffer' ≡ 16384 = a.size ∙ full in
      record {
        joined = λ line h.
            record {
              size = size;
              kept = λ _. a.front ∙ ap (λ (x : List ℕ). x ++ bytes) (h.kept (omega arith));
              long = λ k. absurd (omega (arith, a.next));
            };
        size = size;
      }

-- ---- the line is judged: all of it, or nothing where it is too long
pub end_few : {held end : ℕ} → End held end → end < 16384
end_few {held} {end} e =
    ⊎_elim (λ (b : ltb held 16384 ≡ true). let l = ltb-true held 16384 b in omega (arith, e.short l)) (λ (b : ltb held 16384 ≡ false). omega (arith, e.long (ltb-false held 16384 b))) (either (ltb held 16384))

pub judged_held : (t : Tally) {buffer line : List ℕ} {held end : ℕ} → End held end → LineSoFar buffer held line → judged_of t (take end buffer) ≡ judged_of t line
judged_held t {buffer} {line} {held} {end} e h =
    ⊎_elim
    (λ (b : ltb held 16384 ≡ true).
    let l = ltb-true held 16384 b in
    ap (λ (k : ℕ). judged_of t (take k buffer)) (e.short l) ∙ ap (judged_of t) (h.kept l))
    (λ (b : ltb held 16384 ≡ false).
    let l = ltb-false held 16384 b in
    ap (λ (k : ℕ). judged_of t (take k buffer)) (e.long l) ∙ sym (long_judged t line (h.long l)))
    (either (ltb held 16384))

pub line_ended : (reader : Reader) {buffer out out' : List ℕ} {end at : ℕ} {counts : Counts} {j : Judged} → Consistent reader.tally.session → j ≡ judged_of reader.tally (take end buffer)
    → Appended out reader.at (answer_text j.answer) out' at → counts ≡ counted reader.counts j.answer → at ≤ reader.at + 30
    → LineEnded reader buffer end out out' (record { tally = j.tally; held = 0; at = at; counts = counts })
line_ended reader {buffer} {out} {out'} {end} {at} {counts} right is a n few = record {
  tally = ap (λ (x : Judged). x.tally) is;
  output = subst (λ (x : Judged). Appended out reader.at (answer_text x.answer) out' at) is a;
  counts = subst (λ (x : Judged). counts ≡ counted reader.counts x.answer) is n;
  figures = subst (λ (x : Judged). Consistent x.tally.session) (sym is) (judged_consistent reader.tally (take end buffer) right);
  empty = refl;
  short = few;
}

-- ---- a block, of which `rest` is left
-- the line so far and the answers so far; what is left leads to the same end
pub record Left (fed : Fed) (reader₀ : Reader) (out₀ buffer out : List ℕ) (reader : Reader) (rest : List ℕ) : Type 0 where
  pub line : List ℕ
  pub held : LineSoFar buffer reader.held line
  pub answers : List Answer
  pub same : after answers (feed reader.tally line rest) ≡ fed
  pub output : Appended out₀ reader₀.at (answers_text answers) out reader.at
  pub counts : reader.counts ≡ counted_in reader₀.counts answers

pub record Reading (reader₀ : Reader) (buffer₀ block out₀ buffer out : List ℕ) (reader : Reader) (rest : List ℕ) : Type 0 where
  pub left : (line : List ℕ) → LineSoFar buffer₀ reader₀.held line → Left (feed reader₀.tally line block) reader₀ out₀ buffer out reader rest
  pub figures : Consistent reader.tally.session
  pub few : reader.at + 30 * length rest ≤ reader₀.at + 30 * length block
  pub buffer_size : length buffer ≡ 16384
  pub out_size : length out ≡ length out₀

-- none yet
pub reading_begins : (reader : Reader) (buffer block out : List ℕ) → Consistent reader.tally.session → length buffer ≡ 16384
    → Reading reader buffer block out buffer out reader block
unfolding answers_text counted_in
reading_begins reader buffer block out right b =
    record {
      left = λ line h. record { line = line; held = h; answers = []; same = refl; output = appended_none out reader.at; counts = refl };
      figures = right;
      few = omega arith;
      buffer_size = b;
      out_size = refl;
    }

-- all that is behind a place
pub rest_tail : (n : ℕ) (bytes : List ℕ) → take (length bytes - n) (drop n bytes) ≡ drop n bytes
rest_tail n bytes = take_all (length bytes - n) (drop n bytes) (omega (arith, length-drop n bytes))

counted_one : (c : Counts) (answers : List Answer) (a : Answer) → counted_in c (answers ++ (a ∷ [])) ≡ counted (counted_in c answers) a
unfolding counted_in
counted_one c [] a = refl
counted_one c (x ∷ answers) a = counted_one (counted c x) answers a

module _ {reader₀ : Reader} {buffer₀ block out₀ buffer out : List ℕ} {reader : Reader} {rest : List ℕ}
    (r : Reading reader₀ buffer₀ block out₀ buffer out reader rest) where
  -- the line with more bytes
  abbrev grown : ℕ → Reader
  grown held' = record { tally = reader.tally; held = held'; at = reader.at; counts = reader.counts }

  -- the last piece
  pub block_taken : {buffer' : List ℕ} {held' : ℕ} → first_newline rest ≡ None → Extended buffer reader.held rest buffer' held' → length block ≤ 16384 → BlockTaken reader₀ reader₀.at buffer₀ block out₀ buffer' out (grown held')
  block_taken {buffer'} {held'} none x few =
      record {
        fed = λ line h.
            let l = r.left line h in
            let end = ap (after l.answers) (sym (feed_rest reader.tally l.line rest none)) ∙ l.same in
            let given : l.answers ≡ (feed reader₀.tally line block).answers = sym (append-nil l.answers) ∙ ap (λ (y : Fed). y.answers) end in
            record {
              tally = ap (λ (y : Fed). y.tally) end;
              held = subst (LineSoFar buffer' held') (ap (λ (y : Fed). y.held) end) (x.joined l.line l.held);
              output = subst (λ (a : List Answer). Appended out₀ reader₀.at (answers_text a) out reader.at) given l.output;
              counts = l.counts ∙ ap (counted_in reader₀.counts) given;
            };
        figures = r.figures;
        within = omega (arith, r.few);
        line = x.size;
        size = r.out_size;
      }

  -- a line, and on with the byte after its newline
  pub reading_on : {size held' end : ℕ} {buffer' out' : List ℕ} {reader' : Reader} → first_newline rest ≡ Some size → Extended buffer reader.held (take size rest) buffer' held' → End held' end → LineEnded (grown held') buffer' end out out' reader'
      → Reading reader₀ buffer₀ block out₀ buffer' out' reader' (drop (size + 1) rest)
  reading_on {size} {held'} {end} {buffer'} {out'} {reader'} found x upto e =
      record {
        left = λ line h.
            let l = r.left line h in
            let line' = l.line ++ take size rest in
            let j = judged_of reader.tally line' in
            let same : judged_of reader.tally (take end buffer') ≡ j = judged_held reader.tally upto (x.joined l.line l.held) in
            let more = drop (size + 1) rest in
            record {
              line = [];
              held = record { size = x.size; kept = λ _. ap (λ (k : ℕ). take k buffer') e.empty; long = λ m. absurd (omega (arith, e.empty)) };
              answers = l.answers ++ (j.answer ∷ []);
              same =
                  ap (λ (t : Tally). after (l.answers ++ (j.answer ∷ [])) (feed t [] more)) (e.tally ∙ ap (λ (y : Judged). y.tally) same)
                  ∙ after_after l.answers (j.answer ∷ []) (feed j.tally [] more)
                  ∙ ap (after l.answers) (sym (feed_line reader.tally l.line rest size found))
                  ∙ l.same;
              output =
                  subst (λ (t : List ℕ). Appended out₀ reader₀.at t out' reader'.at)
                  (ap (λ (y : Judged). answers_text l.answers ++ answer_text y.answer) same ∙ ap (λ (t : List ℕ). answers_text l.answers ++ t) (sym (answers_one j.answer)) ∙ sym (answers_append l.answers (j.answer ∷ [])))
                  (appended_both l.output e.output);
              counts =
                  e.counts ∙ ap (λ (y : Judged). counted reader.counts y.answer) same ∙ ap (λ (c : Counts). counted c j.answer) l.counts
                  ∙ sym (counted_one reader₀.counts l.answers j.answer);
            };
        figures = e.figures;
        few = simp length-drop (omega (arith, r.few, e.short, newline_within rest size found));
        buffer_size = x.size;
        out_size = e.output.size ∙ r.out_size;
      }
