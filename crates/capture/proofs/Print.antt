-- A capture fed line by line: the answer to each word line, and the session that it leaves.
use mathlib.Core.Path.{◌≡◌, refl, sym, ap, ◌∙◌, subst}
use mathlib.Core.Bool.{not}
use mathlib.Core.List.{List, [], ◌∷◌, ◌++◌, map, append_assoc, append-nil}
use Prim.Native.Nat.{ℕ, zero, suc, ◌*◌, ◌^◌, ◌<◌, ◌≤◌, suc-le-suc}
use native.Mathlib.Nat.{not-suc-le-zero, le_of_suc-le-suc, zero-lt-suc}
use native.Mathlib.Omega.{arith}
use borrow.Author.Tests.{ne_eqb, eqb-false, not-true}
use lib.Dec.{eqb}
use lib.ListN.{length, get_or, length-append}
use Rattle.parity.proofs.Tests.{and_left, and_right, and_both}
use Rattle.gtb.specs.declared.Shape.{Shape}
use Rattle.gtb.specs.Shape.{Lawful, standard}
use Rattle.gtb.proofs.Bounds.{bounds}
use Rattle.lines.specs.Text.{newline, space, decimal, spell, names_shape, names_word}
use Rattle.lines.specs.Content.{Content, Spelled, Unreadable, content_of}
use Rattle.lines.proofs.Decimals.{AllDigits, decimal_digits, at_most_ten}
use Rattle.lines.proofs.Contents.{content_spelled}
use Rattle.session.specs.declared.Session.{Session}
use Rattle.session.specs.declared.Outcome.{Outcome}
use Rattle.session.specs.declared.Arrived.{Arrived}
use Rattle.session.specs.Session.{Consistent, fresh_of}
use Rattle.session.specs.Arrival.{the_ways, outcome_of, session_after}
use Rattle.session.specs.Recording.{Arrival}
use Rattle.session.specs.Claim.{Run, stop, step}
use Rattle.session.proofs.Arrive.{step_arrives}
use Rattle.session.proofs.Alikes.{shape_kept}
use Rattle.capture.specs.declared.Phase.{Phase}
use Rattle.capture.specs.declared.Phase.TheVariants.{ShapeValues, WordNames, Words}
use Rattle.capture.specs.declared.Tally.{Tally}
use Rattle.capture.specs.declared.Answer.TheVariants.{Nothing, Word}
use Rattle.capture.specs.declared.Judged.{Judged}
use Rattle.capture.specs.Judge.{line_content, passed, brought_by, judged_of, start}
use Rattle.capture.specs.Feed.{after, feed}
use Rattle.capture.specs.Print.{is_unbroken, Unbroken, line_at, lines_text, capture_text, joining, arrivals_in}
use Rattle.capture.proofs.Sessions.{word_consistent}
use Rattle.capture.proofs.Judges.{kept_short, names_right, word_right, shape_right}
use Rattle.capture.proofs.Feeds.{next, feed_none, feed_end, feed_run, after_after}

-- ---- texts without a newline
pub unbroken_append : (a b : List ℕ) → Unbroken a → Unbroken b → Unbroken (a ++ b)
unbroken_append [] b h k = k
unbroken_append (x ∷ a) b h k = and_both (and_left (not (eqb x newline)) (is_unbroken a) h) (unbroken_append a b (and_right (not (eqb x newline)) (is_unbroken a) h) k)

digits_unbroken : (l : List ℕ) → AllDigits l → Unbroken l
digits_unbroken [] h = refl
digits_unbroken (b ∷ l) h = and_both (ap not (ne_eqb b newline (λ e. omega (arith, h.0.low)))) (digits_unbroken l h.1)

pub decimal_unbroken : (n : ℕ) → Unbroken (decimal n)
decimal_unbroken n = digits_unbroken (decimal n) (decimal_digits n)

pub unbroken_none : (l : List ℕ) → Unbroken l → (i : ℕ) → i < length l → get_or l i 0 ≡ newline → ⊥
unbroken_none [] h i l e = not-suc-le-zero l
unbroken_none (b ∷ t) h zero l e = eqb-false b newline (not-true (eqb b newline) (and_left (not (eqb b newline)) (is_unbroken t) h)) e
unbroken_none (b ∷ t) h (suc i) l e = unbroken_none t (and_right (not (eqb b newline)) (is_unbroken t) h) i (le_of_suc-le-suc l) e

-- values spelled
pub spell_unbroken : (xs : List ℕ) → Unbroken (spell xs)
unfolding spell
spell_unbroken [] = refl
spell_unbroken (x ∷ []) = decimal_unbroken x
spell_unbroken (x ∷ (y ∷ ys)) = unbroken_append (decimal x) (space ∷ spell (y ∷ ys)) (decimal_unbroken x) (spell_unbroken (y ∷ ys))

-- ---- the line of some values
-- values below 2^32 take at most 11 bytes each
spell_short : (xs : List ℕ) → ((i : ℕ) → i < length xs → get_or xs i 0 < 2 ^ 32) → length (spell xs) ≤ 11 * length xs
unfolding spell
spell_short [] h = omega arith
spell_short (x ∷ []) h = omega (arith, at_most_ten x (h 0 (omega arith)))
spell_short (x ∷ (y ∷ ys)) h =
    rw length-append (omega (arith, at_most_ten x (h 0 (omega arith)), spell_short (y ∷ ys) (λ i l. h (suc i) (suc-le-suc l))))

-- 961 of them, the most that a word has, fit a line
pub word_short : (xs : List ℕ) → length xs ≤ 961 → ((i : ℕ) → i < length xs → get_or xs i 0 < 2 ^ 32) → length (spell xs) < 16384
word_short xs few small = omega (arith, spell_short xs small)

-- so their line says them
pub word_content : (xs : List ℕ) → 0 < length xs → length xs ≤ 961 → ((i : ℕ) → i < length xs → get_or xs i 0 < 2 ^ 32) → line_content (spell xs) ≡ Spelled xs
word_content xs some few small =
    ap content_of (kept_short (spell xs) (word_short xs few small)) ∙ content_spelled (spell xs) xs (record { some = some; small = small; text = refl })

-- ---- one line
feed_first : (t : Tally) (line : List ℕ) (lines : List (List ℕ)) (cut : List ℕ) → Unbroken line
    → feed t [] (lines_text (line ∷ lines) ++ cut) ≡ next (judged_of t line) (lines_text lines ++ cut)
unfolding lines_text
feed_first t line lines cut u =
    ap (feed t []) (append_assoc line (newline ∷ lines_text lines) cut)
    ∙ feed_run t line [] (newline ∷ (lines_text lines ++ cut)) (unbroken_none line u)
    ∙ feed_end t line newline (lines_text lines ++ cut) refl

-- ---- the first three lines
-- a line that is passed over is answered with nothing
line_passed : (t : Tally) (line : List ℕ) (lines : List (List ℕ)) (cut : List ℕ) (phase : Phase) (σ : Session) → Unbroken line → judged_of t line ≡ passed phase σ
    → feed t [] (lines_text (line ∷ lines) ++ cut) ≡ after (Nothing ∷ []) (feed (record { phase = phase; session = σ }) [] (lines_text lines ++ cut))
line_passed t line lines cut phase σ u e = feed_first t line lines cut u ∙ ap (λ (j : Judged). next j (lines_text lines ++ cut)) e

module _ (q n b : ℕ) (law : Lawful (standard q n b)) where
  abbrev values : List ℕ
  values = q ∷ n ∷ b ∷ []

  small : (q < 2 ^ 32) × (n < 2 ^ 32) × (b < 2 ^ 32)
  small =
      let k = bounds (standard q n b) law in
      (omega (arith, k.q31), omega (arith, k.n8), omega (arith, k.b32))

  pub each_small : (i : ℕ) → i < 3 → get_or values i 0 < 2 ^ 32
  each_small zero l = small.0
  each_small (suc zero) l = small.1
  each_small (suc (suc zero)) l = small.2
  each_small (suc (suc (suc i))) l = absurd (omega arith)

  pub feed_shape : (lines : List (List ℕ)) (cut : List ℕ)
      → feed start [] (capture_text q n b lines cut)
      ≡ after (Nothing ∷ Nothing ∷ Nothing ∷ []) (feed (record { phase = Words; session = fresh_of (standard q n b) }) [] (lines_text lines ++ cut))
  unfolding capture_text
  feed_shape lines cut =
      let s : Shape = standard q n b in
      line_passed start names_shape (spell values ∷ names_word ∷ lines) cut ShapeValues start.session refl names_right
      ∙ ap (after (Nothing ∷ [])) (line_passed (record { phase = ShapeValues; session = start.session }) (spell values) (names_word ∷ lines) cut WordNames (fresh_of s) (spell_unbroken values) (shape_right start.session (spell values) values (word_content values (omega arith) (omega arith) each_small) refl law)
      ∙ ap (after (Nothing ∷ [])) (line_passed (record { phase = WordNames; session = fresh_of s }) names_word lines cut Words (fresh_of s) refl (word_right (fresh_of s))))

-- ---- the word lines

abbrev words : Session → Tally
words σ = record { phase = Words; session = σ }

-- the answer to what a line says, and the session after it
abbrev pub replied : Session → Content → Outcome
replied σ c = outcome_of σ (brought_by σ.shape c)

abbrev pub left : Session → Content → Session
left σ c = session_after σ (brought_by σ.shape c)

word_judged : (σ : Session) (line : List ℕ)
    → judged_of (words σ) line ≡ record { tally = words (left σ (line_content line)); answer = Word (replied σ (line_content line)) }
unfolding judged_of
word_judged σ line = refl

-- one line after the other
abbrev pub answers_to : Session → List (List ℕ) → List Outcome
answers_to σ [] = []
answers_to σ (line ∷ lines) = replied σ (line_content line) ∷ answers_to (left σ (line_content line)) lines

abbrev pub end_of : Session → List (List ℕ) → Session
end_of σ [] = σ
end_of σ (line ∷ lines) = end_of (left σ (line_content line)) lines

pub feed_lines : (lines : List (List ℕ)) (σ : Session) (cut : List ℕ) → ((i : ℕ) → i < length lines → Unbroken (line_at lines i))
    → feed (words σ) [] (lines_text lines ++ cut) ≡ after (map Word (answers_to σ lines)) (feed (words (end_of σ lines)) [] cut)
unfolding lines_text
feed_lines [] σ cut u = refl
feed_lines (line ∷ lines) σ cut u =
    let c : Content = line_content line in
    let τ : Session = left σ c in
    feed_first (words σ) line lines cut (u 0 (zero-lt-suc (length lines)))
    ∙ ap (λ (j : Judged). next j (lines_text lines ++ cut)) (word_judged σ line)
    ∙ ap (after (Word (replied σ c) ∷ [])) (feed_lines lines τ cut (λ i l. u (suc i) (suc-le-suc l)))
    ∙ sym (after_after (Word (replied σ c) ∷ []) (map Word (answers_to τ lines)) (feed (words (end_of τ lines)) [] cut))

-- what stands after the last newline is held
pub feed_cut : (t : Tally) (cut : List ℕ) → Unbroken cut → feed t [] cut ≡ record { tally = t; held = cut; answers = [] }
feed_cut t cut u = ap (feed t []) (sym (append-nil cut)) ∙ feed_run t cut [] [] (unbroken_none cut u) ∙ feed_none t cut

pub answers_number : (lines : List (List ℕ)) (σ : Session) → length (answers_to σ lines) ≡ length lines
answers_number [] σ = refl
answers_number (line ∷ lines) σ = ap suc (answers_number lines (left σ (line_content line)))

-- ---- the readable lines are a run

-- an unreadable line has no part in it
abbrev pub joins : Content → Outcome → List Outcome → List Outcome
joins (Spelled xs) r rest = r ∷ rest
joins Unreadable r rest = rest

abbrev pub replies_to : Session → List (List ℕ) → List Outcome
replies_to σ [] = []
replies_to σ (line ∷ lines) = joins (line_content line) (replied σ (line_content line)) (replies_to (left σ (line_content line)) lines)

left_shape : (σ : Session) (c : Content) → (left σ c).shape ≡ σ.shape
left_shape σ c = shape_kept σ (brought_by σ.shape c)

-- the program steps past test 11, which a session with right figures passes
content_run : (σ : Session) → Consistent σ → (c : Content) {arrivals : List Arrival} {answers : List Outcome} {end : Session}
    → Run the_ways (left σ c) arrivals answers end → Run the_ways σ (joining σ.shape c arrivals) (joins c (replied σ c) answers) end
unfolding session_after
content_run σ right (Spelled xs) run =
    let r : Arrived = record { session = left σ (Spelled xs); outcome = replied σ (Spelled xs) } in
    step {r = r} (step_arrives the_ways σ 0 right (record { outcome = refl; session = refl; word_left = refl; scratch_left = refl })) run
content_run σ right Unreadable run = run

pub lines_run : (s : Shape) (lines : List (List ℕ)) (σ : Session) → σ.shape ≡ s → Consistent σ
    → Run the_ways σ (arrivals_in s lines) (replies_to σ lines) (end_of σ lines)
unfolding arrivals_in
lines_run s [] σ same right = stop
lines_run s (line ∷ lines) σ same right =
    let c : Content = line_content line in
    subst (λ (x : Shape). Run the_ways σ (joining x c (arrivals_in s lines)) (replies_to σ (line ∷ lines)) (end_of σ (line ∷ lines))) same
    (content_run σ right c (lines_run s lines (left σ c) (left_shape σ c ∙ same) (word_consistent σ c right)))
