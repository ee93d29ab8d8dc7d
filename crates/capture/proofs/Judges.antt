-- One line judged: the cases of the definitions.
use mathlib.Core.Path.{◌≡◌, refl, sym, ap, ◌∙◌}
use mathlib.Core.Logic.{⊎_elim}
use mathlib.Core.Bool.{Bool, true, false, ◌&&◌}
use mathlib.Core.List.{List, [], ◌∷◌}
use Prim.Native.Nat.{ℕ, ◌+◌, ◌-◌, ◌≤◌, ◌<◌}
use native.Mathlib.Omega.{arith}
use borrow.Author.Tests.{lt-ltb, le-ltb, ne_eqb, eq-eqb, eqb-true, eqb-false}
use lib.Dec.{eqb, ltb}
use lib.ListN.{length, get_or, take, drop, drop_of_length-le, replicate, length-replicate}
use lib.Seq.{length-take-le, get_or-take, ext_get_or}
use Rattle.std.specs.Str.{bytes_eq}
use Rattle.std.proofs.lemmas.List.{drop_more}
use Rattle.std.proofs.lemmas.Slice.Eq.{bytes_eq-Decides}
use Rattle.parity.proofs.Tests.{either}
use Rattle.gtb.specs.declared.Shape.{Shape}
use Rattle.gtb.specs.declared.Refusal.{Refusal}
use Rattle.gtb.specs.Shape.{shape_refusal, lawful, Lawful, word_length, scratch_length, standard}
use Rattle.gtb.proofs.Sizes.{sizes}
use Rattle.lines.specs.Text.{same_bytes, names_shape, names_word}
use Rattle.lines.specs.Content.{Content, Spelled, Unreadable, content_of}
use Rattle.lines.specs.Parse.{Stored}
use Rattle.lines.proofs.Same.{tested_same}
use Rattle.lines.proofs.Contents.{content_spelled}
use Rattle.session.specs.declared.Session.{Session}
use Rattle.session.specs.Session.{fresh_of, fresh_status}
use Rattle.session.specs.Arrival.{is_way, way_of, Bad, opened}
use Rattle.session.specs.Steps.{opened_by}
use Rattle.capture.specs.declared.Expected.TheVariants as expected
use Rattle.capture.specs.declared.Fault.{Fault}
use Rattle.capture.specs.declared.Phase.TheVariants.{ShapeValues, WordNames, Words}
use Rattle.capture.specs.declared.Tally.{Tally}
use Rattle.capture.specs.declared.Judged.{Judged}
use Rattle.capture.specs.Judge.{line_content, order_mark, carriage_return, is_marked, is_returned, kept_of, fault_in, passed, fault, begun, shape_in, shaped, worded, brought_by, judged_of, start}

-- ---- lines by length
pub kept_short : (line : List ℕ) → length line < 16384 → kept_of line ≡ line
unfolding kept_of
kept_short line l = rw (lt-ltb (length line) 16384 l)

-- a line too long is judged as an empty one is
pub long_judged : (t : Tally) (line : List ℕ) → 16384 ≤ length line → judged_of t line ≡ judged_of t []
unfolding judged_of kept_of
long_judged t line l = rw (le-ltb (length line) 16384 l)

-- and is none of the name lines
kept_differs : (line names : List ℕ) → same_bytes line names ≡ false → same_bytes [] names ≡ false → same_bytes (kept_of line) names ≡ false
unfolding kept_of
kept_differs line names h none = ⊎_elim (λ (b : ltb (length line) 16384 ≡ true). rw b h) (λ (b : ltb (length line) 16384 ≡ false). rw b none) (either (ltb (length line) 16384))

-- ---- the first three lines
-- what a line at fault has at its ends
pub marked_is : {r : Bool} (line : List ℕ) → r ≡ bytes_eq order_mark (take 3 line) → r ≡ is_marked line
unfolding is_marked
marked_is {r} line h =
    let d = bytes_eq-Decides order_mark (take 3 line) in
    h ∙ tested_same _ (take 3 line) order_mark (λ t. sym (d.0 t), λ e. d.1 (sym e))

returned_at : {r : Bool} (line : List ℕ) (n : ℕ) → n < length line → length line ≤ n + 1 → r ≡ bytes_eq (carriage_return ∷ []) (drop n line) → r ≡ eqb (get_or line n 0) carriage_return
returned_at {r} line n l m h =
    let last = get_or line n 0 in
    let end : drop n line ≡ last ∷ [] = drop_more line n 0 l ∙ ap (λ (rest : List ℕ). last ∷ rest) (drop_of_length-le line m) in
    let test = h ∙ ap (bytes_eq (carriage_return ∷ [])) end in
    ⊎_elim
    (λ (t : eqb last carriage_return ≡ true). rw t (test ∙ ap (λ (b : ℕ). bytes_eq (carriage_return ∷ []) (b ∷ [])) (eqb-true last carriage_return t)))
    (λ (f : eqb last carriage_return ≡ false). rw f (test ∙ ap (λ (x : Bool). x && true) (ne_eqb carriage_return last (λ e. eqb-false last carriage_return f (sym e)))))
    (either (eqb last carriage_return))

pub returned_is : {r : Bool} (line : List ℕ) → r ≡ bytes_eq (carriage_return ∷ []) (drop (length line - 1) line) → r ≡ is_returned line
unfolding is_returned
returned_is [] h = h
returned_is (b ∷ line) h = returned_at (b ∷ line) _ (omega arith) (omega arith) h

module _ {line stored : List ℕ} {count : ℕ} (h : Stored line stored count) where
  pub says : content_of line ≡ Spelled h.values
  says = content_spelled line h.values h.spelled

  pub shaped_other : (σ : Session) {f : Fault} {r : Judged} → (count ≡ 3 → ⊥) → f ≡ fault_in expected.ShapeValues line → r ≡ fault σ f Refusal.Syntax → r ≡ shaped σ line (content_of line)
  shaped_other σ ne f e = rw (says, ne_eqb (length h.values) 3 (λ z. ne (sym h.counted ∙ z))) (rw f at e)

  pub shaped_three : (σ : Session) {f : Fault} {r : Judged} → count ≡ 3 → f ≡ fault_in expected.Shape line
      → r ≡ begun σ (standard (get_or stored 0 0) (get_or stored 1 0) (get_or stored 2 0)) (fresh_status (standard (get_or stored 0 0) (get_or stored 1 0) (get_or stored 2 0))) f
      → r ≡ shaped σ line (content_of line)
  shaped_three σ three f e =
      rw (says, eq-eqb (length h.values) 3 (h.counted ∙ three), ← h.kept 0 (omega arith) (omega arith), ← h.kept 1 (omega arith) (omega arith), ← h.kept 2 (omega arith) (omega arith)) (rw f at e)

  -- the values that are stored are all of them, unless there are too many
  word_stored : length stored ≡ 1024 → count ≤ 1024 → take count stored ≡ h.values
  word_stored size few =
      let l : length (take count stored) ≡ count = length-take-le count stored (omega arith) in
      ext_get_or 0 (take count stored) h.values (l ∙ sym h.counted)
      (λ i p. let q : i < count = rw l at p in get_or-take count stored i 0 q ∙ h.kept i q (omega arith))

-- ---- the first three lines, right and wrong
pub names_right : judged_of start names_shape ≡ passed ShapeValues start.session
unfolding judged_of kept_of start same_bytes
names_right = refl

pub names_wrong : (line : List ℕ) → same_bytes line names_shape ≡ false → judged_of start line ≡ fault start.session (fault_in expected.ShapeNames (kept_of line)) Refusal.Syntax
unfolding judged_of start same_bytes
names_wrong line h = rw (kept_differs line names_shape h refl)

module _ (σ : Session) where
  pub word_right : judged_of (record { phase = WordNames; session = σ }) names_word ≡ passed Words σ
  unfolding judged_of kept_of same_bytes
  word_right = refl

  pub word_wrong : (line : List ℕ) → same_bytes line names_word ≡ false → judged_of (record { phase = WordNames; session = σ }) line ≡ fault σ (fault_in expected.WordNames (kept_of line)) Refusal.Syntax
  unfolding judged_of same_bytes
  word_wrong line h = rw (kept_differs line names_word h refl)

  -- no three values
  none_wrong : (line : List ℕ) (c : Content) → ((xs : List ℕ) → c ≡ Spelled xs → length xs ≡ 3 → ⊥) → shaped σ line c ≡ fault σ (fault_in expected.ShapeValues line) Refusal.Syntax
  none_wrong line (Spelled xs) h = rw (ne_eqb (length xs) 3 (h xs refl))
  none_wrong line Unreadable h = refl

  pub values_wrong : (line : List ℕ) → ((xs : List ℕ) → line_content line ≡ Spelled xs → length xs ≡ 3 → ⊥)
      → judged_of (record { phase = ShapeValues; session = σ }) line ≡ fault σ (fault_in expected.ShapeValues (kept_of line)) Refusal.Syntax
  unfolding judged_of
  values_wrong line h = none_wrong (kept_of line) (line_content line) h

  -- three values, of a shape or not
  module _ (line xs : List ℕ) (content : line_content line ≡ Spelled xs) (three : length xs ≡ 3) where
    pub shape_right : lawful (shape_in xs) ≡ true → judged_of (record { phase = ShapeValues; session = σ }) line ≡ passed WordNames (fresh_of (shape_in xs))
    unfolding judged_of fresh_status
    shape_right h = rw (content, eq-eqb (length xs) 3 three, h)

    pub shape_wrong : lawful (shape_in xs) ≡ false
        → judged_of (record { phase = ShapeValues; session = σ }) line ≡ fault σ (fault_in expected.Shape (kept_of line)) (shape_refusal (shape_in xs))
    unfolding judged_of fresh_status
    shape_wrong h = rw (content, eq-eqb (length xs) 3 three, h)

-- ---- what a word line brings, by the tests passed
module _ (s : Shape) {line stored : List ℕ} {count : ℕ} (h : Stored line stored count) where
  pub brings_shape : lawful s ≡ false → brought_by s (content_of line) ≡ Bad (shape_refusal s)
  unfolding opened is_way
  brings_shape f = rw (says h, f)

  module _ (law : Lawful s) where
    room : eqb (length (replicate {A = ℕ} (scratch_length s) 0)) (scratch_length s) ≡ true
    room = eq-eqb _ _ (length-replicate {A = ℕ} (scratch_length s) 0)

    pub brings_length : (count ≡ word_length s → ⊥) → brought_by s (content_of line) ≡ Bad Refusal.Length
    unfolding opened is_way way_of
    brings_length ne = rw (says h, law, ne_eqb (length h.values) (word_length s) (λ e. ne (sym h.counted ∙ e)))

    pub brings_word : count ≡ word_length s → length stored ≡ 1024 → opened_by (way_of 0) s (take count stored) ≡ brought_by s (content_of line)
    unfolding opened is_way way_of
    brings_word e full =
        rw (word_stored h full (omega (arith, e, (sizes s law).word)), says h, law, eq-eqb (length h.values) (word_length s) (h.counted ∙ e), room)

-- ---- a word line
pub judged_words : (t : Tally) (line : List ℕ) → t.phase ≡ Words → length line < 16384 → judged_of t line ≡ worded t.session (content_of line)
unfolding judged_of
judged_words t line h l = rw (h, kept_short line l)
