-- An arrival does what the paper asks.
use mathlib.Core.Path.{◌≡◌, refl, sym, ap, ◌∙◌, subst}
use mathlib.Core.Bool.{Bool, true, false, cond, ◌&&◌}
use mathlib.Core.List.{List, [], ◌∷◌}
use mathlib.Core.Logic.{◌⊎◌, inl, inr, ⊎_elim}
use Prim.Native.Nat.{ℕ, zero, suc, ◌+◌, ◌<◌}
use native.Mathlib.Omega.{arith}
use lib.Dec.{eqb, leb, ltb}
use lib.ListN.{length, get_or, take, drop, replicate}
use borrow.Author.Tests.{le-ltb, eqb-true, eq-eqb, lt-ltb, ltb-true}
use Rattle.parity.proofs.Tests.{either, clash, and_left, not_of_true, not_of_false, all_intro}
use Rattle.parity.proofs.Lists.{length_tabulate, at_tabulate}
use Rattle.paper.specs.Paper as paper
use Rattle.paper.specs.Writing.{scratch_left}
use Rattle.gtb.specs.declared.Shape.{Shape}
use Rattle.gtb.specs.declared.Refusal.{Refusal}
use Rattle.std.specs.Prelude.{Result, Ok, Err}
use Rattle.gtb.specs.Shape.{of, lawful, shape_refusal, Lawful, word_length, info_length, scratch_length, kept_checks}
use Rattle.gtb.specs.Square.{at, narrow, Word}
use Rattle.gtb.specs.Positions.{info_position, extract_of}
use Rattle.gtb.specs.Answer.{refusal_number, unless}
use Rattle.gtb.proofs.Words.{narrow_word}
use Rattle.gtb.proofs.Judging.{Decides, decides_eqb, decides_both, decides_below, decides_upto, test}
use Rattle.gtb.proofs.Conditions.{shape_tests, decides_width}
use Rattle.gtb.proofs.Stored.{digits_word}
use Rattle.gtb.proofs.Places.{extracted}
use Rattle.gtb.proofs.Scratches.{scratch_same}
use Rattle.distance.proofs.Within.{changed_same}
use Rattle.correction.specs.Reading.{Reader, Meaning, changes_by, restored_by, accepted_by, read_of}
use Rattle.correction.proofs.Readings.{Meant}
use Rattle.correction.proofs.Paper.{Named}
use Rattle.decoder.specs.Decode as decoder
use Rattle.decoder.proofs.Meaning.{clean_meant}
use Rattle.decoder.proofs.Paper.{clean_named}
use Rattle.majority.specs.Majority as majority
use Rattle.majority.proofs.Meaning.{vote_meant}
use Rattle.majority.proofs.Paper.{vote_named}
use Rattle.double.specs.Double as double
use Rattle.double.proofs.Meaning.{two_meant}
use Rattle.double.proofs.Paper.{two_named}
use Rattle.page.specs.Page.{functions, zeros, most, page_of, marks_of}
use Rattle.page.proofs.Pages.{passed_read, marks_of_lem}
use Rattle.page.proofs.Paper.{decides_functions, decides_tail}
use Rattle.session.specs.declared.Session.{Session}
use Rattle.session.specs.declared.Outcome.{Outcome}
use Rattle.session.specs.declared.Outcome.TheVariants.{Taken, Again, Refused}
use Rattle.session.specs.declared.Arrived.{Arrived}
use Rattle.session.specs.Session.{plain, consistent, session_status, past, overflows}
use Rattle.session.specs.Arrival.{outcome_values, handed, left, is_way, way_of, the_ways, Opened, Page, Bad, open_page, open_word, opened, arrival_status, presented, outcome_of, session_by, session_after, word_after, outcome_scratch, Arriving}
use Rattle.session.proofs.Paper.{decides_figures}
use Rattle.session.proofs.Taken.{recorded_paper, decides_worn}

-- ---- what is opened, test by test
open_read : (s : Shape) (v : List ℕ) (t : Bool) (e : Refusal) (next : Result ℕ Refusal) → open_word s v (unless t (Err e) next) ≡ unless t (Bad e) (open_word s v next)
open_read s v true e next = refl
open_read s v false e next = refl

open_page_lem : (s : Shape) (d : List ℕ) (k : ℕ) (t : Bool) (e : Refusal) (next : Result (ℕ × ℕ) Refusal) → open_page s d k (unless t (Err e) next) ≡ unless t (Bad e) (open_page s d k next)
open_page_lem s d k true e next = refl
open_page_lem s d k false e next = refl

present : (a c d z : Bool) (e : Refusal) (o : Opened)
    → past (past (unless a (Err e) (unless c (Err Refusal.Figures) (Ok tt))) Err (unless d (Err Refusal.Directions) (Ok tt))) Bad
    (unless a (Bad e) (unless d (Bad Refusal.Directions) (unless z (Bad Refusal.Length) o)))
    ≡ unless a (Bad e) (unless c (Bad Refusal.Figures) (unless d (Bad Refusal.Directions) (unless z (Bad Refusal.Length) o)))
present false c d z e o = refl
present true false d z e o = refl
present true true false z e o = refl
present true true true z e o = refl

-- ---- the data digits of a word
extracted_size : (s : Shape) (v : List ℕ) → length (extract_of s v) ≡ info_length s
unfolding extract_of
extracted_size s v = length_tabulate (info_length s) _

extracted_narrow : (s : Shape) (v : List ℕ) → Word s v → narrow s.b (extract_of s v) ≡ true
unfolding extract_of narrow
extracted_narrow s v h =
    all_intro (length (extract_of s v)) _
    (λ j l.
    let lj : j < info_length s = rw (extracted_size s v) at l in
    rw (at_tabulate (info_length s) (λ k. at v (info_position s k)) j lj) (lt-ltb _ _ (h.width (info_position s j))))

-- a word that is read so is a stored word
read_stored : (s : Shape) (way : ℕ) (w v : List ℕ) → paper.Read (of s) way w v → paper.Stored (of s) v
read_stored s zero w v x = x.damaged.stored
read_stored s (suc zero) w v x = x.stored
read_stored s (suc (suc way)) w v x = x.stored

-- ---- an arrival by a way of reading
module _ (σ : Session) (size : length σ.taken ≡ 1024) {way : ℕ} {reader : Reader} {Means : Meaning} (named : Named way reader Means σ.shape) (m : Meant reader Means)
    (word scratch : List ℕ) (session' : Session) (word' scratch' : List ℕ) (outcome : Outcome) where
  abbrev sh : Shape
  sh = σ.shape

  -- the word that it gives
  abbrev v : List ℕ
  v = restored_by reader sh word

  abbrev d : List ℕ
  d = extract_of sh v

  -- what is answered and left where this is opened
  record Left (o : Opened) : Type 0 where
    pub answered : outcome ≡ outcome_of σ o
    pub after : session' ≡ session_after σ o
    pub left : word' ≡ word_after word v outcome
    pub used : scratch' ≡ outcome_scratch scratch outcome

  abbrev Refusing : ℕ → Type 0
  Refusing k = (outcome_values outcome ≡ 2 ∷ k ∷ 0 ∷ []) × (plain session' ≡ plain σ) × (word' ≡ word) × (scratch' ≡ scratch_left k scratch)

  refusing : (e : Refusal) → outcome ≡ Refused e → session' ≡ σ → word' ≡ word_after word v outcome → scratch' ≡ outcome_scratch scratch outcome → Refusing (refusal_number e)
  refusing e h same left used =
      (ap outcome_values h, ap plain same, left ∙ ap (word_after word v) h, used ∙ ap (outcome_scratch scratch) h ∙ scratch_same sh e scratch)

  module _ (o : Opened) (x : Left o) where
    turn : (e : Refusal) → o ≡ Bad e → Refusing (refusal_number e)
    unfolding outcome_of session_after
    turn e h = refusing e (x.answered ∙ ap (outcome_of σ) h) (x.after ∙ ap (session_after σ) h) x.left x.used

    module _ (law : Lawful sh) (fits : reader.suits sh ≡ true) (hw : Word sh word) (ok : accepted_by reader sh word ≡ true) where
      meant : Means sh word v (changes_by reader sh word)
      meant = m.shows sh law fits word hw ok

      abbrev Accepting : ℕ → Type 0
      Accepting outcome-number =
          (outcome_values outcome ≡ outcome-number ∷ at d 0 ∷ paper.changed (of sh) word v ∷ []) × (word' ≡ v) × (scratch' ≡ replicate (length scratch) 0)

      same_changed : changes_by reader sh word ≡ paper.changed (of sh) word v
      same_changed = sym (named.changed meant) ∙ changed_same sh word v

      accepting : (c : ℕ) (r : Outcome) → outcome_values r ≡ c ∷ at d 0 ∷ changes_by reader sh word ∷ [] → word_after word v r ≡ v → outcome_scratch scratch r ≡ replicate (length scratch) 0
          → outcome ≡ r → Accepting c
      accepting c r values left used is = (
        ap outcome_values is ∙ values ∙ ap (λ (k : ℕ). c ∷ at d 0 ∷ k ∷ []) same_changed,
        x.left ∙ ap (word_after word v) is ∙ left,
        x.used ∙ ap (outcome_scratch scratch) is ∙ used,
      )

      -- the page is taken or comes again
      module _ (below : at d 0 < 1024) (h : o ≡ Page (at d 0) (paper.marks_in d) (changes_by reader sh word)) where
        abbrev marks : List ℕ
        marks = paper.marks_in d

        answered : outcome ≡ cond (get_or σ.taken (at d 0) false) (Again (at d 0) (changes_by reader sh word)) (cond (overflows σ.calls marks) (Refused Refusal.Overflow) (Taken (at d 0) (changes_by reader sh word)))
        unfolding outcome_of
        answered = x.answered ∙ ap (outcome_of σ) h

        after : (r : Outcome) → outcome ≡ r → session' ≡ session_by σ (Page (at d 0) marks (changes_by reader sh word)) r
        unfolding session_after
        after r is = x.after ∙ ap (session_after σ) h ∙ ap (session_by σ (Page (at d 0) marks (changes_by reader sh word))) (sym (ap (outcome_of σ) h) ∙ sym x.answered ∙ is)

        settled :
            ((get_or σ.taken (at d 0) false ≡ true) × (plain session' ≡ plain σ) × Accepting 1)
            ⊎ ((get_or σ.taken (at d 0) false ≡ false) × ((paper.Worn (plain σ) marks × Refusing 9)
            ⊎ ((¬ paper.Worn (plain σ) marks)
            × (paper.Recorded (plain σ) (at d 0) marks (plain session') × Accepting 0))))
        settled =
            ⊎_elim
            (λ (again : get_or σ.taken (at d 0) false ≡ true).
            let is : outcome ≡ Again (at d 0) (changes_by reader sh word) = rw again at answered in
            inl (again, ap plain (after _ is), accepting 1 (Again (at d 0) (changes_by reader sh word)) refl refl refl is))
            (λ (new : get_or σ.taken (at d 0) false ≡ false).
            let is : outcome ≡ cond (overflows σ.calls marks) (Refused Refusal.Overflow) (Taken (at d 0) (changes_by reader sh word)) = rw new at answered in
            inr (
              new,
              ⊎_elim
                  (λ (worn : overflows σ.calls marks ≡ true).
                  let refused : outcome ≡ Refused Refusal.Overflow = rw worn at is in
                  inl ((decides_worn σ size (at d 0) below marks).holds (not_of_true worn), refusing Refusal.Overflow refused (after _ refused) x.left x.used))
                  (λ (fresh : overflows σ.calls marks ≡ false).
                  let taken : outcome ≡ Taken (at d 0) (changes_by reader sh word) = rw fresh at is in
                  inr (
                    (decides_worn σ size (at d 0) below marks).fails (not_of_false fresh),
                    (
                      subst (λ (τ : Session). paper.Recorded (plain σ) (at d 0) marks (plain τ)) (sym (after _ taken)) (recorded_paper σ size (at d 0) below marks),
                      accepting 0 (Taken (at d 0) (changes_by reader sh word)) refl refl refl taken,
                    ),
                  ))
                  (either (overflows σ.calls marks)),
            ))
            (either (get_or σ.taken (at d 0) false))

      -- the page in the data digits
      slim : narrow sh.b d ≡ true
      slim = extracted_narrow sh v (digits_word sh (read_stored sh way word v (named.read meant)).digits)

      page_is : page_of sh d
          ≡ unless (ltb (at d 0) 1024) (Err Refusal.Page)
          (unless (leb (at d 1) (most sh)) (Err Refusal.Count)
          (unless (functions (take (at d 1) (drop 2 d))) (Err Refusal.Function)
          (unless (zeros (drop (2 + at d 1) d)) (Err Refusal.Tail) (Ok (at d 0, at d 1)))))
      unfolding page_of
      page_is = rw (law, eq-eqb _ _ (extracted_size sh v), slim)

      opened_page : open_page sh d (changes_by reader sh word) (page_of sh d)
          ≡ unless (ltb (at d 0) 1024) (Bad Refusal.Page)
          (unless (leb (at d 1) (most sh)) (Bad Refusal.Count)
          (unless (functions (take (at d 1) (drop 2 d))) (Bad Refusal.Function)
          (unless (zeros (drop (2 + at d 1) d)) (Bad Refusal.Tail) (Page (at d 0) (marks_of sh d) (changes_by reader sh word)))))
      opened_page = ap (open_page sh d (changes_by reader sh word)) page_is ∙ rw (open_page_lem, open_page_lem, open_page_lem, open_page_lem)

      contents : o ≡ open_page sh d (changes_by reader sh word) (page_of sh d)
          → paper.Judged (paper.contents (of sh) d) Refusing
          (((get_or σ.taken (at d 0) false ≡ true) × (plain session' ≡ plain σ) × Accepting 1)
          ⊎ ((get_or σ.taken (at d 0) false ≡ false)
          × paper.Judged ((9, paper.Worn (plain σ) (paper.marks_in d)) ∷ []) Refusing
          (paper.Recorded (plain σ) (at d 0) (paper.marks_in d) (plain session') × Accepting 0)))
      contents h =
          test (ltb (at d 0) 1024) _ _ (decides_below _ _) (turn Refusal.Page) (λ below.
          test (leb (at d 1) (most sh)) _ _ (decides_upto _ _) (turn Refusal.Count) (λ few.
          test (functions (take (at d 1) (drop 2 d))) _ _ (decides_functions sh _) (turn Refusal.Function) (λ calls.
          test (zeros (drop (2 + at d 1) d)) _ _ (decides_tail sh _ d) (turn Refusal.Tail) (λ tail e.
          let passed = passed_read sh d (record { legal = law; size = eq-eqb _ _ (extracted_size sh v); width = slim; page = below; few = few; calls = calls; tail = tail }) in
          settled (ltb-true _ _ below) (e ∙ ap (λ (l : List ℕ). Page (at d 0) l (changes_by reader sh word)) (marks_of_lem sh d _ _ passed))))))
          (h ∙ opened_page)

    -- ---- the whole
    decides_read : Lawful sh → reader.suits sh ≡ true → Word sh word → Decides (accepted_by reader sh word) ((u : List ℕ) → ¬ paper.Read (of sh) way word u)
    decides_read law fits hw = record {
      holds = λ no u read. let (k, means) = named.means hw read in clash (m.gives sh law fits word u k means).accepted no;
      fails = λ ok none. none v (named.read (meant law fits hw ok));
    }

    read_is : Lawful sh → reader.suits sh ≡ true → length word ≡ word_length sh → read_of reader sh word
        ≡ unless (narrow sh.b word) (Err Refusal.Width) (unless (accepted_by reader sh word) (Err reader.refusal) (Ok (changes_by reader sh word)))
    unfolding read_of
    read_is law fits long = rw (law, fits, eq-eqb _ _ long)

    opened_read : Lawful sh → reader.suits sh ≡ true → length word ≡ word_length sh → open_word sh v (read_of reader sh word)
        ≡ unless (narrow sh.b word) (Bad Refusal.Width) (unless (accepted_by reader sh word) (Bad reader.refusal) (open_page sh d (changes_by reader sh word) (page_of sh d)))
    opened_read law fits long = ap (open_word sh v) (read_is law fits long) ∙ rw (open_read, open_read)

    arriving : ¬ (2 < way)
        → o ≡ unless (lawful sh) (Bad (shape_refusal sh)) (unless (consistent σ) (Bad Refusal.Figures) (unless (reader.suits sh) (Bad Refusal.Directions)
        (unless (eqb (length word) (word_length sh) && eqb (length scratch) (scratch_length sh)) (Bad Refusal.Length) (open_word sh v (read_of reader sh word)))))
        → paper.Arriving (plain σ) (record { way = way; word = word; scratch = scratch }) (record { session = plain session'; word = word'; scratch = scratch'; answer = outcome_values outcome })
    unfolding scratch_length kept_checks
    arriving known h =
        inr (
          known,
          shape_tests sh Bad _ (turn Refusal.Shape) (turn Refusal.Slope) (λ law.
              test (consistent σ) _ _ (decides_figures σ) (turn Refusal.Figures) (λ _.
              test (reader.suits sh) _ _ (named.suits law) (turn Refusal.Directions) (λ fits.
              test (eqb (length word) (word_length sh) && eqb (length scratch) (scratch_length sh)) _ _ (decides_both _ _ (decides_eqb _ _) (decides_eqb _ _)) (turn Refusal.Length) (λ sized e.
              let long : length word ≡ word_length sh = eqb-true _ _ (and_left (eqb (length word) (word_length sh)) (eqb (length scratch) (scratch_length sh)) sized) in
              test (narrow sh.b word) _ _ (decides_width sh word) (turn Refusal.Width) (λ slim.
              let hw = narrow_word sh word long slim in
              test (accepted_by reader sh word) _ _ (decides_read law fits hw) (λ t. subst Refusing named.number (turn reader.refusal t)) (λ ok t.
              (v, d, named.read (meant law fits hw ok), extracted sh law v, contents law fits hw ok t)))
              (e ∙ opened_read law fits long)))))
              h,
        )

-- ---- the three ways, and every other number
by_tests : (σ : Session) (reader : Reader) (word scratch : List ℕ)
    → past (past (session_status σ) Err (unless (reader.suits σ.shape) (Err Refusal.Directions) (Ok tt))) Bad
    (unless (lawful σ.shape) (Bad (shape_refusal σ.shape)) (unless (reader.suits σ.shape) (Bad Refusal.Directions)
    (unless (eqb (length word) (word_length σ.shape) && eqb (length scratch) (scratch_length σ.shape)) (Bad Refusal.Length)
    (open_word σ.shape (restored_by reader σ.shape word) (read_of reader σ.shape word)))))
    ≡ unless (lawful σ.shape) (Bad (shape_refusal σ.shape)) (unless (consistent σ) (Bad Refusal.Figures) (unless (reader.suits σ.shape) (Bad Refusal.Directions)
    (unless (eqb (length word) (word_length σ.shape) && eqb (length scratch) (scratch_length σ.shape)) (Bad Refusal.Length)
    (open_word σ.shape (restored_by reader σ.shape word) (read_of reader σ.shape word)))))
unfolding session_status
by_tests σ reader word scratch =
    present (lawful σ.shape) (consistent σ) (reader.suits σ.shape) (eqb (length word) (word_length σ.shape) && eqb (length scratch) (scratch_length σ.shape))
    (shape_refusal σ.shape) (open_word σ.shape (restored_by reader σ.shape word) (read_of reader σ.shape word))

no_way : (σ : Session) (word scratch : List ℕ) (way : ℕ) → 2 < way → presented the_ways σ way word scratch ≡ Bad Refusal.Shape
unfolding presented arrival_status is_way
no_way σ word scratch way l = rw (le-ltb way 3 l)

module _ (σ : Session) (size : length σ.taken ≡ 1024) (word scratch : List ℕ) {word' scratch' : List ℕ} {r : Arrived} where
  pub arrival : (way : ℕ) → Arriving the_ways σ way word scratch word' scratch' r
      → paper.Arriving (plain σ) (handed way word scratch) (left r word' scratch')
  unfolding way_of is_way presented arrival_status opened session_status
  arrival zero x =
      arriving σ size (clean_named σ.shape) clean_meant word scratch r.session word' scratch' r.outcome (presented the_ways σ 0 word scratch)
      (record { answered = x.outcome; after = x.session; left = x.word_left; used = x.scratch_left }) (λ l. omega arith)
      (by_tests σ decoder.clean word scratch)
  arrival (suc zero) x =
      arriving σ size (vote_named σ.shape) vote_meant word scratch r.session word' scratch' r.outcome (presented the_ways σ 1 word scratch)
      (record { answered = x.outcome; after = x.session; left = x.word_left; used = x.scratch_left }) (λ l. omega arith)
      (by_tests σ majority.vote word scratch)
  arrival (suc (suc zero)) x =
      arriving σ size (two_named σ.shape) two_meant word scratch r.session word' scratch' r.outcome (presented the_ways σ 2 word scratch)
      (record { answered = x.outcome; after = x.session; left = x.word_left; used = x.scratch_left }) (λ l. omega arith)
      (by_tests σ double.two word scratch)
  arrival (suc (suc (suc way))) x =
      let known : 2 < suc (suc (suc way)) = omega arith in
      inl (
        known,
        turn σ size (two_named σ.shape) two_meant word scratch r.session word' scratch' r.outcome (presented the_ways σ (suc (suc (suc way))) word scratch)
            (record { answered = x.outcome; after = x.session; left = x.word_left; used = x.scratch_left }) Refusal.Shape (no_way σ word scratch _ known),
      )

  pub arrival_asked : (way : ℕ) → Arriving the_ways σ way word scratch word' scratch' r → Arriving the_ways σ way word scratch word' scratch' r
      × paper.Arriving (plain σ) (handed way word scratch) (left r word' scratch')
  arrival_asked way x = (x, arrival way x)
