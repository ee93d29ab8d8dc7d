-- The run word by word: what holds after m words, and one word more.
use mathlib.Core.Path.{◌≡◌, refl, sym, ap, ap₂, ◌∙◌, subst}
use mathlib.Core.Bool.{Bool, true, false, cond}
use mathlib.Core.List.{List, [], ◌∷◌, ◌++◌}
use mathlib.Core.Logic.{⊎_elim}
use Prim.Native.Nat.{ℕ, ◌+◌, ◌-◌, ◌*◌, ◌<◌, ◌≤◌}
use native.Mathlib.Nat.{eq-or-lt_of_le, le_of_suc-le-suc, le_of_lt, not-suc-le-zero, suc-mul}
use native.Mathlib.Numerals.{add-one}
use native.Mathlib.Omega.{arith}
use lib.ListN.{length, get_or, take, drop, replicate, length-append, length-drop, take-append-drop, get_or-append}
use lib.Seq.{length-take-le, take_at, drop_at, drop-drop, get_or_at}
use borrow.Rule.Slice.PartMut.{mid_of, put_mid, mid_len, same_len_mid}
use Rattle.gtb.specs.declared.Shape.{Shape}
use Rattle.gtb.specs.declared.Refusal.{Refusal}
use Rattle.gtb.specs.Shape.{word_length, info_length, scratch_length}
use Rattle.session.specs.declared.Session.{Session}
use Rattle.session.specs.declared.Brought.{Brought}
use Rattle.std.specs.Prelude.{Result, Ok, Err, Some, None}
use Rattle.session.specs.declared.Outcome.{Outcome}
use Rattle.session.specs.declared.Outcome.TheVariants.{Again, Refused}
use Rattle.session.specs.declared.Arrived.{Arrived}
use Rattle.session.specs.Session.{Consistent}
use Rattle.session.specs.Arrival.{Way, way_of, the_ways, Page, outcome_values, is_accepted, word_after, Arriving}
use Rattle.session.specs.Claim.{Run, stop, step, answer_at}
use Rattle.session.specs.Steps.{Openable, Settling, Keeps, Deciding}
use Rattle.session.proofs.Alikes.{shape_kept}
use Rattle.session.proofs.Arrive.{decides_arrives}
use Rattle.session.proofs.Opens.{decides_refused, decides_again, decides_new}
use Rattle.session.proofs.Progress.{after_consistent}
use Rattle.session.proofs.Joins.{run_join}
use Rattle.batch.specs.Batch.{words_in, word_at, arrival_of, first_arrivals, values_of, Arrivals}
use Rattle.batch.specs.Steps.{Tested, OneArrival, Looked}
use Rattle.batch.proofs.Runs.{Place, words_before, front_part}
use Rattle.batch.proofs.Outcomes.{values_size, values_none, values_more}

-- ---- one word
module _ {way : Way} {s : Shape} {word word' came symbols : List ℕ} {found : Result Brought Refusal} (keeps : Keeps way s word word' came symbols found) where
  -- by the session's own shape
  own : (σ : Session) → σ.shape ≡ s → Keeps way σ.shape word word' came symbols found
  own σ same = subst (λ (x : Shape). Keeps way x word word' came symbols found) (sym same) keeps

  module _ {taken : List Bool} {values : List ℕ} where
    pub looked_refused : {e : Refusal} → found ≡ Err e → values ≡ outcome_values (Refused e) → Looked way s taken word word' came symbols values None
    looked_refused {e} h written = record {
      known = λ _ σ same marks. record { answer = Refused e; decides = decides_refused σ (own σ same) h (refl, refl); written = written };
      new = λ page is. let z : ◌≡◌ {A = ℕ} 0 1 = cc in absurd (omega arith);
    }

    module _ {page : Brought} (h : found ≡ Ok page) where
      pub looked_again : get_or taken page.number false ≡ true → values ≡ outcome_values (Again page.number page.corrected) → Looked way s taken word word' came symbols values None
      looked_again m written = record {
        known = λ _ σ same marks. record { answer = Again page.number page.corrected; decides = decides_again σ (own σ same) h (ap (λ (xs : List Bool). get_or xs page.number false) marks ∙ m); written = written };
        new = λ other is. let z : ◌≡◌ {A = ℕ} 0 1 = cc in absurd (omega arith);
      }

      pub looked_new : Looked way s taken word word' came symbols values (Some page)
      looked_new = record {
        known = λ is. let z : ◌≡◌ {A = ℕ} 0 1 = cc in absurd (omega arith);
        new = λ other is. let same : page ≡ other = cc in subst (λ (r : Result Brought Refusal). Keeps way s word word' came symbols r) (h ∙ ap Ok same) keeps;
      }

-- a page that is new, settled with the session that has these marks
pub page_arrives : {way : Way} {s : Shape} (σ : Session) {word word' came symbols : List ℕ} {page : Brought} → σ.shape ≡ s → Keeps way s word word' came symbols (Ok page)
    → {r : Arrived} {word'' values : List ℕ} → Settling σ (Page page.number (take (2 + page.count - 2) (drop 2 symbols)) page.corrected) r → word'' ≡ cond (is_accepted r.outcome) word' came → values ≡ outcome_values r.outcome
    → OneArrival way σ word r.session word'' values
page_arrives σ same keeps {r} settled put written = record { answer = r.outcome; decides = decides_new σ (own keeps σ same) refl settled put; written = written }

-- ---- after m words
pub record Delivering (σ : Session) (k : ℕ) (words scratch : List ℕ) (m : ℕ) (words' outcomes' : List ℕ) (end : Session) : Type 0 where
  pub answers : List Outcome
  pub run : Run the_ways σ (first_arrivals σ.shape k words scratch m) answers end
  pub answered : length answers ≡ m
  pub size : length words' ≡ length words
  pub word : (i : ℕ) → i < m
      → word_at σ.shape words' i ≡ word_after (word_at σ.shape words i) ((way_of k).word σ.shape (word_at σ.shape words i)) (answer_at answers i)
  pub rest : drop (m * word_length σ.shape) words' ≡ drop (m * word_length σ.shape) words
  pub outcomes_left : outcomes' ≡ values_of answers
  pub consistent : Consistent end
  pub shape : end.shape ≡ σ.shape

pub delivering_begins : {σ : Session} {k : ℕ} {words scratch outcomes outcomes' : List ℕ} → Tested σ k words scratch outcomes → outcomes' ≡ replicate (length outcomes) 0
    → Delivering σ k words scratch 0 words outcomes' σ
unfolding first_arrivals
delivering_begins {σ} {outcomes = outcomes} tested cleared = record {
  answers = [];
  run = stop;
  answered = refl;
  size = refl;
  word = λ i l. absurd (not-suc-le-zero l);
  rest = refl;
  outcomes_left = values_none outcomes tested.outcomes_size cleared;
  consistent = tested.admitted.consistent;
  shape = refl;
}

-- after all of them
pub delivering_ends : {σ : Session} {k : ℕ} {words scratch scratch' : List ℕ} {m : ℕ} {words' outcomes' : List ℕ} {end : Session} → m ≡ words_in σ.shape words
    → scratch' ≡ replicate (length scratch) 0 → Delivering σ k words scratch m words' outcomes' end → Arrivals σ k words scratch words' scratch' outcomes' end
delivering_ends {σ} {k} {words} {scratch} {end = end} all cleared d = record {
  answers = d.answers;
  run = subst (λ (n : ℕ). Run the_ways σ (first_arrivals σ.shape k words scratch n) d.answers end) all d.run;
  size = d.size;
  word = λ i l. d.word i (rw all l);
  outcomes_left = d.outcomes_left;
  scratch_left = cleared;
}

-- the part of the run that is word m
word_part : {σ : Session} {k : ℕ} {words scratch : List ℕ} {m : ℕ} {words' outcomes' : List ℕ} {end : Session} → Delivering σ k words scratch m words' outcomes' end
    → m * word_length σ.shape + word_length σ.shape ≤ length words → length (word_at σ.shape words' m) ≡ word_length σ.shape
word_part {σ} {m = m} {words' = words'} d room =
    length-take-le (word_length σ.shape) (drop (m * word_length σ.shape) words') (omega (arith, d.size, length-drop (m * word_length σ.shape) words'))

-- ---- one word more
module _ {σ : Session} {k : ℕ} {words scratch outcomes : List ℕ} (tested : Tested σ k words scratch outcomes) {m : ℕ} {words' outcomes' : List ℕ} {end : Session} (d : Delivering σ k words scratch m words' outcomes' end) (few : m < 64) (room : m * word_length σ.shape + word_length σ.shape ≤ length words) {end' : Session} {word'' values'' : List ℕ} (len : length word'' ≡ word_length σ.shape) (one : OneArrival (way_of k) end (word_at σ.shape words' m) end' word'' values'') where
  -- the run with this word put back
  abbrev put : List ℕ
  put = put_mid (m * word_length σ.shape) (word_length σ.shape) words' word''

  -- its answers
  abbrev answered : List Outcome
  answered = d.answers ++ (one.answer ∷ [])

  same_word : word_at σ.shape words' m ≡ word_at σ.shape words m
  same_word = ap (take (word_length σ.shape)) d.rest

  front : length (take (m * word_length σ.shape) words') ≡ m * word_length σ.shape
  front = length-take-le (m * word_length σ.shape) words' (omega (arith, d.size))

  put_rest : drop (m * word_length σ.shape) put ≡ word'' ++ drop (word_length σ.shape) (drop (m * word_length σ.shape) words')
  put_rest = drop_at (take (m * word_length σ.shape) words') _ (m * word_length σ.shape) front

  -- this word, and those before it
  new_word : word_at σ.shape put m ≡ word_after (word_at σ.shape words m) ((way_of k).word σ.shape (word_at σ.shape words m)) one.answer
  new_word =
      ap (take (word_length σ.shape)) put_rest ∙ take_at word'' _ (word_length σ.shape) len ∙ one.decides.word_left
      ∙ ap₂ (λ (s : Shape) (w : List ℕ). word_after w ((way_of k).word s w) one.answer) d.shape same_word

  old_word : (i : ℕ) → i < m → word_at σ.shape put i ≡ word_at σ.shape words' i
  old_word i l =
      let before : i * word_length σ.shape + word_length σ.shape ≤ length (take (m * word_length σ.shape) words') = rw front (words_before (word_length σ.shape) l) in
      front_part (take (m * word_length σ.shape) words') _ (drop (m * word_length σ.shape) words') (i * word_length σ.shape) (word_length σ.shape) before
      ∙ ap (λ (xs : List ℕ). word_at σ.shape xs i) (take-append-drop (m * word_length σ.shape) words')

  new_answer : answer_at answered m ≡ one.answer
  new_answer = get_or_at d.answers one.answer [] (Refused Refusal.Shape) m d.answered

  old_answer : (i : ℕ) → i < m → answer_at answered i ≡ answer_at d.answers i
  old_answer i l = get_or-append d.answers (one.answer ∷ []) (Refused Refusal.Shape) i (rw d.answered l)

  word_turn : (i : ℕ) → i < m + 1
      → word_at σ.shape put i ≡ word_after (word_at σ.shape words i) ((way_of k).word σ.shape (word_at σ.shape words i)) (answer_at answered i)
  word_turn i l =
      ⊎_elim (λ (e : i ≡ m). rw (e, new_answer) new_word)
      (λ (b : i < m). old_word i b ∙ rw (old_answer i b) (d.word i b))
      (eq-or-lt_of_le (le_of_suc-le-suc (rw (add-one m) at l)))

  rest_turn : drop ((m + 1) * word_length σ.shape) put ≡ drop ((m + 1) * word_length σ.shape) words
  rest_turn =
      let N = word_length σ.shape in
      let both : m * N + N ≡ (m + 1) * N = sym (rw (add-one m) (suc-mul m N)) in
      let after : (xs : List ℕ) → drop ((m + 1) * N) xs ≡ drop N (drop (m * N) xs) = λ xs. ap (λ (n : ℕ). drop n xs) (sym both) ∙ sym (drop-drop N (m * N) xs) in
      after put ∙ ap (drop N) put_rest ∙ drop_at word'' _ N len ∙ ap (drop N) d.rest ∙ sym (after words)

  run_turn : Run the_ways σ (first_arrivals σ.shape k words scratch (m + 1)) answered end'
  unfolding first_arrivals
  run_turn =
      let a = tested.admitted in
      let fits : Openable σ.shape k (word_at σ.shape words m) = record { known = a.known; lawful = a.lawful; suits = a.suits; size = ap length (sym same_word) ∙ word_part d room } in
      let here : Arriving the_ways end k (word_at σ.shape words m) scratch word'' (replicate (length scratch) 0) (record { session = end'; outcome = one.answer }) =
      decides_arrives end scratch d.consistent (subst (λ (s : Shape). Openable s k (word_at σ.shape words m)) (sym d.shape) fits) (tested.scratch_size ∙ ap scratch_length (sym d.shape)) refl
      (subst (λ (w : List ℕ). Deciding (way_of k) end w word'' (record { session = end'; outcome = one.answer })) same_word one.decides) in
      rw (add-one m) (run_join d.run (step {a = arrival_of σ.shape k words scratch m} here stop))

  outcomes_turn : put_mid (3 * m) 3 outcomes' values'' ≡ values_of answered
  outcomes_turn =
      ap₂ (λ (xs ys : List ℕ). put_mid (3 * m) 3 xs ys) d.outcomes_left one.written
      ∙ ap (λ (n : ℕ). put_mid (3 * n) 3 (values_of d.answers) (outcome_values one.answer)) (sym d.answered)
      ∙ values_more d.answers one.answer (rw d.answered few)

  turn : Delivering σ k words scratch (m + 1) put (put_mid (3 * m) 3 outcomes' values'') end'
  turn = record {
    answers = answered;
    run = run_turn;
    answered = length-append d.answers (one.answer ∷ []) ∙ ap (λ (n : ℕ). n + 1) d.answered;
    size = same_len_mid (m * word_length σ.shape) (word_length σ.shape) words' word'' (len ∙ sym (word_part d room)) ∙ d.size;
    word = word_turn;
    rest = rest_turn;
    outcomes_left = outcomes_turn;
    consistent = subst Consistent (sym one.decides.settled.session) (after_consistent end _ d.consistent);
    shape = ap (λ (τ : Session). τ.shape) one.decides.settled.session ∙ shape_kept end _ ∙ d.shape;
  }

-- ---- with places and lengths as the code has them
module _ {σ : Session} {k : ℕ} {words scratch : List ℕ} {m : ℕ} {words' outcomes' : List ℕ} {end : Session} (d : Delivering σ k words scratch m words' outcomes' end) where
  -- the list of outcomes keeps its length
  pub list_size : m ≤ 64 → length outcomes' ≡ 192
  list_size few = ap length d.outcomes_left ∙ values_size d.answers (rw d.answered few)

  module _ {outcomes : List ℕ} (tested : Tested σ k words scratch outcomes) {size : ℕ} (is : size ≡ word_length σ.shape) (place : Place words size m) where
    gap : m * size + size - m * size ≡ size
    gap = omega arith

    three : 3 * m + 3 - 3 * m ≡ 3
    three = omega arith

    pub word_size : length (mid_of (m * size) (m * size + size - m * size) words') ≡ m * size + size - m * size
    word_size = mid_len (m * size) (m * size + size) words' (omega (arith, place.room, d.size))

    pub values_three : length (mid_of (3 * m) (3 * m + 3 - 3 * m) outcomes') ≡ 3 * m + 3 - 3 * m
    values_three = mid_len (3 * m) (3 * m + 3) outcomes' (omega (arith, list_size (le_of_lt place.few), place.few))

    pub turn_ready : (came symbols : List ℕ) → length came ≡ size → length symbols ≡ info_length σ.shape
        → let word = mid_of (m * size) (m * size + size - m * size) words' in
        Openable σ.shape k word × (length came ≡ length word) × (length symbols ≡ info_length σ.shape) × (length (mid_of (3 * m) (3 * m + 3 - 3 * m) outcomes') ≡ 3)
    turn_ready came symbols copy room =
        let a = tested.admitted in
        (record { known = a.known; lawful = a.lawful; suits = a.suits; size = word_size ∙ gap ∙ is }, copy ∙ sym (word_size ∙ gap), room, values_three ∙ three)

    pub turn_code : {end' : Session} {word'' values'' : List ℕ} → length word'' ≡ length (mid_of (m * size) (m * size + size - m * size) words')
        → OneArrival (way_of k) end (mid_of (m * size) (m * size + size - m * size) words') end' word'' values''
        → Delivering σ k words scratch (m + 1) (put_mid (m * size) (m * size + size - m * size) words' word'') (put_mid (3 * m) (3 * m + 3 - 3 * m) outcomes' values'') end'
    turn_code =
        let room : m * word_length σ.shape + word_length σ.shape ≤ length words = subst (λ (n : ℕ). m * n + n ≤ length words) is place.room in
        rw (gap ∙ is, three, ap (λ (n : ℕ). m * n) is) (λ len one. turn tested d place.few room (len ∙ word_part d room) one)
