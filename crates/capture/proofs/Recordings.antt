-- Every recording has a capture that prints its tally: its stored words as they are, one line a page (RULES 7.4).
use mathlib.Core.Path.{◌≡◌, refl, sym, ap, ◌∙◌, subst}
use mathlib.Core.List.{List, [], ◌∷◌}
use mathlib.Core.Logic.{inr}
use Prim.Native.Nat.{ℕ, zero, suc, ◌+◌, ◌*◌, ◌^◌, ◌<◌, ◌≤◌, suc-le-suc, zero-le}
use native.Mathlib.Nat.{not-suc-le-zero, le_of_suc-le-suc, lt_of_lt_of_le, mul-pos}
use native.Mathlib.Omega.{arith}
use lib.Dec.{eqb}
use lib.ListN.{length, get_or, length-append, length-replicate}
use lib.Pow.{pow_mono}
use borrow.Author.Tests.{eq-eqb, eqb-true, ltb-true}
use Rattle.parity.specs.Count.{bit, count}
use Rattle.parity.proofs.Sums.{sum_le, sum_exchange, sum_term, sum_const, bit_true}
use Rattle.parity.proofs.Pigeon.{count_one}
use Rattle.gtb.specs.declared.Shape.{Shape}
use Rattle.std.specs.Prelude.{Ok}
use Rattle.gtb.specs.Shape.{Lawful, standard, scratch_length}
use Rattle.gtb.specs.Square.{at, Word}
use Rattle.gtb.proofs.Bounds.{bounds, positive}
use Rattle.gtb.proofs.Sizes.{sizes}
use Rattle.correction.proofs.Errors.{damaged_word}
use Rattle.page.specs.Page.{write_status}
use Rattle.page.proofs.Pages.{writable}
use Rattle.lines.specs.Text.{spell}
use Rattle.lines.specs.Content.{Spelled}
use Rattle.session.specs.Arrival.{is_way, way_of, the_ways}
use Rattle.session.specs.Recording.{Sheet, sheet_at, symbols_of, Recording, arrival_at, Brings, Fits}
use Rattle.session.proofs.Undamaged.{undamaged}
use Rattle.capture.specs.Judge.{line_content}
use Rattle.capture.specs.Feed.{read_limit}
use Rattle.capture.specs.Print.{Unbroken, line_at, lines_text, capture_text, arrival_of, arrivals_in, Captured}
use Rattle.capture.proofs.Print.{spell_unbroken, word_short, word_content, each_small}
use Rattle.capture.proofs.Printed.{printed}

-- different numbers below m are at most m
few_different : (n m : ℕ) (f : ℕ → ℕ) → ((i : ℕ) → i < n → f i < m) → ((i j : ℕ) → i < n → j < n → f i ≡ f j → i ≡ j) → n ≤ m
unfolding count
few_different n m f below apart =
    omega (
      arith,
      sum_const n 1,
      sum_const m 1,
      sum_le n (λ i. 1) (λ i. count m (λ x. eqb (f i) x))
          (λ i l. omega (arith, bit_true (eq-eqb (f i) (f i) refl), sum_term m (λ x. bit (eqb (f i) x)) (f i) (below i l))),
      sum_exchange n m (λ i x. bit (eqb (f i) x)),
      sum_le m (λ x. count n (λ i. eqb (f i) x)) (λ x. 1)
          (λ x l. count_one n (λ i. eqb (f i) x) (λ t u lt lu ne a b. ne (apart t u lt lu (eqb-true (f t) x a ∙ sym (eqb-true (f u) x b))))),
    )

-- a recording has at most 1,024 pages
few_pages : (s : Shape) (pages : List Sheet) → Recording s pages → length pages ≤ 1024
few_pages s pages r =
    few_different (length pages) 1024 (λ i. (sheet_at pages i).number)
    (λ i l. ltb-true (sheet_at pages i).number 1024 (writable s _ _ _ (r.accepted i l)).page) r.different

-- a word whose line can be read and brings the page
record Stored (s : Shape) (p : Sheet) (word : List ℕ) : Type 0 where
  brings : Brings the_ways s (arrival_of s word) p 0
  content : line_content (spell word) ≡ Spelled word
  short : length (spell word) < 16384

-- a page that the page writer accepts has one, its stored word; the scratch is replaced by zeros
stored : (s : Shape) → Lawful s → (p : Sheet) → write_status s p.number p.marks (symbols_of s p) ≡ Ok tt → (word : List ℕ) × Stored s p word
unfolding is_way way_of
stored s law p accepted =
    let (a, u) = undamaged s law 0 refl refl p accepted in
    let b = u.brings in
    let w : Word s a.word = rw b.word (damaged_word s b.stored b.error b.encodes.codeword.word b.damage) in
    let few : length a.word ≤ 961 = rw w.size (sizes s law).word in
    let small : (i : ℕ) → i < length a.word → get_or a.word i 0 < 2 ^ 32 = λ i l. lt_of_lt_of_le (w.width i) (pow_mono (bounds s law).b32) in (
      a.word,
      record {
        brings = record {
          known = refl;
          stored = b.stored;
          encodes = b.encodes;
          error = b.error;
          damage = b.damage;
          allowed = subst (λ (way : ℕ). (the_ways.named way).Allowed s (at b.error)) u.named b.allowed;
          changed = b.changed;
          word = b.word;
          scratch = length-replicate (scratch_length s) 0;
        };
        content = word_content a.word (rw w.size (mul-pos (positive s law) (positive s law))) few small;
        short = word_short a.word few small;
      },
    )

-- lines, of which each brings the page at its place
record Written (s : Shape) (pages : List Sheet) : Type 0 where
  lines : List (List ℕ)
  each : length lines ≡ length pages
  unbroken : (i : ℕ) → i < length lines → Unbroken (line_at lines i)
  arrivals : length (arrivals_in s lines) ≡ length pages
  brings : (i : ℕ) → i < length pages → Brings the_ways s (arrival_at (arrivals_in s lines) i) (sheet_at pages i) 0
  short : length (lines_text lines) ≤ 16384 * length pages

-- pages that the page writer accepts have such lines, one after the other
written : (s : Shape) → Lawful s → (pages : List Sheet)
    → ((i : ℕ) → i < length pages → write_status s (sheet_at pages i).number (sheet_at pages i).marks (symbols_of s (sheet_at pages i)) ≡ Ok tt) → Written s pages
unfolding arrivals_in lines_text
written s law [] accepted =
    record { lines = []; each = refl; unbroken = λ i l. absurd (not-suc-le-zero l); arrivals = refl; brings = λ i l. absurd (not-suc-le-zero l); short = omega arith }
written s law (p ∷ pages) accepted =
    let (word, w) = stored s law p (accepted 0 (suc-le-suc zero-le)) in
    let rest = written s law pages (λ i l. accepted (suc i) (suc-le-suc l)) in
    record {
      lines = spell word ∷ rest.lines;
      each = ap suc rest.each;
      unbroken = λ i.
          elim i as (λ k. k < suc (length rest.lines) → Unbroken (line_at (spell word ∷ rest.lines) k))
          [ zero ↦ λ l. spell_unbroken word | suc i' ↦ λ l. rest.unbroken i' (le_of_suc-le-suc l) ];
      arrivals = rw w.content (ap suc rest.arrivals);
      brings = rw w.content (λ i.
          elim i as (λ k. k < suc (length pages) → Brings the_ways s (arrival_at (arrival_of s word ∷ arrivals_in s rest.lines) k) (sheet_at (p ∷ pages) k) 0)
          [ zero ↦ λ l. w.brings | suc i' ↦ λ l. rest.brings i' (le_of_suc-le-suc l) ]);
      short = rw length-append (omega (arith, w.short, rest.short));
    }

-- the first three lines are short
text_short : (q n b : ℕ) → Lawful (standard q n b) → (lines : List (List ℕ)) → length (capture_text q n b lines []) ≤ 20000 + length (lines_text lines)
unfolding capture_text lines_text
text_short q n b law lines = simp length-append (omega (arith, word_short (q ∷ n ∷ b ∷ []) (omega arith) (each_small q n b law)))

-- so every recording has a capture, of at most 1,024 lines, and all of it is read
pub recording_captured : (q n b : ℕ) (pages : List Sheet) → Recording (standard q n b) pages → Captured q n b pages
recording_captured q n b pages r =
    let s : Shape = standard q n b in
    let w = written s r.lawful pages r.accepted in
    let fits : Fits the_ways s pages (arrivals_in s w.lines) = record {
      each = λ j l. let l' : j < length pages = rw w.arrivals at l in inr (j, l', 0, w.brings j l');
      every = λ i l. (i, rw w.arrivals l, 0, w.brings i l);
    } in
    let read : length (capture_text q n b w.lines []) ≤ read_limit = omega (arith, text_short q n b r.lawful w.lines, w.short, few_pages s pages r) in
    record {
      lines = w.lines;
      each = w.each;
      unbroken = w.unbroken;
      fits = fits;
      read = read;
      prints = printed q n b pages w.lines [] r w.unbroken refl fits read;
    }
