-- The tables of numbers hold.
use mathlib.Core.Path.{◌≡◌, refl, sym, ◌∙◌}
use mathlib.Core.Bool.{Bool, true, false, not}
use mathlib.Core.List.{List}
use mathlib.Core.Logic.{⊎_elim, ◌⊎◌}
use Prim.Native.Nat.{ℕ, ◌+◌, ◌-◌, ◌*◌, ◌/◌, ◌<◌, ◌≤◌}
use native.Mathlib.Nat.{mul-le-mul}
use native.Mathlib.Omega.{arith}
use lib.Dec.{eqb, ltb}
use lib.ListN.{length, get_or}
use borrow.Author.Tests.{leb-true}
use Rattle.parity.specs.Count.{count}
use Rattle.parity.proofs.Sums.{count_bound}
use Rattle.parity.proofs.Tests.{and_left}
use Rattle.gtb.specs.declared.Shape.{Shape}
use Rattle.gtb.specs.declared.Refusal.{Refusal}
use Rattle.std.specs.Prelude.{Result, Ok, Err}
use Rattle.gtb.specs.Shape.{lawful, Lawful, word_length, info_length}
use Rattle.gtb.specs.Square.{at}
use Rattle.gtb.specs.Answer.{unless}
use Rattle.gtb.proofs.Answers.{unless_done, unless_passed}
use Rattle.gtb.proofs.Bounds.{bounds}
use Rattle.distance.specs.Distance.{differences, Near}
use Rattle.correction.specs.Reading.{Reader, Meaning, changes_by, accepted_by, Reads}
use Rattle.correction.proofs.Readings.{corrected_not, read_accepted}
use Rattle.decoder.specs.Damage.{Explains}
use Rattle.decoder.specs.Decode.{clean}
use Rattle.decoder.proofs.Meaning.{decode_meets}
use Rattle.majority.specs.Majority.{vote}
use Rattle.double.specs.Double.{two}
use Rattle.nearest.specs.Nearest.{nearest}
use Rattle.erasure.specs.Fill.{fill_status, FilledIn, NoWord, SeveralWords, Filling}
use Rattle.restore.specs.Restore.{Restored, OutOfReach, SeveralReach, Recovering}
use Rattle.page.specs.Page.{page_of}
use Rattle.page.proofs.Pages.{page_facts, marks_few, no_page}
use Rattle.session.specs.Session.{session_status, past, counted_of}
use Rattle.energy.proofs.Sums.{bill_small}
use Rattle.coverage.specs.Coverage.{cover_count, cover_of}
use Rattle.coverage.proofs.Marks.{cover_small}
use Rattle.host.specs.Bytes.{symbols_of}
use Rattle.host.specs.Exported.{word_of, page_in}
use Rattle.vectors.specs.Numbers.{Numbers, NoRefusal}

pub numbers : Numbers
numbers = record {
  r1 = refl;
  r2 = refl;
  r3 = refl;
  r4 = refl;
  r5 = refl;
  r6 = refl;
  r7 = refl;
  r8 = refl;
  r9 = refl;
  r10 = refl;
  r11 = refl;
  r12 = refl;
  r13 = refl;
  r14 = refl;
  r15 = refl;
  r16 = refl;
  r17 = refl;
  r18 = refl;
  r19 = refl;
  r20 = refl;
  status = (refl, λ e. refl);
  read = (λ k. refl, λ e. refl);
  page = (λ p c. refl, λ e. refl);
  verdict = (refl, refl, λ e. refl);
  cover = (λ k. refl, λ e. refl);
  counted = (λ k. refl, λ e. refl);
  bill = (λ p. refl, λ e. refl);
  taken = λ p k. refl;
  again = λ p k. refl;
  refused = λ e. refl;
}

-- a reader changes at most as many symbols as its bound, so at most 7
few : (reader : Reader) (Means : Meaning) {s : Shape} {w w' : List ℕ} {r : Result ℕ Refusal} (k : ℕ) → (2 ≤ s.n → s.n ≤ 8 → reader.bound s ≤ 7)
    → Reads reader Means s w w' r → r ≡ Ok k → k ≤ 7
unfolding accepted_by
few reader Means {s} {w} k low h is =
    let a = read_accepted reader s w k (sym h.answer ∙ is) in
    let b = bounds s a.lawful in
    omega (arith, a.changed, low b.n2 b.n8, leb-true (changes_by reader s w) (reader.bound s) (and_left _ _ a.accepted))

not_corrected : {r : Result ℕ Refusal} {e : Refusal} {k : ℕ} → r ≡ Err e → r ≡ Ok k → ⊥
not_corrected {e = e} {k} h is = corrected_not e k (sym h ∙ is)

-- a number of differences is at most that of all symbols
all_few : (s : Shape) (w w' : List ℕ) {r : Result ℕ Refusal} (k : ℕ) → Lawful s → r ≡ Ok (differences s w' w) → r ≡ Ok k → k ≤ 961
unfolding differences
all_few s w w' k law answer is =
    let most : word_length s ≤ 31 * 31 = mul-le-mul (bounds s law).q31 (bounds s law).q31 in
    let same : k ≡ count (word_length s) (λ j. not (eqb (at w' j) (at w j))) = let z = sym is ∙ answer in cc in
    omega (arith, same, most, count_bound (word_length s) (λ j. not (eqb (at w' j) (at w j))))

fill_few : {s : Shape} {w places x w' x' : List ℕ} {r : Result ℕ Refusal} (k : ℕ) (t : Result (Unit {0}) Refusal) → fill_status s w places x ≡ t → Filling s w places x w' x' r → r ≡ Ok k → k ≤ 961
unfolding fill_status
fill_few k (Err e) tests f is = absurd (not_corrected (f.tested e tests).0 is)
fill_few {s} {w} {places} {x} {w'} {x'} {r} k (Ok tt) tests f is =
    ⊎_elim (λ (a : FilledIn s w places w' r). all_few s w w' k (unless_done (lawful s) _ _ tests).0 a.answer is)
    (λ (o : NoWord s w places w' r ⊎ SeveralWords s w places w' r).
    ⊎_elim (λ (a : NoWord s w places w' r). absurd (not_corrected a.answer is)) (λ (a : SeveralWords s w places w' r). absurd (not_corrected a.answer is)) o)
    (f.decided tests).0

restore_few : {s : Shape} {w places x w' x' : List ℕ} {r : Result ℕ Refusal} (k : ℕ) (t : Result (Unit {0}) Refusal) → fill_status s w places x ≡ t → Recovering s w places x w' x' r → r ≡ Ok k → k ≤ 961
unfolding fill_status
restore_few k (Err e) tests f is = absurd (not_corrected (f.tested e tests).0 is)
restore_few {s} {w} {places} {x} {w'} {x'} {r} k (Ok tt) tests f is =
    ⊎_elim (λ (a : Restored s w places w' r). all_few s w w' k (unless_done (lawful s) _ _ tests).0 a.answer is)
    (λ (o : OutOfReach s w places w' r ⊎ SeveralReach s w places w' r).
    ⊎_elim (λ (a : OutOfReach s w places w' r). absurd (not_corrected a.answer is)) (λ (a : SeveralReach s w places w' r). absurd (not_corrected a.answer is)) o)
    (f.decided tests).0

cover_number : (t : Result (Unit {0}) Refusal) (u : Bool) (n k : ℕ) → past t Err (unless u (Err Refusal.Length) (Ok n)) ≡ Ok k → n ≡ k
cover_number (Err e) u n k h = let z : ◌≡◌ {A = ℕ} 0 1 = cc in absurd (omega arith)
cover_number (Ok tt) true n k h = cc
cover_number (Ok tt) false n k h = let z : ◌≡◌ {A = ℕ} 0 1 = cc in absurd (omega arith)

count_number : (t : Result (Unit {0}) Refusal) (u : Bool) (n k : ℕ) → past t Err (unless u (Err Refusal.Function) (Ok n)) ≡ Ok k → n ≡ k
count_number (Err e) u n k h = let z : ◌≡◌ {A = ℕ} 0 1 = cc in absurd (omega arith)
count_number (Ok tt) true n k h = cc
count_number (Ok tt) false n k h = let z : ◌≡◌ {A = ℕ} 0 1 = cc in absurd (omega arith)

page_few : (s : Shape) (symbols : List ℕ) (p c : ℕ) → page_of s symbols ≡ Ok (p, c) → (p < 1024) × (c < 1024) × (1024 * p + c < 2147483648)
page_few s symbols p c h =
    let f = page_facts s symbols p c h in
    (f.page, omega (arith, f.length, (marks_few s symbols).1), omega (arith, f.page, f.length, (marks_few s symbols).1))

pub no_refusal : NoRefusal
unfolding cover_of counted_of word_of page_in
no_refusal = record {
  clean = λ k. few clean Explains k (λ l u. omega arith);
  vote = λ {s = s} k. few vote (λ s. Near s (s.n / 2)) k (λ l u. omega arith);
  two = λ k. few two (λ s. Near s 2) k (λ l u. omega arith);
  nearest = λ k. few nearest (λ s. Near s (s.n - 1)) k (λ l u. omega arith);
  filled = λ {s} {w} {places} {x} k f. fill_few k (fill_status s w places x) refl f;
  restored = λ {s} {w} {places} {x} k f. restore_few k (fill_status s w places x) refl f;
  page = page_few;
  word_bytes = λ s bytes k h.
      let (law, h₁) = unless_passed (lawful s) _ _ (λ e. corrected_not _ k e) h in
      let (size, read) = unless_passed (eqb (length bytes) (4 * word_length s)) _ _ (λ e. corrected_not _ k e) h₁ in
      few clean Explains k (λ l u. omega arith) (decode_meets s (symbols_of bytes)) read;
  page_bytes = λ s bytes p c h.
      let (law, h₁) = unless_passed (lawful s) _ _ no_page h in
      let (size, read) = unless_passed (eqb (length bytes) (4 * info_length s)) _ _ no_page h₁ in
      page_few s (symbols_of bytes) p c read;
  cover = λ σ bytes k h. rw (sym (cover_number (session_status σ) (eqb (length bytes) 256) (cover_count σ.calls) k h)) (cover_small σ.calls);
  counted = λ σ small f k h. rw (sym (count_number (session_status σ) (ltb f 256) (get_or σ.calls f 0) k h)) (small f);
  bill = bill_small;
}
