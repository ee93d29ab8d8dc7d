-- What an arrival that opens as a page brought, and the word that an arrival leaves.
use mathlib.Core.Path.{◌≡◌, refl, sym, ap, ◌∙◌}
use mathlib.Core.Bool.{Bool, true, false, cond, ◌&&◌}
use mathlib.Core.List.{List}
use mathlib.Core.Logic.{◌⊎◌, inl, inr}
use Prim.Native.Nat.{ℕ, ◌-◌}
use native.Mathlib.Omega.{arith}
use lib.Dec.{eqb}
use lib.ListN.{length, get_or}
use borrow.Author.Tests.{eqb-true}
use Rattle.parity.proofs.Tests.{and_right}
use Rattle.gtb.specs.declared.Shape.{Shape}
use Rattle.gtb.specs.declared.Refusal.{Refusal}
use Rattle.std.specs.Prelude.{Result, Ok, Err}
use Rattle.gtb.specs.Shape.{lawful, Lawful, shape_refusal, word_length, scratch_length}
use Rattle.gtb.specs.Positions.{extract_of}
use Rattle.gtb.specs.Answer.{unless}
use Rattle.distance.specs.Distance.{Near}
use Rattle.page.specs.Page.{page_of, marks_of}
use Rattle.page.proofs.Pages.{read_write}
use Rattle.session.specs.declared.Session.{Session}
use Rattle.session.specs.declared.Outcome.{Outcome}
use Rattle.session.specs.declared.Outcome.TheVariants.{Taken, Again, Refused}
use Rattle.session.specs.declared.Arrived.{Arrived}
use Rattle.session.specs.Session.{past, overflows}
use Rattle.session.specs.Arrival.{is_way, way_of, the_ways, Opened, Page, Bad, open_page, open_word, opened, arrival_status, presented, outcome_of, word_after, Arriving}
use Rattle.session.specs.Recording.{Sheet, Arrival, Brings}
use Rattle.session.specs.Left.{Restored, Leaves}
use Rattle.session.proofs.Ways.{all_read, all_sound}
use Rattle.session.proofs.Agreement.{way_read, read_near}

-- ---- what a page says of the tests before it

-- the tests were passed, and the word was read to this page
record ReadPage (number k : ℕ) (marks : List ℕ) (s : Shape) (way : ℕ) (word scratch : List ℕ) : Type 0 where
  pub known : is_way way ≡ true
  pub lawful : Lawful s
  pub room : length scratch ≡ scratch_length s
  pub answer : (way_of way).answer s word ≡ Ok k
  pub count : ℕ
  pub page : page_of s (extract_of s ((way_of way).word s word)) ≡ Ok (number, count)
  pub listed : marks_of s (extract_of s ((way_of way).word s word)) ≡ marks

module _ {number k : ℕ} {marks : List ℕ} where
  unless_page : (t : Bool) (e : Refusal) {next : Opened} → unless t (Bad e) next ≡ Page number marks k → (t ≡ true) × (next ≡ Page number marks k)
  unless_page true e h = (refl, h)
  unless_page false e h = let z : ◌≡◌ {A = ℕ} 0 1 = cc in absurd (omega arith)

  past_page : (t : Result (Unit {0}) Refusal) {next : Opened} → past t Bad next ≡ Page number marks k → next ≡ Page number marks k
  past_page (Ok tt) h = h
  past_page (Err e) h = let z : ◌≡◌ {A = ℕ} 0 1 = cc in absurd (omega arith)

  symbols_page : (s : Shape) (symbols : List ℕ) (c : ℕ) (r : Result (ℕ × ℕ) Refusal) → open_page s symbols c r ≡ Page number marks k
      → (c ≡ k) × (m : ℕ) × (r ≡ Ok (number, m)) × (marks_of s symbols ≡ marks)
  symbols_page s symbols c (Ok (p, m)) h = (cc, m, cc, cc)
  symbols_page s symbols c (Err e) h = let z : ◌≡◌ {A = ℕ} 0 1 = cc in absurd (omega arith)

  word_page : (s : Shape) (v : List ℕ) (r : Result ℕ Refusal) → open_word s v r ≡ Page number marks k
      → (r ≡ Ok k) × (m : ℕ) × (page_of s (extract_of s v) ≡ Ok (number, m)) × (marks_of s (extract_of s v) ≡ marks)
  word_page s v (Ok c) h =
      let (same, m, is, listed) = symbols_page s (extract_of s v) c (page_of s (extract_of s v)) h in
      (ap Ok same, m, is, listed)
  word_page s v (Err e) h = let z : ◌≡◌ {A = ℕ} 0 1 = cc in absurd (omega arith)

  opened_page : (s : Shape) (way : ℕ) (word scratch : List ℕ) → opened the_ways s way word scratch ≡ Page number marks k → ReadPage number k marks s way word scratch
  unfolding opened
  opened_page s way word scratch h =
      let (known, h₁) = unless_page (is_way way) Refusal.Shape h in
      let (law, h₂) = unless_page (lawful s) (shape_refusal s) h₁ in
      let (suits, h₃) = unless_page ((way_of way).suits s) Refusal.Directions h₂ in
      let (size, h₄) = unless_page (eqb (length word) (word_length s) && eqb (length scratch) (scratch_length s)) Refusal.Length h₃ in
      let (answer, m, is, listed) = word_page s ((way_of way).word s word) ((way_of way).answer s word) h₄ in
      record {
        known = known;
        lawful = law;
        room = eqb-true _ _ (and_right (eqb (length word) (word_length s)) _ size);
        answer = answer;
        count = m;
        page = is;
        listed = listed;
      }

  -- the word that was read is the codeword with that page
  read_restored : {s : Shape} {way : ℕ} {word scratch : List ℕ} → ReadPage number k marks s way word scratch → Restored s word ((way_of way).word s word) number k
  read_restored {s} {way} {word} r =
      let near : Near s (s.n - 1) word ((way_of way).word s word) k = read_near s r.lawful (way_read way s word k r.answer) refl in
      record { codeword = near.codeword; changed = near.changed; marks = r.count; page = r.page }

-- whatever opens as a page is brought: a stored word of that page with damage that the way allows
pub opened_brought : (s : Shape) (a : Arrival) (p : Sheet) (k : ℕ) → opened the_ways s a.way a.word a.scratch ≡ Page p.number p.marks k → Brings the_ways s a p k
opened_brought s a p k h =
    let r = opened_page s a.way a.word a.scratch h in
    let v : List ℕ = (way_of a.way).word s a.word in
    let x = (all_read a.way).reached s a.word k r.answer in
    let (writes, symbols) = read_write s (extract_of s v) p.number r.count r.page in
    record {
      known = r.known;
      stored = v;
      encodes = record { codeword = x.codeword; information = sym (rw r.listed at symbols) };
      error = x.damages.error;
      damage = x.damages.word;
      allowed = x.allowed;
      changed = x.damages.changed;
      word = x.damages.received;
      scratch = r.room;
    }

-- ---- what an answer says of what was brought

-- the answer is taken or again with this page and number
abbrev Accepts : Outcome → ℕ → ℕ → Type 0
Accepts r number k = (r ≡ Taken number k) ⊎ (r ≡ Again number k)

answer_page : (again over : Bool) (p c number k : ℕ) → Accepts (cond again (Again p c) (cond over (Refused Refusal.Overflow) (Taken p c))) number k
    → (p ≡ number) × (c ≡ k)
answer_page true over p c number k (inl h) = let z : ◌≡◌ {A = ℕ} 0 1 = cc in absurd (omega arith)
answer_page true over p c number k (inr h) = (cc, cc)
answer_page false true p c number k (inl h) = let z : ◌≡◌ {A = ℕ} 0 1 = cc in absurd (omega arith)
answer_page false true p c number k (inr h) = let z : ◌≡◌ {A = ℕ} 0 1 = cc in absurd (omega arith)
answer_page false false p c number k (inl h) = (cc, cc)
answer_page false false p c number k (inr h) = let z : ◌≡◌ {A = ℕ} 0 1 = cc in absurd (omega arith)

accepted_page : (σ : Session) (o : Opened) (number k : ℕ) → Accepts (outcome_of σ o) number k → (marks : List ℕ) × (o ≡ Page number marks k)
unfolding outcome_of
accepted_page σ (Page p marks c) number k h =
    let (same, alike) = answer_page (get_or σ.taken p false) (overflows σ.calls marks) p c number k h in
    (marks, rw (same, alike))
accepted_page σ (Bad e) number k (inl h) = let z : ◌≡◌ {A = ℕ} 0 1 = cc in absurd (omega arith)
accepted_page σ (Bad e) number k (inr h) = let z : ◌≡◌ {A = ℕ} 0 1 = cc in absurd (omega arith)

-- ---- the theorems, at any session and by any way

after_accepted : (r : Outcome) (w v : List ℕ) → ((e : Refusal) → r ≡ Refused e → ⊥) → (word_after w v r ≡ v) × (number : ℕ) × (k : ℕ) × Accepts r number k
after_accepted (Taken number k) w v h = (refl, number, k, inl refl)
after_accepted (Again number k) w v h = (refl, number, k, inr refl)
after_accepted (Refused e) w v h = absurd (h e refl)

module _ {σ : Session} {way : ℕ} {word scratch word' scratch' : List ℕ} {r : Arrived} (a : Arriving the_ways σ way word scratch word' scratch' r) where
  read : (number k : ℕ) → Accepts r.outcome number k → (marks : List ℕ) × ReadPage number k marks σ.shape way word scratch
  unfolding presented
  read number k h =
      let (marks, brought) = accepted_page σ (presented the_ways σ way word scratch) number k (rw a.outcome at h) in
      (marks, opened_page σ.shape way word scratch (past_page (arrival_status the_ways σ way) brought))

  pub word_left_lem : Leaves σ.shape word word' r.outcome
  word_left_lem = record {
    refused = λ e is. rw is at a.word_left;
    taken = λ number k is. rw (rw is at a.word_left) (read_restored (read number k (inl is)).1);
    again = λ number k is. rw (rw is at a.word_left) (read_restored (read number k (inr is)).1);
  }

-- where the arrival brings a stored word, and is not refused, that one stands there
pub stored_left : {σ : Session} (a : Arrival) (p : Sheet) (k : ℕ) (b : Brings the_ways σ.shape a p k) {word' scratch' : List ℕ} {r : Arrived}
    → Arriving the_ways σ a.way a.word a.scratch word' scratch' r → ((e : Refusal) → r.outcome ≡ Refused e → ⊥) → word' ≡ b.stored
stored_left {σ} a p k b {r = r} h accepted =
    let s = σ.shape in
    let (stands, number, c, is) = after_accepted r.outcome a.word ((way_of a.way).word s a.word) accepted in
    let (answer, word, suits) = ((all_sound s (read h number c is).1.lawful).sound a.way b.known).right b.stored b.error b.encodes.codeword b.damage b.allowed in
    h.word_left ∙ stands ∙ ap ((way_of a.way).word s) b.word ∙ word
