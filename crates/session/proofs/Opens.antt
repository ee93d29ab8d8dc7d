-- The first step of an arrival, and both steps: what a word brings, and what the session makes of it.
use mathlib.Core.Path.{◌≡◌, sym, ap, ap₂, ◌∙◌, subst}
use mathlib.Core.Bool.{Bool, true, false, cond}
use mathlib.Core.List.{List}
use Prim.Native.Nat.{ℕ, ◌+◌, ◌-◌, ◌^◌}
use native.Mathlib.Omega.{arith}
use lib.ListN.{length, get_or, take, drop}
use lib.Dec.{ltb}
use borrow.Author.Tests.{lt-ltb}
use Rattle.parity.proofs.Tests.{all_intro}
use Rattle.parity.proofs.Lists.{at_tabulate, length_tabulate}
use Rattle.gtb.specs.declared.Shape.{Shape}
use Rattle.gtb.specs.declared.Refusal.{Refusal}
use Rattle.gtb.specs.Shape.{info_length}
use Rattle.gtb.specs.Square.{at, narrow, Word}
use Rattle.gtb.specs.Positions.{info_position, extract_of}
use Rattle.std.specs.Prelude.{Result, Ok, Err, is_ok}
use Rattle.correction.specs.Answer.{decoded_word}
use Rattle.page.specs.Page.{page_of}
use Rattle.page.proofs.Pages.{marks_of_lem, page_facts, marks_within}
use Rattle.page.proofs.Parts.{marks_part}
use Rattle.session.specs.declared.Session.{Session}
use Rattle.session.specs.declared.Brought.{Brought}
use Rattle.session.specs.declared.Unopened.{Unopened}
use Rattle.session.specs.declared.Outcome.TheVariants.{Again, Refused}
use Rattle.session.specs.declared.Arrived.{Arrived}
use Rattle.session.specs.Arrival.{Way, way_of, Opened, Page, Bad, open_page, open_word, is_accepted}
use Rattle.session.specs.Steps.{Functions, Reading, Settling, page_brought, told, Readable, Tells, brought_or, is_restored, Opens, Keeps, Deciding}
use Rattle.session.proofs.Settle.{settle_bad, settle_again}
use Rattle.session.proofs.Ways.{all_read}

-- a refusal alone
pub tells_refused : {o : Opened} {symbols : List ℕ} {e : Refusal} → o ≡ Bad e → Tells o symbols (Err e)
tells_refused h = record { brought = sym h; readable = λ number c k is. let z : ◌≡◌ {A = ℕ} 0 1 = cc in absurd (omega arith) }

-- a page that is brought has its numbers
brought_same : {number c k number' c' k' : ℕ} → page_brought number c k ≡ page_brought number' c' k' → (number ≡ number') × (c ≡ c')
brought_same {number} {c} {k} {number'} {c'} {k'} h =
    let same : ◌≡◌ {A = Brought} (record { number = number; count = c; corrected = k }) (record { number = number'; count = c'; corrected = k' }) = cc in
    (ap (λ (x : Brought). x.number) same, ap (λ (x : Brought). x.count) same)

-- ---- the page in a word that was read
module _ (s : Shape) (word : List ℕ) (k : ℕ) {symbols : List ℕ} (gathered : symbols ≡ extract_of s word) {found : Result (ℕ × ℕ) Refusal} (answer : found ≡ page_of s symbols) where
  pub page_found : {r : Result (ℕ × ℕ) Refusal} → found ≡ r → open_word s word (Ok k) ≡ open_page s symbols k r
  page_found h = rw (← gathered, ← answer, h)

  pub tells_page : {number c : ℕ} → found ≡ Ok (number, c) → Tells (open_word s word (Ok k)) symbols (page_brought number c k)
  tells_page {number} {c} h =
      let is : page_of s symbols ≡ Ok (number, c) = sym answer ∙ h in
      let facts = page_facts s symbols number c is in
      let marks = marks_of_lem s symbols number c is in
      record {
        brought = sym (page_found h ∙ ap (λ (ms : List ℕ). Page number ms k) marks);
        readable = λ number' c' k' same.
            let (first, second) = brought_same same in
            rw (← first, ← second)
            (record {
              low = facts.page;
              room = marks_within s symbols number c is;
              marks = rw (← marks) (record { below = λ i l. facts.marks i (rw facts.length at l) });
            });
      }

-- its information symbols are below 2^b as the word is
pub gathered_narrow : (s : Shape) (word : List ℕ) {symbols : List ℕ} → Word s word → symbols ≡ extract_of s word → narrow s.b symbols ≡ true
unfolding narrow extract_of
gathered_narrow s word {symbols} h is =
    all_intro (length symbols) (λ j. ltb (at symbols j) (2 ^ s.b)) (λ j l. lt-ltb (at symbols j) (2 ^ s.b) (rw (is, at_tabulate (info_length s) _ j (rw (is, length_tabulate (info_length s)) at l)) (h.width (info_position s j))))

-- ---- a word, read by the way with this number
module _ (way : ℕ) (s : Shape) {word word' : List ℕ} {found : Result ℕ Refusal} (read : Reading (way_of way) s word word' found) where
  pub opens_refused : {e : Refusal} {symbols : List ℕ} → found ≡ Err e → Opens (way_of way) s word word' symbols (Err (record { refusal = e; restored = false }))
  opens_refused h = record {
    tells = tells_refused (rw (sym read.answer ∙ h));
    left = read.word ∙ ap (decoded_word word ((way_of way).word s word)) read.answer;
    told_left = read.word ∙ ap (decoded_word word ((way_of way).word s word)) h;
  }

  module _ {k : ℕ} (h : found ≡ Ok k) where
    answered : (way_of way).answer s word ≡ Ok k
    answered = sym read.answer ∙ h

    restored : word' ≡ (way_of way).word s word
    restored = read.word ∙ ap (decoded_word word ((way_of way).word s word)) h

    pub opens_word : Word s word'
    opens_word = rw restored ((all_read way).reached s word k answered).codeword.word

    pub opens_page : {symbols : List ℕ} {r : Result Brought Unopened} → is_restored r ≡ true → Tells (open_word s word' (Ok k)) symbols (brought_or r)
        → Opens (way_of way) s word word' symbols r
    opens_page {symbols} {r} stands tells = record {
      tells = subst (λ (o : Opened). Tells o symbols (brought_or r)) (rw (answered, ← restored)) tells;
      left = read.word ∙ ap (decoded_word word ((way_of way).word s word)) read.answer;
      told_left = restored ∙ sym (ap (λ (b : Bool). cond b ((way_of way).word s word) word) stands);
    }

-- the marks as the code lends them
pub lent_marks : {number c : ℕ} {symbols : List ℕ} → Readable number c symbols → Functions (take (2 + c - 2) (drop 2 symbols))
lent_marks {c = c} {symbols = symbols} h = rw (marks_part c symbols) h.marks

-- ---- what a session makes of what is told
module _ {o : Opened} {symbols : List ℕ} {found : Result Brought Refusal} (tells : Tells o symbols found) (σ : Session) where
  brings : {r : Result Brought Refusal} → found ≡ r → told r symbols ≡ o
  brings h = ap (λ (r : Result Brought Refusal). told r symbols) (sym h) ∙ tells.brought

  settles : {o' : Opened} {r : Arrived} → o' ≡ o → Settling σ o' r → Settling σ o r
  settles {r = r} is = subst (λ (x : Opened). Settling σ x r) is

  pub told_refused : {e : Refusal} → found ≡ Err e → Settling σ o (record { session = σ; outcome = Refused e })
  told_refused h = settles (brings h) settle_bad

  module _ {number c k : ℕ} (h : found ≡ page_brought number c k) where
    pub told_again : get_or σ.taken number false ≡ true → Settling σ o (record { session = σ; outcome = Again number k })
    told_again m = settles (brings h) (settle_again m)

    pub told_new : {r : Arrived} → Settling σ (Page number (take (2 + c - 2) (drop 2 symbols)) k) r → Settling σ o r
    told_new = settles (ap (λ (ms : List ℕ). Page number ms k) (marks_part c symbols) ∙ brings h)

-- ---- both steps
module _ {way : Way} (σ : Session) {word word' came symbols : List ℕ} {found : Result Brought Refusal} (keeps : Keeps way σ.shape word word' came symbols found) where
  pub decides_refused : {e : Refusal} → found ≡ Err e → {r : Arrived} → (r.session ≡ σ) × (r.outcome ≡ Refused e) → Deciding way σ word word' r
  decides_refused {e} h {r} (same, is) =
      let settled = told_refused keeps.tells σ h in
      record { settled = record { outcome = is ∙ settled.outcome; session = same ∙ settled.session }; word_left = keeps.left ∙ rw (h, is) }

  module _ {number c k : ℕ} (h : found ≡ page_brought number c k) where
    restored_word : word' ≡ way.word σ.shape word
    restored_word = keeps.left ∙ ap (λ (r : Result Brought Refusal). cond (is_ok r) (way.word σ.shape word) word) h

    pub decides_again : get_or σ.taken number false ≡ true → Deciding way σ word word' (record { session = σ; outcome = Again number k })
    decides_again m = record { settled = told_again keeps.tells σ h m; word_left = restored_word }

    -- what came is put back where the page is refused after all
    pub decides_new : {r : Arrived} {word'' : List ℕ} → Settling σ (Page number (take (2 + c - 2) (drop 2 symbols)) k) r → word'' ≡ cond (is_accepted r.outcome) word' came
        → Deciding way σ word word'' r
    decides_new {r} settled put = record {
      settled = told_new keeps.tells σ h settled;
      word_left = put ∙ ap₂ (λ (v w : List ℕ). cond (is_accepted r.outcome) v w) restored_word keeps.came;
    }
