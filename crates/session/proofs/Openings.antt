-- What an arrival can bring: a page with a number below 1024 and at most 898 marks, or a refusal that is neither 9 nor 11.
use mathlib.Core.Path.{◌≡◌, refl}
use mathlib.Core.Bool.{Bool, true, false, ◌&&◌}
use mathlib.Core.List.{List}
use mathlib.Core.Logic.{⊎_elim}
use Prim.Native.Nat.{ℕ, ◌<◌, ◌≤◌}
use native.Mathlib.Omega.{arith}
use lib.Dec.{eqb}
use lib.ListN.{length}
use borrow.Author.Tests.{eqb-true, lt-leb}
use Rattle.parity.proofs.Tests.{clash, or_cases}
use Rattle.gtb.proofs.Answers.{unless_never, Foreign, late_foreign}
use Rattle.page.proofs.Refusals.{page_never}
use Rattle.decoder.specs.Decode.{decode_of, restored}
use Rattle.decoder.proofs.Meaning.{decode_never}
use Rattle.gtb.specs.declared.Shape.{Shape}
use Rattle.gtb.specs.declared.Refusal.{Refusal}
use Rattle.gtb.specs.Shape.{lawful, Lawful, word_length, scratch_length, shape_refusal}
use Rattle.gtb.specs.Positions.{extract_of}
use Rattle.gtb.specs.Answer.{refusal_number, unless}
use Rattle.gtb.proofs.Sizes.{sizes}
use Rattle.std.specs.Prelude.{Result, Ok, Err}
use Rattle.page.specs.Page.{most, page_of}
use Rattle.page.proofs.Pages.{page_facts}
use Rattle.session.specs.Arrival.{by_session, Ways, AllSound, Opened, Page, Bad, open_page, open_word, is_way, way_of, the_ways, opened}

-- a page number that has a place, few marks; never 9 or 11
abbrev pub Sane : Opened → Type 0
Sane (Page number marks k) = (number < 1024) × (length marks ≤ 898)
Sane (Bad e) = by_session e ≡ true → ⊥

-- these two are given by none of the tests before the session's
pub session_foreign : (s : Shape) (e : Refusal) → by_session e ≡ true → Foreign s e
session_foreign s e h =
    ⊎_elim (λ (nine : eqb (refusal_number e) 9 ≡ true). let n = eqb-true (refusal_number e) 9 nine in late_foreign s e (omega arith) (λ x. omega arith))
    (λ (eleven : eqb (refusal_number e) 11 ≡ true). let n = eqb-true (refusal_number e) 11 eleven in late_foreign s e (omega arith) (λ x. omega arith))
    (or_cases (eqb (refusal_number e) 9) (eqb (refusal_number e) 11) h)

-- K - 2 is at most 898
few_marks : (s : Shape) → Lawful s → most s ≤ 898
few_marks s h = omega (arith, (sizes s h).info)

page_sane : (s : Shape) (symbols : List ℕ) (k : ℕ) (r : Result (ℕ × ℕ) Refusal) → page_of s symbols ≡ r → Sane (open_page s symbols k r)
page_sane s symbols k (Ok (number, c)) h =
    let f = page_facts s symbols number c h in
    (f.page, omega (arith, few_marks s f.lawful, f.few, f.length))
page_sane s symbols k (Err e) h = λ x. page_never s symbols e (session_foreign s e x) h

word_sane : (s : Shape) (v : List ℕ) (r : Result ℕ Refusal) → ((e : Refusal) → by_session e ≡ true → r ≡ Err e → ⊥) → Sane (open_word s v r)
word_sane s v (Ok k) h = page_sane s (extract_of s v) k (page_of s (extract_of s v)) refl
word_sane s v (Err e) h = λ x. h e x refl

unless_sane : (t : Bool) (e : Refusal) (next : Opened) → (t ≡ false → by_session e ≡ true → ⊥) → (t ≡ true → Sane next) → Sane (unless t (Bad e) next)
unless_sane true e next l h = h refl
unless_sane false e next l h = l refl

-- with two directions way 2 is turned down by 16, whatever is lent
pub two_directions : (s : Shape) (word scratch : List ℕ) → Lawful s → s.n < 3 → opened the_ways s 2 word scratch ≡ Bad Refusal.Directions
unfolding opened is_way way_of
two_directions s word scratch law few = rw (law, lt-leb 3 s.n few)

pub opened_sane : (ways : Ways) (s : Shape) → AllSound ways s → (way : ℕ) (word scratch : List ℕ) → Sane (opened ways s way word scratch)
unfolding opened
opened_sane ways s sound way word scratch =
    unless_sane (ways.known way) Refusal.Shape _ (λ _ h. clash h refl)
    (λ known.
    unless_sane (lawful s) (shape_refusal s) _ (λ no h. (session_foreign s (shape_refusal s) h).shape no refl)
    (λ _.
    unless_sane ((ways.named way).suits s) Refusal.Directions _ (λ _ h. clash h refl)
    (λ _.
    unless_sane (eqb (length word) (word_length s) && eqb (length scratch) (scratch_length s)) Refusal.Length _ (λ _ h. (session_foreign s Refusal.Length h).length refl)
    (λ _. word_sane s ((ways.named way).word s word) ((ways.named way).answer s word) ((sound.sound way known).never word)))))

-- ---- what an arrival read the clean way, number 0, is never turned down by
page_opens : (s : Shape) (symbols : List ℕ) (k : ℕ) (e : Refusal) (r : Result (ℕ × ℕ) Refusal) → (r ≡ Err e → ⊥) → open_page s symbols k r ≡ Bad e → ⊥
page_opens s symbols k e (Ok (number, c)) ne h = let z : ◌≡◌ {A = ℕ} 0 1 = cc in omega arith
page_opens s symbols k e (Err e') ne h = ne (cc)

word_opens : (s : Shape) (v : List ℕ) (e : Refusal) → Foreign s e → (r : Result ℕ Refusal) → (r ≡ Err e → ⊥) → open_word s v r ≡ Bad e → ⊥
word_opens s v e f (Ok k) ne = page_opens s (extract_of s v) k e (page_of s (extract_of s v)) (page_never s (extract_of s v) e f)
word_opens s v e f (Err e') ne = λ h. ne (cc)

pub opened_never : (s : Shape) (word scratch : List ℕ) (e : Refusal) → Foreign s e → opened the_ways s 0 word scratch ≡ Bad e → ⊥
unfolding opened is_way way_of
opened_never s word scratch e f =
    unless_never (lawful s) (Bad (shape_refusal s)) _ (λ no h. f.shape no (cc))
    (unless_never (eqb (length word) (word_length s) && eqb (length scratch) (scratch_length s)) (Bad Refusal.Length) _ (λ _ h. f.length (cc))
    (word_opens s (restored s word) e f (decode_of s word) (decode_never s word e f)))
