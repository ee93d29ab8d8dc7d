-- After a list that fits a recording: yes exactly for the functions from 1 on that some page has a mark for.
-- Of the session these laws use its definitions and what demand 3 says, and no law of its own.
use mathlib.Core.Path.{◌≡◌, refl, sym, ap, ◌∙◌}
use mathlib.Core.Bool.{Bool, true, false, not, ◌&&◌}
use mathlib.Core.List.{List, [], ◌∷◌}
use mathlib.Core.Logic.{◌↔◌, ⊎_elim}
use Prim.Native.Nat.{ℕ, zero, suc, ◌<◌, suc-le-suc}
use native.Mathlib.Nat.{not-suc-le-zero, le_of_suc-le-suc, le_step, lt-suc_self, zero-lt-suc}
use native.Mathlib.Omega.{arith}
use lib.Dec.{eqb, ltb}
use lib.ListN.{length, get_or}
use borrow.Author.Tests.{eq-eqb, ne_eqb, eqb-true, lt-ltb, ltb-true, ltb-false}
use Rattle.parity.specs.Count.{bit, sum, count}
use Rattle.parity.specs.Lists.{tabulate}
use Rattle.parity.proofs.Sums.{sum_suc, sum_zero, sum_term, bit_true, bit_false, count_cong}
use Rattle.parity.proofs.Tests.{either, clash, same, and_left, and_right, and_both, any_intro, any_elim}
use Rattle.parity.proofs.Lists.{at_tabulate, length_tabulate}
use Rattle.gtb.specs.declared.Shape.{Shape}
use Rattle.gtb.specs.Shape.{lawful}
use Rattle.session.specs.declared.Session.{Session}
use Rattle.session.specs.declared.Unlawful.{Unlawful}
use Rattle.session.specs.declared.Outcome.{Outcome}
use Rattle.session.specs.Session.{begun_session, Beginning, is_call, count_of, session_status}
use Rattle.session.specs.Arrival.{Ways, the_ways}
use Rattle.session.specs.Recording.{Sheet, sheet_at, Recording, tally, Arrival, Fits}
use Rattle.session.specs.Claim.{Run, Demand3, ClaimOf}
use Rattle.std.specs.Prelude.{Result, Ok}
use Rattle.gtb.specs.declared.Refusal.{Refusal}
use Rattle.coverage.specs.Coverage.{is_called, cover_byte, cover_bytes, cover_count, cover_of, bytes_after, Covering, Marked, is_marked, Viewed}

-- ---- the marks of one page

-- a mark from 1 on is counted for its function
mark_counted : (f : ℕ) (marks : List ℕ) (j : ℕ) → 0 < f → j < length marks → get_or marks j 0 ≡ f → 0 < count_of f marks
unfolding count_of
mark_counted f [] j above l is = absurd (not-suc-le-zero l)
mark_counted f (m ∷ marks) zero above l is =
    let yes : (eqb m f && is_call m) ≡ true = and_both (eq-eqb m f is) (ap (λ (b : Bool). not b) (ne_eqb m 0 (λ e. omega arith))) in
    omega (arith, bit_true yes)
mark_counted f (m ∷ marks) (suc j) above l is = omega (arith, mark_counted f marks j above (le_of_suc-le-suc l) is)

-- and what is counted is such a mark
counted_mark : (f : ℕ) (marks : List ℕ) → 0 < count_of f marks → (0 < f) × (j : ℕ) × (j < length marks) × (get_or marks j 0 ≡ f)
unfolding count_of
counted_mark f [] h = absurd (not-suc-le-zero h)
counted_mark f (m ∷ marks) h =
    ⊎_elim
    (λ (yes : (eqb m f && is_call m) ≡ true).
    let is = eqb-true m f (and_left (eqb m f) (is_call m) yes) in
    (above m f is (and_right (eqb m f) (is_call m) yes), 0, zero-lt-suc (length marks), is))
    (λ (no : (eqb m f && is_call m) ≡ false).
    let later = counted_mark f marks (omega (arith, bit_false no)) in
    (later.0, suc later.1, suc-le-suc later.2, later.3))
    (either (eqb m f && is_call m))
  where
    above : (m f : ℕ) → m ≡ f → is_call m ≡ true → 0 < f
    above zero f is call = absurd (clash call refl)
    above (suc k) f is call = omega arith

-- ---- all pages

-- a sum above zero has a term above zero
some_term : (n : ℕ) (f : ℕ → ℕ) → 0 < sum n f → (i : ℕ) × (i < n) × (0 < f i)
some_term zero f h = absurd (not-suc-le-zero (rw (sum_zero f) at h))
some_term (suc n) f h =
    ⊎_elim
    (λ (yes : ltb 0 (f n) ≡ true). (n, lt-suc_self n, ltb-true 0 (f n) yes))
    (λ (no : ltb 0 (f n) ≡ false).
    let before = some_term n f (omega (arith, sum_suc n f, ltb-false 0 (f n) no)) in
    (before.0, le_step before.1, before.2))
    (either (ltb 0 (f n)))

module _ (pages : List Sheet) (f : ℕ) where
  counted : 0 < tally pages (λ p. true) f → (0 < f) × Marked pages f
  unfolding tally
  counted h =
      let page = some_term (length pages) _ h in
      let mark = counted_mark f (sheet_at pages page.0).marks page.2 in
      (mark.0, record { page = page.0; below = page.1; mark = mark.1; within = mark.2; is = mark.3 })

  marked : 0 < f → Marked pages f → 0 < tally pages (λ p. true) f
  unfolding tally
  marked above m =
      omega (
        arith,
        mark_counted f (sheet_at pages m.page).marks m.mark above m.within m.is,
        sum_term (length pages) (λ i. count_of f (sheet_at pages i).marks) m.page m.below,
      )

  -- the test is the meaning
  pub marked_means : (is_marked pages f ≡ true) ↔ ((0 < f) × Marked pages f)
  unfolding is_marked
  marked_means = (
    λ t.
        let some = any_elim (length pages) _ (and_right (ltb 0 f) _ t) in
        let one = any_elim (length (sheet_at pages some.0).marks) _ some.2 in (
          ltb-true 0 f (and_left (ltb 0 f) _ t),
          record { page = some.0; below = some.1; mark = one.0; within = one.1; is = eqb-true _ f one.2 },
        ),
    λ m.
        and_both (lt-ltb 0 f m.0)
        (any_intro (length pages) _ m.1.page m.1.below
        (any_intro (length (sheet_at pages m.1.page).marks) _ m.1.mark m.1.within (eq-eqb _ f m.1.is))),
  )

  -- a count above zero is such a mark
  pub tally_marked : ltb 0 (tally pages (λ p. true) f) ≡ is_marked pages f
  tally_marked =
      same (λ t. marked_means.1 (counted (ltb-true 0 _ t)))
      (λ t. let m = marked_means.0 t in lt-ltb 0 _ (marked m.0 m.1))

-- ---- the theorem
yes_is : (b : Bool) → bit b ≡ 1 → b ≡ true
unfolding bit
yes_is true h = refl
yes_is false h = absurd (omega arith)

no_is : (b : Bool) → (b ≡ true → ⊥) → bit b ≡ 0
unfolding bit
no_is true h = absurd (h refl)
no_is false h = refl

pub recording_cover : {ways : Ways} {s : Shape} {pages : List Sheet} {begin : Result Session Unlawful} {arrivals : List Arrival} {answers : List Outcome} {end : Session} {bytes bytes' : List ℕ} {r : Result ℕ Refusal}
    → Recording s pages → Demand3 ways s pages begin arrivals answers end → length bytes ≡ 256 → Covering end bytes bytes' r → Viewed pages bytes' r
unfolding cover_of session_status cover_bytes cover_count
recording_cover {pages = pages} {end = end} {bytes = bytes} {bytes' = bytes'} {r = r} recording d size c =
    record { size = rw left (length_tabulate 256 _); yes = λ f l. (λ h. (marked_means pages f).0 (yes_is _ (sym (byte f l) ∙ h)), λ m. byte f l ∙ bit_true ((marked_means pages f).1 m)); no = λ f l none. byte f l ∙ no_is _ (λ t. none ((marked_means pages f).0 t)); number = answer ∙ ap Ok (count_cong 256 _ _ called) }
  where
    called : (f : ℕ) → f < 256 → is_called end.calls f ≡ is_marked pages f
    called f l = ap (λ (x : ℕ). ltb 0 x) (d.whole f l) ∙ tally_marked pages f

    answer : r ≡ Ok (count 256 (is_called end.calls))
    answer = c.answer ∙ rw (ap lawful d.every.shape ∙ recording.lawful, d.every.consistent, eq-eqb (length bytes) 256 size)

    left : bytes' ≡ tabulate 256 (cover_byte end.calls)
    left = c.left ∙ ap (bytes_after end bytes) answer

    byte : (f : ℕ) → f < 256 → get_or bytes' f 0 ≡ bit (is_marked pages f)
    byte f l = ap (λ (x : List ℕ). get_or x f 0) left ∙ at_tabulate 256 (cover_byte end.calls) f l ∙ ap bit (called f l)

-- from a recording, a list that fits it and a run to the bytes, if demand 3 is claimed: the crate above shows that
pub claimed_cover : {s : Shape} → ClaimOf the_ways s → {pages : List Sheet} {begin : Result Session Unlawful} {arrivals : List Arrival} {answers : List Outcome} {end : Session} {bytes bytes' : List ℕ} {r : Result ℕ Refusal}
    → Recording s pages → Fits the_ways s pages arrivals → Beginning s begin → Run the_ways (begun_session begin) arrivals answers end
    → length bytes ≡ 256 → Covering end bytes bytes' r → Viewed pages bytes' r
claimed_cover claim {pages} {begin} {arrivals} {answers} {end} recording fits made run =
    recording_cover recording (claim pages arrivals answers begin end recording fits made run)
