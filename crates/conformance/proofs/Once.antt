-- The paper leaves no choice: for each entry, any two outcomes that it allows have the same answer and leave the same in all lent memory.
use mathlib.Core.Path.{◌≡◌, sym, ap, ◌∙◌}
use mathlib.Core.List.{List, []}
use mathlib.Core.Logic.{◌⊎◌, inl, inr, ⊎_elim, ◌≢◌}
use Prim.Native.Nat.{ℕ, zero, suc, ◌+◌, ◌^◌, ◌<◌}
use native.Mathlib.Omega.{arith}
use lib.Dec.{eqb}
use lib.ListN.{length, get_or}
use lib.Seq.{ext_get_or}
use Rattle.parity.specs.Count.{count}
use Rattle.paper.specs.Paper as paper
use Rattle.gtb.specs.declared.Shape.{Shape}
use Rattle.gtb.specs.Shape.{Lawful, of}
use Rattle.gtb.specs.Square.{Word}
use Rattle.gtb.specs.Positions.{Encodes}
use Rattle.gtb.proofs.Words.{narrow_word}
use Rattle.gtb.proofs.Codewords.{codeword_unique}
use Rattle.correction.specs.Reading.{Reader, Meaning}
use Rattle.correction.proofs.Readings.{Meant}
use Rattle.decoder.proofs.Meaning.{clean_meant}
use Rattle.majority.proofs.Meaning.{vote_meant}
use Rattle.double.proofs.Meaning.{two_meant}
use Rattle.gtb.proofs.Judging.{passes, equal, judged_once}
use Rattle.gtb.proofs.Conditions.{to, lawful_of, decides_width}
use Rattle.gtb.proofs.Stored.{stored_codeword}
use Rattle.correction.proofs.Paper.{Named}
use Rattle.decoder.proofs.Paper.{clean_named}
use Rattle.majority.proofs.Paper.{vote_named}
use Rattle.double.proofs.Paper.{two_named}
use Rattle.conformance.proofs.Rising.{data_digits}
use Rattle.conformance.proofs.Bringing.{page_unique}

-- ---- lists
pub alike : (xs ys : List ℕ) → length xs ≡ length ys → ¬ (xs ≢ ys) → xs ≡ ys
alike xs ys size h = ext_get_or 0 xs ys size (λ j l. equal (λ other. h (λ same. other (ap (λ (zs : List ℕ). get_or zs j 0) same))))

-- ---- what is read
module _ (s : Shape) (law : Lawful s) where
  pub word_of : {w : List ℕ} → ¬ (length w ≢ paper.N (of s)) → ¬ paper.Wide (of s) w → Word s w
  word_of {w} size slim = narrow_word s w (equal size) (passes (decides_width s w) slim)

  module _ {w v u : List ℕ} (hw : Word s w) where
    read_by : {way : ℕ} {reader : Reader} {Means : Meaning} → Named way reader Means s → Meant reader Means → ¬ paper.TooFew (of s) way
        → paper.Read (of s) way w v → paper.Read (of s) way w u → v ≡ u
    read_by {reader = reader} named m enough x y =
        let fits = passes (named.suits law) enough in
        let (k, a) = named.means hw x in
        let (c, b) = named.means hw y in
        sym (m.gives s law fits w v k a).word ∙ (m.gives s law fits w u c b).word

    pub read_once : (way : ℕ) → ¬ (2 < way) → ¬ paper.TooFew (of s) way → paper.Read (of s) way w v → paper.Read (of s) way w u → v ≡ u
    read_once zero known = read_by (clean_named s) clean_meant
    read_once (suc zero) known = read_by (vote_named s) vote_meant
    read_once (suc (suc zero)) known = read_by (two_named s) two_meant
    read_once (suc (suc (suc way))) known = absurd (known (omega arith))

  pub digits_once : {w d e : List ℕ} → paper.DataDigits (of s) w d → paper.DataDigits (of s) w e → d ≡ e
  digits_once {w} {d} {e} x y = data_digits s law w d x ∙ sym (data_digits s law w e y)

  stored_once : {d w v : List ℕ} → paper.Stored (of s) w → paper.DataDigits (of s) w d → paper.Stored (of s) v → paper.DataDigits (of s) v d → w ≡ v
  stored_once {d} {w} {v} hw x hv y =
      let ew : Encodes s d w = record { codeword = stored_codeword s hw; information = sym (data_digits s law w d x) } in
      let ev : Encodes s d v = record { codeword = stored_codeword s hv; information = sym (data_digits s law v d y) } in
      codeword_unique s law d w v ew ev

module _ (s : paper.Shape) where
  -- ---- the page
  pub page_reading_once : (digits : List ℕ) {r t : ℕ} → paper.PageReading s digits r → paper.PageReading s digits t → r ≡ t
  page_reading_once digits {r} {t} =
      judged_once (paper.page_tests s digits) (λ k. r ≡ paper.refusal k) (λ k. t ≡ paper.refusal k) _ _ (r ≡ t) (λ k x y. x ∙ sym y) (λ _ x y. x ∙ sym y)

  pub marks_once : (digits : List ℕ) {r t : List ℕ} → paper.Marks s digits r → paper.Marks s digits t → r ≡ t
  marks_once digits {r} {t} = judged_once (paper.page_tests s digits) (λ k. r ≡ []) (λ k. t ≡ []) _ _ (r ≡ t) (λ k x y. x ∙ sym y) (λ _ x y. x ∙ sym y)

  pub page_writing_once : (page : ℕ) (marks digits : List ℕ) {d e : List ℕ} {r t : ℕ} → paper.PageWriting s page marks digits d r → paper.PageWriting s page marks digits e t
      → (d ≡ e) × (r ≡ t)
  page_writing_once page marks digits {d} {e} {r} {t} =
      judged_once (paper.page_write_tests s page marks digits)
      (λ k. (r ≡ paper.refusal k) × (d ≡ digits)) (λ k. (t ≡ paper.refusal k) × (e ≡ digits)) _ _ ((d ≡ e) × (r ≡ t))
      (λ k x y. (x.1 ∙ sym y.1, x.0 ∙ sym y.0))
      (λ _ x y. (page_unique (to s) x.1 y.1, x.0 ∙ sym y.0))

  -- ---- writing and extraction
  module _ (digits scratch word : List ℕ) {x₁ x₂ : List ℕ} {r t : ℕ} where
    pub writing_once : {w v : List ℕ} → paper.Writing s digits scratch word x₁ w r → paper.Writing s digits scratch word x₂ v t → (w ≡ v) × (x₁ ≡ x₂) × (r ≡ t)
    writing_once {w} {v} =
        judged_once (paper.write_tests s digits scratch word digits)
        (λ k. (r ≡ paper.refusal k) × (w ≡ word) × (x₁ ≡ paper.scratch_left k scratch)) (λ k. (t ≡ paper.refusal k) × (v ≡ word) × (x₂ ≡ paper.scratch_left k scratch)) _ _
        ((w ≡ v) × (x₁ ≡ x₂) × (r ≡ t))
        (λ k x y. (x.1 ∙ sym y.1, x.2 ∙ sym y.2, x.0 ∙ sym y.0))
        (λ passed x y. let (listed, (right, others)) = passed in
        (stored_once (to s) (lawful_of (to s) listed right) x.1 x.2 y.1 y.2, x.3 ∙ sym y.3, x.0 ∙ sym y.0))

    pub extraction_once : {d e : List ℕ} → paper.Extraction s word scratch digits x₁ d r → paper.Extraction s word scratch digits x₂ e t → (d ≡ e) × (x₁ ≡ x₂) × (r ≡ t)
    extraction_once {d} {e} =
        judged_once (paper.write_tests s digits scratch word word)
        (λ k. (r ≡ paper.refusal k) × (d ≡ digits) × (x₁ ≡ paper.scratch_left k scratch)) (λ k. (t ≡ paper.refusal k) × (e ≡ digits) × (x₂ ≡ paper.scratch_left k scratch)) _ _
        ((d ≡ e) × (x₁ ≡ x₂) × (r ≡ t))
        (λ k x y. (x.1 ∙ sym y.1, x.2 ∙ sym y.2, x.0 ∙ sym y.0))
        (λ passed x y. let (listed, (right, others)) = passed in
        (digits_once (to s) (lawful_of (to s) listed right) x.1 y.1, x.2 ∙ sym y.2, x.0 ∙ sym y.0))

  -- ---- reading, and checking what was restored
  pub same_changed : (word : List ℕ) {w v : List ℕ} {r t : ℕ} → w ≡ v → r ≡ paper.changed s word w → t ≡ paper.changed s word v → r ≡ t
  same_changed word e x y = x ∙ ap (paper.changed s word) e ∙ sym y

  pub reading_once : (way : ℕ) → ¬ (2 < way) → (word : List ℕ) {w v : List ℕ} {r t : ℕ} → paper.Reading s way word w r → paper.Reading s way word v t → (w ≡ v) × (r ≡ t)
  reading_once way known word {w} {v} {r} {t} =
      judged_once (paper.read_tests s way word)
      (λ k. (r ≡ paper.refusal k) × (w ≡ word)) (λ k. (t ≡ paper.refusal k) × (v ≡ word)) _ _ ((w ≡ v) × (r ≡ t))
      (λ k x y. (x.1 ∙ sym y.1, x.0 ∙ sym y.0))
      (λ passed x y. let (listed, (right, (enough, (size, (slim, others))))) = passed in
      let law = lawful_of (to s) listed right in
      let e : w ≡ v = read_once (to s) law (word_of (to s) law size slim) way known enough x.0 y.0 in
      (e, same_changed word e x.1 y.1))

  pub checking_once : (word proposal : List ℕ) {r t : ℕ} → paper.Checking s word proposal r → paper.Checking s word proposal t → r ≡ t
  checking_once word proposal {r} {t} =
      judged_once (paper.check_tests s word proposal) (λ k. r ≡ paper.refusal k) (λ k. t ≡ paper.refusal k) _ _ (r ≡ t) (λ k x y. x ∙ sym y)
      (λ _ x y.
      ⊎_elim
      (λ yes. ⊎_elim (λ too. yes.1 ∙ sym too.1) (λ none. absurd (none.0 yes.0)) y)
      (λ none. ⊎_elim (λ yes. absurd (none.0 yes.0)) (λ too. none.1 ∙ sym too.1) y)
      x)

  -- ---- dead cells
  pub filling_once : (word places scratch : List ℕ) {w v x₁ x₂ : List ℕ} {r t : ℕ} → paper.Filling s word places scratch w x₁ r → paper.Filling s word places scratch v x₂ t
      → (w ≡ v) × (x₁ ≡ x₂) × (r ≡ t)
  filling_once word places scratch {w} {v} {x₁} {x₂} {r} {t} =
      judged_once (paper.fill_tests s word places scratch)
      (λ k. (r ≡ paper.refusal k) × (w ≡ word) × (x₁ ≡ paper.scratch_left k scratch)) (λ k. (t ≡ paper.refusal k) × (v ≡ word) × (x₂ ≡ paper.scratch_left k scratch)) _ _
      ((w ≡ v) × (x₁ ≡ x₂) × (r ≡ t))
      (λ k x y. (x.1 ∙ sym y.1, x.2 ∙ sym y.2, x.0 ∙ sym y.0))
      (λ passed x y. let (listed, (right, (size, (slim, (up, (some, (single, others))))))) = passed in
      let e : w ≡ v = alike w v (x.0.stored.digits.number ∙ sym y.0.stored.digits.number) (λ differ. single (w, v, x.0, y.0, differ)) in
      (e, x.2 ∙ sym y.2, same_changed word e x.1 y.1))

  -- ---- the fresh session: beside a refusal the session is nobody's
  pub beginning_once : {σ τ : paper.Session} {r t : ℕ} → paper.Beginning s σ r → paper.Beginning s τ t → (r ≡ t) × (r ≡ 0 → σ ≡ τ)
  beginning_once {σ} {τ} {r} {t} =
      judged_once (paper.fresh_tests s) (λ k. r ≡ paper.refusal k) (λ k. t ≡ paper.refusal k) _ _ ((r ≡ t) × (r ≡ 0 → σ ≡ τ))
      (λ k x y. (x ∙ sym y, λ z. absurd (let big : r ≡ 2 ^ 31 + k = x in omega arith)))
      (λ _ x y. (x.0 ∙ sym y.0, λ _. x.1 ∙ sym y.1))

-- ---- what is asked of a session
module _ (σ : paper.Session) where
  pub counting_once : (f : ℕ) {r t : ℕ} → paper.Counting σ f r → paper.Counting σ f t → r ≡ t
  counting_once f {r} {t} =
      judged_once (paper.count_tests σ f) (λ k. r ≡ 2 ^ 32 + k) (λ k. t ≡ 2 ^ 32 + k) _ _ (r ≡ t) (λ k x y. x ∙ sym y) (λ _ x y. x ∙ sym y)

  rounded_once : {m r t : ℕ} → paper.RoundedUp m r → paper.RoundedUp m t → r ≡ t
  rounded_once x y =
      let a = x.enough in
      let b = x.least in
      let c = y.enough in
      let d = y.least in
      omega arith

  pub billing_once : (prices : List ℕ) {r t : ℕ} → paper.Billing σ prices r → paper.Billing σ prices t → r ≡ t
  billing_once prices {r} {t} =
      judged_once (paper.bill_tests σ prices) (λ k. r ≡ 2 ^ 63 + k) (λ k. t ≡ 2 ^ 63 + k) _ _ (r ≡ t) (λ k x y. x ∙ sym y) (λ _. rounded_once)

  same_byte : {calls a b : ℕ} → ((0 < calls) × (a ≡ 1)) ⊎ ((calls ≡ 0) × (a ≡ 0)) → ((0 < calls) × (b ≡ 1)) ⊎ ((calls ≡ 0) × (b ≡ 0)) → a ≡ b
  same_byte (inl (some, x)) (inl (too, y)) = x ∙ sym y
  same_byte (inl (some, x)) (inr (none, y)) = absurd (omega arith)
  same_byte (inr (none, x)) (inl (some, y)) = absurd (omega arith)
  same_byte (inr (none, x)) (inr (too, y)) = x ∙ sym y

  pub covering_once : (bytes : List ℕ) {c d : List ℕ} {r t : ℕ} → paper.Covering σ bytes c r → paper.Covering σ bytes d t → (c ≡ d) × (r ≡ t)
  covering_once bytes {c} {d} {r} {t} =
      judged_once (paper.cover_tests σ bytes) (λ k. (r ≡ paper.refusal k) × (c ≡ bytes)) (λ k. (t ≡ paper.refusal k) × (d ≡ bytes)) _ _ ((c ≡ d) × (r ≡ t))
      (λ k x y. (x.1 ∙ sym y.1, x.0 ∙ sym y.0))
      (λ _ x y.
      let e : c ≡ d = ext_get_or 0 c d (x.0 ∙ sym y.0) (λ f l. let lf : f < 256 = rw x.0 at l in same_byte (x.1 f lf) (y.1 f lf)) in
      (e, x.2 ∙ ap (λ (b : List ℕ). count 256 (λ f. eqb (get_or b f 0) 1)) e ∙ sym y.2))
