-- Two directions that part the wrong symbols show them: one of two guesses is right.
use mathlib.Core.Path.{◌≡◌, sym, ap, ap₂, ◌∙◌}
use mathlib.Core.Bool.{Bool, true, false, not, cond, ◌&&◌}
use mathlib.Core.List.{List}
use mathlib.Core.Logic.Dec
use mathlib.Core.Logic.{◌⊎◌, inl, inr, ⊎_elim}
use Prim.Native.Nat.{ℕ, ◌+◌, ◌*◌, ◌<◌}
use native.Mathlib.Decide.{ℕ_discrete}
use native.Mathlib.Omega.{arith}
use lib.Dec.{eqb}
use borrow.Author.Tests.{ne_eqb, eqb-true, eqb-false, not-true, not-false}
use Rattle.parity.specs.Xor.{◌⊕◌, when}
use Rattle.parity.specs.Count.{any}
use Rattle.parity.proofs.Xors.{self, twice, zero_l, zero_r, eq_of_zero, when_zero, when_here, when_there}
use Rattle.parity.proofs.XorSums.{none}
use Rattle.parity.proofs.Tests.{either, clash, and_both, not_of_false, any_elim, any_no}
use Rattle.parity.proofs.Pigeon.{count_others}
use Rattle.gtb.specs.declared.Shape.{Shape}
use Rattle.gtb.specs.Shape.{Lawful, word_length}
use Rattle.gtb.specs.Square.{line_of, at, syndrome, silent_test, Syndromes}
use Rattle.gtb.proofs.Lines.{line_lt}
use Rattle.gtb.proofs.Rows.{silent_hidden}
use Rattle.gtb.proofs.Words.{silent_test_lem, test_cong}
use Rattle.distance.specs.Distance.{differences, Near}
use Rattle.distance.proofs.Differences.{differs}
use Rattle.correction.specs.Error.{mended}
use Rattle.correction.proofs.Errors.{mended_at}
use Rattle.correction.proofs.Near.{error_of}
use Rattle.double.specs.Steps.{pair_of, FirstLine, LastLine, Parts}
use Rattle.double.proofs.Lone.{lone, lone_check}

-- the word differs from v at p and at r, which may be one position, and nowhere else
pub record Holds (s : Shape) (w v : List ℕ) (p r : ℕ) : Type 0 where
  pub below_p : p < word_length s
  pub below_r : r < word_length s
  pub here_p : at w p ≡ at v p → ⊥
  pub here_r : at w r ≡ at v r → ⊥
  pub nowhere : (j : ℕ) → j < word_length s → (at w j ≡ at v j → ⊥) → (j ≡ p) ⊎ (j ≡ r)

pub turned : {s : Shape} {w v : List ℕ} {p r : ℕ} → Holds s w v p r → Holds s w v r p
turned h = record {
  below_p = h.below_r;
  below_r = h.below_p;
  here_p = h.here_r;
  here_r = h.here_p;
  nowhere = λ j l d. ⊎_elim (λ e. inr e) (λ e. inl e) (h.nowhere j l d);
}

-- a word near v is v, or differs at one position or two
pub support : (s : Shape) (w v : List ℕ) (k : ℕ) → Near s 2 w v k
    → ((j : ℕ) → j < word_length s → at w j ≡ at v j) ⊎ ((p : ℕ) × (r : ℕ) × Holds s w v p r)
unfolding differences
support s w v k near =
    ⊎_elim
    (λ (some : any (word_length s) (differs v w) ≡ true).
    let (p, lp, hp) = any_elim (word_length s) (differs v w) some in
    let rest : ℕ → Bool = λ j. differs v w j && not (eqb j p) in
    let one = count_others (word_length s) (differs v w) p lp hp in
    let (r, lr, alone) = lone (word_length s) rest (omega arith) (omega (arith, near.changed, near.few)) in
    let only : (j : ℕ) → j < word_length s → (at w j ≡ at v j → ⊥) → (j ≡ p → ⊥) → j ≡ r =
    λ j l d ne. alone j l (and_both (not_of_false (ne_eqb (at v j) (at w j) (λ e. d (sym e)))) (not_of_false (ne_eqb j p ne))) in
    let dp : at w p ≡ at v p → ⊥ = λ e. eqb-false _ _ (not-true _ hp) (sym e) in
    ⊎_elim
    (λ (h : differs v w r ≡ true).
    inr (
      p,
      r,
      record {
        below_p = lp;
        below_r = lr;
        here_p = dp;
        here_r = λ e. eqb-false _ _ (not-true _ h) (sym e);
        nowhere = λ j l d. ⊎_elim (λ (t : eqb j p ≡ true). inl (eqb-true j p t)) (λ (f : eqb j p ≡ false). inr (only j l d (eqb-false j p f))) (either (eqb j p));
      },
    ))
    (λ (h : differs v w r ≡ false).
    inr (
      p,
      p,
      record {
        below_p = lp;
        below_r = lp;
        here_p = dp;
        here_r = dp;
        nowhere = λ j l d.
            inl
            ((Dec.not-not (ℕ_discrete j p)).0
            (λ ne. clash (not_of_false (ne_eqb (at v r) (at w r) (λ e. d (ap (at w) (only j l d ne) ∙ sym e ∙ sym (ap (at v) (only j l d ne)))))) h));
      },
    ))
    (either (differs v w r)))
    (λ (no : any (word_length s) (differs v w) ≡ false).
    inl (λ j l. sym (eqb-true (at v j) (at w j) (not-false (eqb (at v j) (at w j)) (any_no (word_length s) (differs v w) no j l)))))
    (either (any (word_length s) (differs v w)))

-- ---- one direction
module _ (s : Shape) (law : Lawful s) (w v syn : List ℕ) (k : ℕ) (y : Syndromes s w syn) (near : Near s 2 w v k) where
  -- the table shows the difference alone
  shows : (t L : ℕ) → t < s.n → L < s.q → at syn (t * s.q + L) ≡ syndrome s (error_of w v) t L
  shows t L lt lL = y.entry t L lt lL ∙ silent_hidden s (at w) (at v) near.codeword.checks t L lt lL

  -- where nothing differs
  pub shows_none : ((j : ℕ) → j < word_length s → at w j ≡ at v j) → (t L : ℕ) → t < s.n → L < s.q → at syn (t * s.q + L) ≡ 0
  unfolding syndrome
  shows_none same t L lt lL =
      shows t L lt lL
      ∙ none (word_length s) (λ j. when (eqb (line_of s t j) L) (error_of w v j))
      (λ j l. ap (when (eqb (line_of s t j) L)) (ap (λ (x : ℕ). x ⊕ at v j) (same j l) ∙ self (at v j)) ∙ when_zero (eqb (line_of s t j) L))

  module _ {p r : ℕ} (h : Holds s w v p r) (t : ℕ) (lt : t < s.n) where
    -- a line that is not silent has p or r on it
    on_line : (L : ℕ) → L < s.q → (at syn (t * s.q + L) ≡ 0 → ⊥) → (L ≡ line_of s t p) ⊎ (L ≡ line_of s t r)
    unfolding syndrome when
    on_line L lL nz =
        elim (ℕ_discrete L (line_of s t p)) [
          | yes e ↦ inl e
          | no np ↦ inr ((Dec.not-not (ℕ_discrete L (line_of s t r))).0 (λ nr. nz (shows t L lt lL ∙ none (word_length s) _ (zeros np nr))))
        ]
      where
        zeros : (L ≡ line_of s t p → ⊥) → (L ≡ line_of s t r → ⊥) → (j : ℕ) → j < word_length s → when (eqb (line_of s t j) L) (error_of w v j) ≡ 0
        zeros np nr j lj =
            ⊎_elim
            (λ (l : eqb (line_of s t j) L ≡ true).
            ap (when (eqb (line_of s t j) L))
            (ap (λ (x : ℕ). x ⊕ at v j)
            ((Dec.not-not (ℕ_discrete (at w j) (at v j))).0
            (λ d.
            ⊎_elim (λ e. np (sym (eqb-true _ _ l) ∙ ap (line_of s t) e)) (λ e. nr (sym (eqb-true _ _ l) ∙ ap (line_of s t) e)) (h.nowhere j lj d)))
            ∙ self (at v j))
            ∙ when_zero (eqb (line_of s t j) L))
            (λ (l : eqb (line_of s t j) L ≡ false). ap (λ (b : Bool). when b (error_of w v j)) l)
            (either (eqb (line_of s t j) L))

    module _ (parted : Parts s w v t) where
      -- the line of p shows the difference at p
      at_p : at syn (t * s.q + line_of s t p) ≡ error_of w v p
      at_p =
          shows t (line_of s t p) lt (line_lt s law t p lt h.below_p)
          ∙ lone_check s (error_of w v) p t h.below_p
          (λ j lj ne l.
          ap (λ (x : ℕ). x ⊕ at v j) ((Dec.not-not (ℕ_discrete (at w j) (at v j))).0 (λ d. ne (parted.parts j p lj h.below_p d h.here_p l)))
          ∙ self (at v j))

      at_p_nonzero : at syn (t * s.q + line_of s t p) ≡ 0 → ⊥
      at_p_nonzero z = h.here_p (eq_of_zero (at w p) (at v p) (sym at_p ∙ z))

  -- the first line and the last are those of p and r, one way or the other
  pub ends : {p r : ℕ} → Holds s w v p r → (t : ℕ) → t < s.n → Parts s w v t → (a b : ℕ) → FirstLine s syn t a → LastLine s syn t b
      → ((a ≡ line_of s t p) × (b ≡ line_of s t r)) ⊎ ((a ≡ line_of s t r) × (b ≡ line_of s t p))
  ends {p} {r} h t lt parted a b fa lb =
      let (ap-le, anz) = fa.first (line_of s t p) (line_lt s law t p lt h.below_p) (at_p_nonzero h t lt parted) in
      let (ar-le, anz') = fa.first (line_of s t r) (line_lt s law t r lt h.below_r) (at_p_nonzero (turned h) t lt parted) in
      let (bp-le, bnz) = lb.last (line_of s t p) (line_lt s law t p lt h.below_p) (at_p_nonzero h t lt parted) in
      let (br-le, bnz') = lb.last (line_of s t r) (line_lt s law t r lt h.below_r) (at_p_nonzero (turned h) t lt parted) in
      ⊎_elim
      (λ (e : a ≡ line_of s t p).
      ⊎_elim (λ (f : b ≡ line_of s t p). inl (e, omega arith)) (λ (f : b ≡ line_of s t r). inl (e, f)) (on_line h t lt b lb.below bnz))
      (λ (e : a ≡ line_of s t r).
      ⊎_elim (λ (f : b ≡ line_of s t p). inr (e, f)) (λ (f : b ≡ line_of s t r). inr (e, omega arith)) (on_line h t lt b lb.below bnz))
      (on_line h t lt a fa.below anz)

  -- ---- the guess with p and r is right
  -- what the line of r shows, or 0 where it is that of p
  abbrev pub second : ℕ → ℕ → ℕ → ℕ
  second t a b = cond (eqb (t * s.q + a) (t * s.q + b)) 0 (at syn (t * s.q + b))

  pub error_right : {p r : ℕ} → Holds s w v p r → (t : ℕ) → t < s.n → Parts s w v t → (a b : ℕ) → a ≡ line_of s t p → b ≡ line_of s t r
      → (j : ℕ) → j < word_length s → pair_of p (at syn (t * s.q + a)) r (second t a b) j ≡ error_of w v j
  unfolding pair_of
  error_right {p} {r} h t lt parted a b ea eb j lj =
      let x : at syn (t * s.q + a) ≡ error_of w v p = ap (λ (L : ℕ). at syn (t * s.q + L)) ea ∙ at_p h t lt parted in
      let z : at syn (t * s.q + b) ≡ error_of w v r = ap (λ (L : ℕ). at syn (t * s.q + L)) eb ∙ at_p (turned h) t lt parted in
      let gone : (j ≡ p → ⊥) → (j ≡ r → ⊥) → error_of w v j ≡ 0 =
      λ np nr.
      ap (λ (m : ℕ). m ⊕ at v j) ((Dec.not-not (ℕ_discrete (at w j) (at v j))).0 (λ d. ⊎_elim np nr (h.nowhere j lj d))) ∙ self (at v j) in
      ⊎_elim
      (λ (same : eqb (t * s.q + a) (t * s.q + b) ≡ true).
      let line : line_of s t p ≡ line_of s t r = sym ea ∙ omega (arith, eqb-true (t * s.q + a) (t * s.q + b) same) ∙ eb in
      let pr = parted.parts p r h.below_p h.below_r h.here_p h.here_r line in
      rw (same, when_zero (eqb j r), zero_r, x)
      (elim (ℕ_discrete j p) [
        | yes e ↦ ap (λ (i : ℕ). when (eqb i p) (error_of w v p)) e ∙ when_here p (error_of w v p) ∙ ap (error_of w v) (sym e)
        | no ne ↦ when_there p (error_of w v p) j ne ∙ sym (gone ne (λ e. ne (e ∙ sym pr)))
      ]))
      (λ (other : eqb (t * s.q + a) (t * s.q + b) ≡ false).
      let ne : p ≡ r → ⊥ = λ e. eqb-false _ _ other (ap (λ (L : ℕ). t * s.q + L) (ea ∙ ap (line_of s t) e ∙ sym eb)) in
      rw (other, x, z)
      (elim (ℕ_discrete j p) [
        | yes e ↦
            ap₂ (λ (m l : ℕ). m ⊕ l) (ap (λ (i : ℕ). when (eqb i p) (error_of w v p)) e ∙ when_here p (error_of w v p))
            (when_there r (error_of w v r) j (λ f. ne (sym e ∙ f)))
            ∙ zero_r (error_of w v p) ∙ ap (error_of w v) (sym e)
        | no np ↦
            elim (ℕ_discrete j r) [
              | yes e ↦
                  ap₂ (λ (m l : ℕ). m ⊕ l) (when_there p (error_of w v p) j np)
                  (ap (λ (i : ℕ). when (eqb i r) (error_of w v r)) e ∙ when_here r (error_of w v r))
                  ∙ zero_l (error_of w v r) ∙ ap (error_of w v) (sym e)
              | no nr ↦ ap₂ (λ (m l : ℕ). m ⊕ l) (when_there p (error_of w v p) j np) (when_there r (error_of w v r) j nr) ∙ zero_l 0 ∙ sym (gone np nr)
            ]
      ]))
      (either (eqb (t * s.q + a) (t * s.q + b)))

  -- a pair that is the difference silences every check
  pub pair_silent : (a x b z : ℕ) → ((j : ℕ) → j < word_length s → pair_of a x b z j ≡ error_of w v j) → silent_test s (at (mended s w (pair_of a x b z))) ≡ true
  pair_silent a x b z same =
      test_cong s (at (mended s w (pair_of a x b z))) (at v)
      (λ j l. mended_at s w (pair_of a x b z) j l ∙ ap (λ (m : ℕ). at w j ⊕ m) (same j l) ∙ twice (at w j) (at v j))
      ∙ silent_test_lem s (at v) near.codeword.checks
