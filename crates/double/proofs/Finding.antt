-- The attempts find the pair: two directions out of three part the wrong symbols.
use mathlib.Core.Path.{◌≡◌, sym, ap, ap₂, ◌∙◌}
use mathlib.Core.Bool.{true, false, cond}
use mathlib.Core.List.{List}
use mathlib.Core.Logic.{◌⊎◌, inl, inr, ⊎_elim}
use Prim.Native.Nat.{ℕ, ◌+◌, ◌*◌, ◌^◌, ◌<◌}
use native.Mathlib.Decide.{ℕ_discrete}
use native.Mathlib.Omega.{arith}
use lib.Dec.{eqb}
use lib.Pow.{pow_pos}
use Rattle.parity.specs.Xor.{◌⊕◌, when}
use Rattle.parity.proofs.Xors.{self, zero_l, when_zero}
use Rattle.parity.proofs.Tests.{either, clash}
use Rattle.std.specs.Prelude.{Option, Some, None}
use Rattle.std.specs.Option.{MatchOption}
use Rattle.gtb.specs.declared.Shape.{Shape}
use Rattle.gtb.specs.Shape.{Lawful, word_length}
use Rattle.gtb.specs.Square.{line_of, at, Word, Syndromes}
use Rattle.gtb.proofs.Lines.{share_one}
use Rattle.gtb.proofs.Rows.{syndrome_width}
use Rattle.distance.specs.Distance.{Near}
use Rattle.double.specs.declared.Pair.{Pair}
use Rattle.double.specs.Steps.{pair_of, FirstLine, LastLine, Crosses, Tried, Parts, Proposed, Attempted, FoundTwo}
use Rattle.double.proofs.Attempts.{Holds, turned, support, shows_none, ends, error_right, pair_silent}

-- the value of the first line, and of the last if it is another
abbrev pub value_of : Shape → List ℕ → ℕ → ℕ → ℕ
value_of s syn t a = at syn (t * s.q + a)

abbrev pub second_of : Shape → List ℕ → ℕ → ℕ → ℕ → ℕ
second_of s syn t a b = cond (eqb (t * s.q + a) (t * s.q + b)) 0 (at syn (t * s.q + b))

module _ (s : Shape) (law : Lawful s) (syn : List ℕ) (t u a b c d : ℕ) (tu : t < u) (lu : u < s.n)
    (fa : FirstLine s syn t a) (lb : LastLine s syn t b) (fc : FirstLine s syn u c) (ld : LastLine s syn u d) where
  -- both values are as narrow as the word
  value_narrow : (w : List ℕ) → Word s w → Syndromes s w syn → (L : ℕ) → L < s.q → value_of s syn t L < 2 ^ s.b
  value_narrow w hw y L lL = rw (y.entry t L (omega arith) lL) (syndrome_width s (at w) s.b t L (λ i l. hw.width i))

  second_narrow : (w : List ℕ) → Word s w → Syndromes s w syn → second_of s syn t a b < 2 ^ s.b
  second_narrow w hw y =
      ⊎_elim (λ (e : eqb (t * s.q + a) (t * s.q + b) ≡ true). rw e (pow_pos s.b))
      (λ (e : eqb (t * s.q + a) (t * s.q + b) ≡ false). rw e (value_narrow w hw y b lb.below))
      (either (eqb (t * s.q + a) (t * s.q + b)))

  -- the pair of these values at two positions
  abbrev guess : ℕ → ℕ → Pair
  guess i j = record { a = i; b = j; x = value_of s syn t a; y = second_of s syn t a b }

  proposes : {i j : ℕ} {p : Pair} → i < word_length s → j < word_length s → Tried s syn (guess i j) (Some p) → Proposed s syn p
  proposes li lj tried =
      rw tried.0 (record {
        below_a = li;
        below_b = lj;
        width = λ w hw y. (value_narrow w hw y a fa.below, second_narrow w hw y);
        works = tried.1;
      })

  module _ {i j k l : ℕ} (ci : Crosses s t u a c i) (cj : Crosses s t u b d j) (ck : Crosses s t u a d k) (cl : Crosses s t u b c l)
      (straight : Tried s syn (guess i j) None) (crossed : Tried s syn (guess k l) None) where
    module _ (w v : List ℕ) (m : ℕ) (y : Syndromes s w syn) (near : Near s 2 w v m) (pt : Parts s w v t) (pu : Parts s w v u) where
      -- line a is that of p, line b that of r
      by_lines : {p r : ℕ} → Holds s w v p r → a ≡ line_of s t p → b ≡ line_of s t r → ⊥
      by_lines {p} {r} h ea eb =
          let right = error_right s law w v syn m y near h t (omega arith) pt a b ea eb in
          ⊎_elim
          (λ (e : (c ≡ line_of s u p) × (d ≡ line_of s u r)).
          let pi = ci.meets p h.below_p (sym ea) (sym e.0) in
          let rj = cj.meets r h.below_r (sym eb) (sym e.1) in
          clash (pair_silent s law w v syn m y near i (value_of s syn t a) j (second_of s syn t a b) (rw (← pi, ← rj) right)) (straight w y))
          (λ (e : (c ≡ line_of s u r) × (d ≡ line_of s u p)).
          let pk = ck.meets p h.below_p (sym ea) (sym e.1) in
          let rl = cl.meets r h.below_r (sym eb) (sym e.0) in
          clash (pair_silent s law w v syn m y near k (value_of s syn t a) l (second_of s syn t a b) (rw (← pk, ← rl) right)) (crossed w y))
          (ends s law w v syn m y near h u lu pu c d fc ld)

      -- nothing differs: both values are 0
      by_none : ((j : ℕ) → j < word_length s → at w j ≡ at v j) → ⊥
      unfolding pair_of
      by_none same =
          let x : value_of s syn t a ≡ 0 = shows_none s law w v syn m y near same t a (omega arith) fa.below in
          let z : value_of s syn t b ≡ 0 = shows_none s law w v syn m y near same t b (omega arith) lb.below in
          let second : second_of s syn t a b ≡ 0 =
          ⊎_elim (λ (e : eqb (t * s.q + a) (t * s.q + b) ≡ true). rw e) (λ (e : eqb (t * s.q + a) (t * s.q + b) ≡ false). rw e z)
          (either (eqb (t * s.q + a) (t * s.q + b))) in
          clash
          (pair_silent s law w v syn m y near i (value_of s syn t a) j (second_of s syn t a b)
          (λ n ln.
          ap₂ (λ (f g : ℕ). when (eqb n i) f ⊕ when (eqb n j) g) x second
          ∙ ap₂ (λ (f g : ℕ). f ⊕ g) (when_zero (eqb n i)) (when_zero (eqb n j))
          ∙ zero_l 0
          ∙ sym (ap (λ (f : ℕ). f ⊕ at v n) (same n ln) ∙ self (at v n))))
          (straight w y)

      no_near : ⊥
      no_near =
          ⊎_elim by_none
          (λ (e : (p : ℕ) × (r : ℕ) × Holds s w v p r).
          ⊎_elim (λ (f : (a ≡ line_of s t e.0) × (b ≡ line_of s t e.1)). by_lines e.2 f.0 f.1)
          (λ (f : (a ≡ line_of s t e.1) × (b ≡ line_of s t e.0)). by_lines (turned e.2) f.0 f.1)
          (ends s law w v syn m y near e.2 t (omega arith) pt a b fa lb))
          (support s w v m near)

  -- what `attempt` gives: the straight guess works, or the crossed one is the last
  module _ {i j z : ℕ} (second : z ≡ second_of s syn t a b) (ci : Crosses s t u a c i) (cj : Crosses s t u b d j) where
    pub attempt_straight : {p : Pair} → Tried s syn (record { a = i; b = j; x = value_of s syn t a; y = z }) (Some p) → Proposed s syn p
    attempt_straight tried = proposes ci.below cj.below (rw second at tried)

    pub attempt_crossed : {k l : ℕ} (r : Option Pair) → Tried s syn (record { a = i; b = j; x = value_of s syn t a; y = z }) None
        → Crosses s t u a d k → Crosses s t u b c l → Tried s syn (record { a = k; b = l; x = value_of s syn t a; y = z }) r → Attempted s syn t u r
    attempt_crossed (Some p) straight ck cl crossed = proposes ck.below cl.below (rw second at crossed)
    attempt_crossed None straight ck cl crossed = no_near ci cj ck cl (rw second at straight) (rw second at crossed)

-- ---- the three attempts
-- a direction parts what differs, or two that differ share its line
part_or_share : (s : Shape) (w v : List ℕ) {p r : ℕ} → Holds s w v p r → (t : ℕ) → Parts s w v t ⊎ ((p ≡ r → ⊥) × (line_of s t p ≡ line_of s t r))
part_or_share s w v {p} {r} h t =
    elim (ℕ_discrete p r) [
      | yes e ↦ inl (record { parts = λ i j li lj di dj l. member i li di e ∙ sym (member j lj dj e) })
      | no ne ↦
          elim (ℕ_discrete (line_of s t p) (line_of s t r)) [
            | yes l ↦ inr (ne, l)
            | no nl ↦ inl (record { parts = λ i j li lj di dj l. either_one i j (h.nowhere i li di) (h.nowhere j lj dj) l nl })
          ]
    ]
  where
    member : (i : ℕ) → i < word_length s → (at w i ≡ at v i → ⊥) → p ≡ r → i ≡ p
    member i li di e = ⊎_elim (λ f. f) (λ f. f ∙ sym e) (h.nowhere i li di)

    either_one : (i j : ℕ) → (i ≡ p) ⊎ (i ≡ r) → (j ≡ p) ⊎ (j ≡ r) → line_of s t i ≡ line_of s t j → (line_of s t p ≡ line_of s t r → ⊥) → i ≡ j
    either_one i j (inl a) (inl b) l nl = a ∙ sym b
    either_one i j (inl a) (inr b) l nl = absurd (nl (ap (line_of s t) (sym a) ∙ l ∙ ap (line_of s t) b))
    either_one i j (inr a) (inl b) l nl = absurd (nl (ap (line_of s t) (sym b) ∙ sym l ∙ ap (line_of s t) a))
    either_one i j (inr a) (inr b) l nl = a ∙ sym b

-- two of three directions part it
two_part : (s : Shape) → Lawful s → 2 < s.n → (w v : List ℕ) (k : ℕ) → Near s 2 w v k
    → (Parts s w v 0 → Parts s w v 1 → ⊥) → (Parts s w v 0 → Parts s w v 2 → ⊥) → (Parts s w v 1 → Parts s w v 2 → ⊥) → ⊥
two_part s law n3 w v k near first second third = ⊎_elim by_none (λ (e : (p : ℕ) × (r : ℕ) × Holds s w v p r). by_two e.2) (support s w v k near)
  where
    by_none : ((j : ℕ) → j < word_length s → at w j ≡ at v j) → ⊥
    by_none same = first (record { parts = λ i j li lj di dj l. absurd (di (same i li)) }) (record { parts = λ i j li lj di dj l. absurd (di (same i li)) })

    by_two : {p r : ℕ} → Holds s w v p r → ⊥
    by_two {p} {r} h =
        let not-both : (t u : ℕ) → t < u → u < s.n → (p ≡ r → ⊥) → line_of s t p ≡ line_of s t r → line_of s u p ≡ line_of s u r → ⊥ =
        λ t u tu lu ne. share_one s law p r h.below_p h.below_r ne t u (omega arith) lu (λ e. omega arith) in
        ⊎_elim
        (λ (p0 : Parts s w v 0).
        ⊎_elim (first p0)
        (λ (s1 : (p ≡ r → ⊥) × (line_of s 1 p ≡ line_of s 1 r)).
        ⊎_elim (second p0) (λ (s2 : (p ≡ r → ⊥) × (line_of s 2 p ≡ line_of s 2 r)). not-both 1 2 (omega arith) n3 s1.0 s1.1 s2.1) (part_or_share s w v h 2))
        (part_or_share s w v h 1))
        (λ (s0 : (p ≡ r → ⊥) × (line_of s 0 p ≡ line_of s 0 r)).
        ⊎_elim
        (λ (p1 : Parts s w v 1).
        ⊎_elim (third p1) (λ (s2 : (p ≡ r → ⊥) × (line_of s 2 p ≡ line_of s 2 r)). not-both 0 2 (omega arith) n3 s0.0 s0.1 s2.1) (part_or_share s w v h 2))
        (λ (s1 : (p ≡ r → ⊥) × (line_of s 1 p ≡ line_of s 1 r)). not-both 0 1 (omega arith) (omega arith) s0.0 s0.1 s1.1)
        (part_or_share s w v h 1))
        (part_or_share s w v h 0)

-- the last of three, where the first two find nothing
found_last : (s : Shape) (syn : List ℕ) → Lawful s → 2 < s.n → (r : Option Pair) → Attempted s syn 0 1 None → Attempted s syn 0 2 None → Attempted s syn 1 2 r → FoundTwo s syn r
found_last s syn law n3 (Some p) first second third = third
found_last s syn law n3 None first second third =
    λ w v k y near. two_part s law n3 w v k near (first w v k y near) (second w v k y near) (third w v k y near)

-- each is made where the ones before it find nothing
pub found_first : (s : Shape) (syn : List ℕ) → Lawful s → 2 < s.n → (one two three : Option Pair) → Attempted s syn 0 1 one
    → MatchOption one (Attempted s syn 0 2 two) (λ p. two ≡ Some p) → MatchOption two (Attempted s syn 1 2 three) (λ p. three ≡ Some p) → FoundTwo s syn three
found_first s syn law n3 (Some p) two three first second third = rw (rw second at third) first
found_first s syn law n3 None (Some p) three first second third = rw third second
found_first s syn law n3 None None three first second third = found_last s syn law n3 three first second third
