-- No reader can promise more: with any number of places that leaves no choice there are a word and two codewords that are both one symbol out of reach at most.
use mathlib.Core.Path.{◌≡◌, refl, sym, ap, ap₂, ◌∙◌, subst}
use mathlib.Core.Bool.{Bool, true, false, not, cond, ◌&&◌, ◌||◌}
use mathlib.Core.List.{List, [], ◌∷◌, ◌++◌}
use mathlib.Core.Logic.{⊎_elim}
use Prim.Native.Nat.{ℕ, zero, suc, ◌+◌, ◌-◌, ◌*◌, ◌<◌, ◌≤◌}
use native.Mathlib.Decide.{ℕ_discrete, dec_lt}
use native.Mathlib.Omega.{arith}
use lib.Dec.{ltb}
use lib.ListN.{length}
use borrow.Author.Tests.{eq-eqb, ne_eqb, lt-ltb, le-ltb}
use Rattle.parity.specs.Count.{bit, sum, count, any}
use Rattle.parity.proofs.Tests.{either, and_both, and_no_left, and_no_right, all_intro}
use Rattle.parity.proofs.Sums.{count_cong}
use Rattle.gtb.specs.declared.Shape.{Shape}
use Rattle.gtb.specs.Shape.{Lawful, word_length, slope_of}
use Rattle.gtb.specs.Square.{at, Word}
use Rattle.distance.specs.Distance.{minimum_distance, Attained}
use Rattle.distance.proofs.Differences.{differs}
use Rattle.distance.proofs.Between.{Between, between}
use Rattle.distance.proofs.Sharp.{sharp_full, sharp_shipped}
use Rattle.erasure.specs.Fill.{is_listed, rising}
use Rattle.restore.specs.Restore.{reach, strays, Close}
use Rattle.restore.proofs.Lists.{longer, earlier, latest, listed_more}

-- ---- the members of a set as a list of places
members : ℕ → (ℕ → Bool) → List ℕ
members zero p = []
members (suc n) p = cond (p n) (members n p ++ (n ∷ [])) (members n p)

-- they are below n, and each is above all before it
record Ascending (n : ℕ) (places : List ℕ) : Type 0 where
  below : (i : ℕ) → i < length places → at places i < n
  up : (i k : ℕ) → i < length places → k < i → at places k < at places i

ascending_more : {n : ℕ} {places : List ℕ} → Ascending n places → Ascending (suc n) (places ++ (n ∷ []))
ascending_more {n} {places} h = record { below = λ i l. below i (rw (longer places n) at l); up = λ i k l m. up i k (rw (longer places n) at l) m }
  where
    below : (i : ℕ) → i < length places + 1 → at (places ++ (n ∷ [])) i < suc n
    below i l =
        elim (dec_lt i (length places)) [
          | yes m ↦ rw (earlier places n i m) (omega (arith, h.below i m))
          | no m ↦ let e : i ≡ length places = omega arith in rw (e, latest places n) (omega arith)
        ]

    up : (i k : ℕ) → i < length places + 1 → k < i → at (places ++ (n ∷ [])) k < at (places ++ (n ∷ [])) i
    up i k l m =
        elim (dec_lt i (length places)) [
          | yes li ↦ rw (earlier places n i li, earlier places n k (omega arith)) (h.up i k li m)
          | no li ↦ let e : i ≡ length places = omega arith in rw (e, latest places n, earlier places n k (omega arith)) (h.below k (omega arith))
        ]

ascending_rises : {n : ℕ} {places : List ℕ} → Ascending n places → rising n places ≡ true
unfolding rising
ascending_rises {n} {places} h =
    all_intro (length places) _
    (λ i l.
    and_both (lt-ltb (at places i) n (h.below i l)) (all_intro i (λ k. ltb (at places k) (at places i)) (λ k m. lt-ltb (at places k) (at places i) (h.up i k l m))))

or_right : (a : Bool) {b : Bool} → b ≡ true → (a || b) ≡ true
or_right true e = refl
or_right false e = e

or_none : (a : Bool) → (a || false) ≡ a
or_none true = refl
or_none false = refl

-- what is listed with the numbers below n is listed with those below n + 1, and n itself if it is a member
further : (n j : ℕ) → (j ≡ n → ⊥) → ltb j n ≡ ltb j (suc n)
further n j ne =
    elim (dec_lt j n) [
      | yes l ↦ lt-ltb j n l ∙ sym (lt-ltb j (suc n) (omega arith))
      | no l ↦ le-ltb j n (omega arith) ∙ sym (le-ltb j (suc n) (omega arith))
    ]

module _ (places : List ℕ) (n j : ℕ) (p : ℕ → Bool) (ih : is_listed places j ≡ (ltb j n && p j)) where
  listed_no_more : p n ≡ false → is_listed places j ≡ (ltb j (suc n) && p j)
  listed_no_more f =
      elim (ℕ_discrete j n) [
        | yes e ↦ ih ∙ and_no_right (ltb j n) (ap p e ∙ f) ∙ sym (and_no_right (ltb j (suc n)) (ap p e ∙ f))
        | no ne ↦ ih ∙ ap (λ (b : Bool). b && p j) (further n j ne)
      ]

  listed_more_member : p n ≡ true → is_listed (places ++ (n ∷ [])) j ≡ (ltb j (suc n) && p j)
  listed_more_member t =
      listed_more places n j
      ∙ elim (ℕ_discrete j n) [
        | yes e ↦ or_right (is_listed places j) (eq-eqb n j (sym e)) ∙ sym (and_both (lt-ltb j (suc n) (omega arith)) (ap p e ∙ t))
        | no ne ↦ ap₂ (λ (a b : Bool). a || b) (ih ∙ ap (λ (b : Bool). b && p j) (further n j ne)) (ne_eqb n j (λ e. ne (sym e))) ∙ or_none (ltb j (suc n) && p j)
      ]

module _ (p : ℕ → Bool) where
  members_ascend : (n : ℕ) → Ascending n (members n p)
  unfolding members
  members_ascend zero = record { below = λ i l. absurd (omega arith); up = λ i k l m. absurd (omega arith) }
  members_ascend (suc n) =
      let ih = members_ascend n in
      ⊎_elim (λ (t : p n ≡ true). rw t (ascending_more ih))
      (λ (f : p n ≡ false). rw f (record { below = λ i l. omega (arith, ih.below i l); up = ih.up }))
      (either (p n))

  members_count : (n : ℕ) → length (members n p) ≡ count n p
  unfolding members count sum bit
  members_count zero = refl
  members_count (suc n) =
      ⊎_elim (λ (t : p n ≡ true). rw t (longer (members n p) n ∙ omega (arith, members_count n)))
      (λ (f : p n ≡ false). rw f (omega (arith, members_count n)))
      (either (p n))

  members_listed : (n j : ℕ) → is_listed (members n p) j ≡ (ltb j n && p j)
  unfolding members is_listed any
  members_listed zero j = sym (and_no_left (p j) (le-ltb j 0 (omega arith)))
  members_listed (suc n) j =
      let ih = members_listed n j in
      ⊎_elim (λ (t : p n ≡ true). rw t (listed_more_member (members n p) n j p ih t))
      (λ (f : p n ≡ false). rw f (listed_no_more (members n p) n j p ih f))
      (either (p n))

-- ---- a word between two codewords
-- f places in rising order, a word, and two different codewords that both differ from it in at most k symbols that are not listed
pub record Undecided (s : Shape) (f k : ℕ) : Type 0 where
  pub word : List ℕ
  pub places : List ℕ
  pub one : List ℕ
  pub other : List ℕ
  pub came : Word s word
  pub rises : rising (word_length s) places ≡ true
  pub number : length places ≡ f
  pub close : Close s k word places one
  pub close_too : Close s k word places other
  pub different : one ≡ other → ⊥

-- so no reader gives back every codeword with any damage at f places and k other wrong symbols
pub no_more : {s : Shape} {f k : ℕ} → Undecided s f k → (read : List ℕ → List ℕ → List ℕ)
    → ((word places v : List ℕ) → Word s word → rising (word_length s) places ≡ true → length places ≡ f → Close s k word places v → read word places ≡ v) → ⊥
no_more h read all =
    h.different
    (sym (all h.word h.places h.one h.came h.rises h.number h.close)
    ∙ all h.word h.places h.other h.came h.rises h.number h.close_too)

module _ {s : Shape} {f h m : ℕ} (b : Between s f h m) where
  abbrev listed : List ℕ
  listed = members (word_length s) b.marked

  is_marked_lem : (j : ℕ) → j < word_length s → is_listed listed j ≡ b.marked j
  is_marked_lem j l = members_listed b.marked (word_length s) j ∙ ap (λ (x : Bool). x && b.marked j) (lt-ltb j (word_length s) l)

  strays_marked : (v : List ℕ) → strays s b.word listed v ≡ count (word_length s) (λ j. not (b.marked j) && differs v b.word j)
  unfolding strays
  strays_marked v = count_cong (word_length s) _ _ (λ j l. ap (λ (x : Bool). not x && differs v b.word j) (is_marked_lem j l))

  between_undecided : {k : ℕ} → h ≤ k → m ≤ k → Undecided s f k
  between_undecided le le' = record {
    word = b.word;
    places = listed;
    one = b.one;
    other = b.other;
    came = b.came;
    rises = ascending_rises (members_ascend b.marked (word_length s));
    number = members_count b.marked (word_length s) ∙ b.number;
    close = record { codeword = b.codeword; few = omega (arith, strays_marked b.one, b.count_from_one) };
    close_too = record { codeword = b.codeword_too; few = omega (arith, strays_marked b.other, b.count_from_other) };
    different = b.different;
  }

-- where two codewords are 2 n apart and no more, one wrong symbol past reach is too many, whatever the number of places
pub undecided : (s : Shape) → Attained s (minimum_distance s.n) → (f : ℕ) → f < minimum_distance s.n → Undecided s f (reach s f + 1)
unfolding minimum_distance reach
undecided s a f less =
    between_undecided
    (between s f (reach s f + 1) (2 * s.n - f - (reach s f + 1)) (subst (Attained s) (omega arith) a) (omega arith))
    (omega arith) (omega arith)

-- so it is where as many directions are there as the order, whatever the slopes
pub undecided_full : (s : Shape) → Lawful s → s.n ≡ s.q → (f : ℕ) → f < minimum_distance s.n → Undecided s f (reach s f + 1)
undecided_full s law full = undecided s (sharp_full s law full)

-- and with four directions and the slopes 0, 1, 2
pub undecided_shipped : (s : Shape) → Lawful s → s.n ≡ 4 → slope_of s 1 ≡ 0 → slope_of s 2 ≡ 1 → slope_of s 3 ≡ 2 → (f : ℕ) → f < minimum_distance s.n
    → Undecided s f (reach s f + 1)
undecided_shipped s law four e₁ e₂ e₃ = undecided s (sharp_shipped s law four e₁ e₂ e₃)
