-- Beside the three ways of reading: whatever one of them accepts is accepted here, with the same word and number; and no reader can promise more.
use mathlib.Core.Path.{◌≡◌, sym, ap, ◌∙◌, subst}
use mathlib.Core.Bool.{Bool, true, false, not, ◌&&◌}
use mathlib.Core.List.{List}
use mathlib.Core.Logic.{⊎_elim}
use Prim.Native.Nat.{ℕ, ◌-◌, ◌*◌, ◌<◌}
use native.Mathlib.Nat.{le_refl}
use native.Mathlib.Omega.{arith}
use borrow.Author.Tests.{leb-true}
use Rattle.parity.specs.Count.{count}
use Rattle.parity.proofs.Tests.{either}
use Rattle.parity.proofs.Sums.{count_cong}
use Rattle.parity.proofs.Pigeon.{count_others}
use Rattle.gtb.specs.declared.Shape.{Shape}
use Rattle.gtb.specs.Shape.{Lawful, word_length, slope_of}
use Rattle.gtb.proofs.Bounds.{bounds}
use Rattle.distance.specs.Distance.{differences, minimum_distance, Attained, Near}
use Rattle.distance.proofs.Differences.{differs}
use Rattle.distance.proofs.Near.{near_within}
use Rattle.distance.proofs.Between.{Between, between}
use Rattle.distance.proofs.Sharp.{sharp_full, sharp_shipped}
use Rattle.std.specs.Prelude.{Ok}
use Rattle.correction.specs.Reading.{Reader, restored_by, read_of, Meaning}
use Rattle.correction.proofs.Readings.{read_accepted, Meant, read_means}
use Rattle.decoder.specs.Decode.{decode_of, restored}
use Rattle.decoder.proofs.Meaning.{explains_near, clean_meant}
use Rattle.majority.specs.Majority.{majority_of, voted}
use Rattle.majority.proofs.Meaning.{vote_meant}
use Rattle.double.specs.Double.{two_of, two_restored}
use Rattle.double.proofs.Meaning.{two_meant}
use Rattle.nearest.specs.Nearest.{nearest_of, nearest_word}
use Rattle.nearest.proofs.Meaning.{near_nearest}

-- ---- a reader that accepts no more than n - 1 wrong symbols
pub accepts_all : {reader : Reader} {Means : Meaning} → Meant reader Means → (s : Shape)
    → (Lawful s → reader.suits s ≡ true → (w v : List ℕ) (k : ℕ) → Means s w v k → Near s (s.n - 1) w v k)
    → (w : List ℕ) (k : ℕ) → read_of reader s w ≡ Ok k → (nearest_of s w ≡ Ok k) × (nearest_word s w ≡ restored_by reader s w)
accepts_all {reader} m s near w k h =
    let a = read_accepted reader s w k h in
    near_nearest s a.lawful w (restored_by reader s w) k (near a.lawful a.suits w (restored_by reader s w) k (read_means m s w k h))

-- clean reading
pub accepts_clean : (s : Shape) (w : List ℕ) (k : ℕ) → decode_of s w ≡ Ok k → (nearest_of s w ≡ Ok k) × (nearest_word s w ≡ restored s w)
accepts_clean s = accepts_all clean_meant s (λ law fits. explains_near s)

-- the vote
pub accepts_vote : (s : Shape) (w : List ℕ) (k : ℕ) → majority_of s w ≡ Ok k → (nearest_of s w ≡ Ok k) × (nearest_word s w ≡ voted s w)
accepts_vote s = accepts_all vote_meant s (λ law fits w v k x. near_within x (omega (arith, x.few, (bounds s law).n2)))

-- two wrong symbols
pub accepts_two : (s : Shape) (w : List ℕ) (k : ℕ) → two_of s w ≡ Ok k → (nearest_of s w ≡ Ok k) × (nearest_word s w ≡ two_restored s w)
accepts_two s = accepts_all two_meant s (λ law fits w v k x. near_within x (omega (arith, x.few, leb-true 3 s.n fits)))

-- ---- the most that any reader can promise
-- a word at distance k from two different codewords: with k wrong symbols it may have been either
pub record HalfWay (s : Shape) (k : ℕ) : Type 0 where
  pub word : List ℕ
  pub one : List ℕ
  pub other : List ℕ
  pub near : Near s k word one k
  pub near_too : Near s k word other k
  pub different : one ≡ other → ⊥

-- so no reader gives back every codeword with k wrong symbols
pub no_more : {s : Shape} {k : ℕ} → HalfWay s k → (read : List ℕ → List ℕ) → ((w v : List ℕ) → Near s k w v k → read w ≡ v) → ⊥
no_more h read all = h.different (sym (all h.word h.one h.near) ∙ all h.word h.other h.near_too)

-- with none marked
unmarked : (s : Shape) (v w : List ℕ) (marked : ℕ → Bool) → ((j : ℕ) → j < word_length s → marked j ≡ false)
    → differences s v w ≡ count (word_length s) (λ j. not (marked j) && differs v w j)
unfolding differences
unmarked s v w marked none = count_cong (word_length s) _ _ (λ j l. sym (ap (λ (b : Bool). not b && differs v w j) (none j l)))

-- half of the positions where two codewords differ are taken from the one, and half from the other
pub half_way : (s : Shape) (k : ℕ) → Attained s (2 * k) → 0 < k → HalfWay s k
half_way s k a some = record {
  word = b.word;
  one = b.one;
  other = b.other;
  near = record { word = b.came; codeword = b.codeword; changed = apart b.one ∙ b.count_from_one; few = le_refl k };
  near_too = record { word = b.came; codeword = b.codeword_too; changed = apart b.other ∙ b.count_from_other; few = le_refl k };
  different = b.different;
}
  where
    b : Between s 0 k k
    b = between s 0 k k (subst (Attained s) (omega arith) a) (omega arith)

    none : (j : ℕ) → j < word_length s → b.marked j ≡ false
    none j l =
        ⊎_elim (λ (m : b.marked j ≡ true). absurd (omega (arith, b.number, count_others (word_length s) b.marked j l m)))
        (λ (m : b.marked j ≡ false). m)
        (either (b.marked j))

    apart : (v : List ℕ) → differences s v b.word ≡ count (word_length s) (λ j. not (b.marked j) && differs v b.word j)
    apart v = unmarked s v b.word b.marked none

-- n wrong symbols are more than any reader can undo where as many directions are there as the order, whatever the slopes
pub half_way_full : (s : Shape) → Lawful s → s.n ≡ s.q → HalfWay s s.n
unfolding minimum_distance
half_way_full s law full = half_way s s.n (sharp_full s law full) (omega (arith, (bounds s law).n2))

-- and with four directions and the slopes 0, 1, 2
pub half_way_shipped : (s : Shape) → Lawful s → s.n ≡ 4 → slope_of s 1 ≡ 0 → slope_of s 2 ≡ 1 → slope_of s 3 ≡ 2 → HalfWay s s.n
unfolding minimum_distance
half_way_shipped s law four e₁ e₂ e₃ = half_way s s.n (sharp_shipped s law four e₁ e₂ e₃) (omega (arith, (bounds s law).n2))
