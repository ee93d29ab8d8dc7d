-- Lists written from the left: none, one place more, a run at once.
use mathlib.Core.Path.{◌≡◌, refl, sym, ap, ◌∙◌}
use mathlib.Core.List.{List, [], ◌++◌, append-nil}
use Prim.Native.Nat.{ℕ, ◌+◌, ◌-◌, ◌≤◌, ◌<◌}
use native.Mathlib.Omega.{arith}
use lib.ListN.{length, take, drop, set, length-set, length-drop, get_or-append, drop_of_length-le}
use lib.Seq.{get_or-set_same, get_or-set_other, length-take-le, get_or-take, get_or-drop, get_or-append-add}
use borrow.Rule.Slice.PartMut.{mid_of, put_mid, same_len_mid}
use borrow.Author.Count.{below_none, below_more}
use Rattle.parity.specs.Lists.{at, tabulate, Written, Begins}
use Rattle.parity.proofs.Lists.{is_tabulate}

pub written_none : (a : ℕ) (f : ℕ → ℕ) (w : List ℕ) → Written a 0 f w w
written_none a f w = record { size = refl; inside = below_none (λ i. at w (a + i) ≡ f i); below = λ j l. refl; above = λ j l. refl }

-- one turn of a loop: the next place is set
pub written_more : (a p : ℕ) (f : ℕ → ℕ) (w w' : List ℕ) (v : ℕ) → a + p < length w → v ≡ f p → Written a p f w w' → Written a (p + 1) f w (set w' (a + p) v)
written_more a p f w w' v fits is h = record {
  size = length-set w' (a + p) v ∙ h.size;
  inside =
      below_more (λ i. at (set w' (a + p) v) (a + i) ≡ f i) p (λ i lt. get_or-set_other w' (a + p) (a + i) v 0 (λ e. omega arith) ∙ h.inside i lt)
      (get_or-set_same w' (a + p) v 0 (omega (arith, h.size)) ∙ is);
  below = λ j l. get_or-set_other w' (a + p) j v 0 (λ e. omega arith) ∙ h.below j l;
  above = λ j l. get_or-set_other w' (a + p) j v 0 (λ e. omega arith) ∙ h.above j (omega arith);
}

-- all n
pub written_end : {a m n : ℕ} {f : ℕ → ℕ} {w w' : List ℕ} → Written a m f w w' → m ≡ n → Written a n f w w'
written_end h e = rw e at h

-- the p places from a on, lent as a part, come back as ys
written_part : (a p : ℕ) (f : ℕ → ℕ) (w ys : List ℕ) → a + p ≤ length w → length ys ≡ p → ((i : ℕ) → i < p → at ys i ≡ f i) → Written a p f w (put_mid a p w ys)
written_part a p f w ys fits size is = record {
  size = same_len_mid a p w ys (size ∙ sym (length-take-le p (drop a w) (rw length-drop (omega arith))));
  inside = λ i l.
      ap (λ (k : ℕ). at (put_mid a p w ys) (k + i)) (sym front) ∙ get_or-append-add (take a w) (ys ++ after) i 0
      ∙ get_or-append ys after 0 i (omega arith) ∙ is i l;
  below = λ j l. get_or-append (take a w) (ys ++ after) 0 j (omega (arith, front)) ∙ get_or-take a w j 0 l;
  above = λ j l.
      ap (at (put_mid a p w ys)) (omega (arith, front)) ∙ get_or-append-add (take a w) (ys ++ after) (length ys + (j - (a + p))) 0
      ∙ get_or-append-add ys after (j - (a + p)) 0 ∙ get_or-drop p (drop a w) (j - (a + p)) 0 ∙ get_or-drop a w (p + (j - (a + p))) 0
      ∙ ap (at w) (omega arith);
}
  where
    after : List ℕ
    after = drop p (drop a w)

    front : length (take a w) ≡ a
    front = length-take-le a w (omega arith)

-- and ys are the p symbols of another list from place b on, copied
pub written_run : (a b p : ℕ) (w from part : List ℕ) → a + p ≤ length w → b + p ≤ length from
    → part ≡ mid_of b (b + p - b) from ++ drop (length (mid_of b (b + p - b) from)) (mid_of a (a + p - a) w)
    → Written a p (λ i. at from (b + i)) w (put_mid a (a + p - a) w part)
written_run a b p w from part fits fits' copied =
    let ea : a + p - a ≡ p = omega arith in
    let eb : b + p - b ≡ p = omega arith in
    let ys : List ℕ = take p (drop b from) in
    let long : length ys ≡ p = length-take-le p (drop b from) (rw length-drop (omega arith)) in
    let none : drop (length ys) (take p (drop a w)) ≡ [] =
    drop_of_length-le (take p (drop a w)) {i = length ys} (omega (arith, length-take-le p (drop a w) (rw length-drop (omega arith)))) in
    let whole : part ≡ ys = rw (ea, eb) at copied ∙ ap (λ (r : List ℕ). ys ++ r) none ∙ append-nil ys in
    rw (ea, whole) (written_part a p (λ i. at from (b + i)) w ys fits long (λ i l. get_or-take p (drop b from) i 0 l ∙ get_or-drop b from i 0))

-- ---- the first values of a list
pub begins_none : {n : ℕ} {f : ℕ → ℕ} {xs : List ℕ} → length xs ≡ n → Begins n 0 f xs
begins_none {f = f} {xs} size = record { size = size; entry = below_none (λ i. at xs i ≡ f i) }

pub begins_more : {n m : ℕ} {f : ℕ → ℕ} {xs : List ℕ} (v : ℕ) → m < n → v ≡ f m → Begins n m f xs → Begins n (m + 1) f (set xs m v)
begins_more {m = m} {f} {xs} v l is h = record {
  size = length-set xs m v ∙ h.size;
  entry =
      below_more (λ i. at (set xs m v) i ≡ f i) m (λ i lt. get_or-set_other xs m i v 0 (λ e. omega arith) ∙ h.entry i lt)
      (get_or-set_same xs m v 0 (omega (arith, h.size)) ∙ is);
}

-- all n
pub begins_all : {n : ℕ} {f : ℕ → ℕ} {xs : List ℕ} → Begins n n f xs → xs ≡ tabulate n f
begins_all h = is_tabulate _ _ _ h.size h.entry
