-- Texts written one after another into a list.
use mathlib.Core.Path.{◌≡◌, refl, sym, ap, ◌∙◌, subst}
use mathlib.Core.List.{List, [], ◌∷◌, ◌++◌, append-nil, append_assoc}
use Prim.Native.Nat.{ℕ, suc, ◌+◌, ◌-◌, ◌/◌, ◌%◌, ◌≤◌, ◌<◌}
use native.Mathlib.Nat.{add_assoc, add-zero}
use native.Mathlib.Numerals.{add-one}
use native.Mathlib.Omega.{arith}
use borrow.Rule.Slice.PartMut.{put_mid}
use lib.ListN.{length, take, drop, set, length-append, length-take, length-drop, length-set, take-append-drop}
use lib.Seq.{length-take-le, set_split, append_snoc, take_at, drop_at, drop-drop}
use Rattle.lines.specs.declared.Kind.{Kind}
use Rattle.lines.specs.Text.{space, newline, digit, decimal, outcome_name, count_text, outcome_text, pasted, Put}
use Rattle.lines.proofs.Decimals.{decimal_more}

-- one byte
pub put_one : (old : List ℕ) (at b : ℕ) → at < length old → Put old at (b ∷ []) (set old at b) (at + 1)
unfolding pasted
put_one old at b l =
    record {
      written = set_split old at b l ∙ sym (append_snoc (take at old) b (drop (suc at) old)) ∙ ap (λ (k : ℕ). take at old ++ (b ∷ []) ++ drop k old) (sym (add-one at));
      next = refl;
      room = rw length-set (omega arith);
    }

-- a text in the place of the part from `at` on that is as long
module _ (old text : List ℕ) (at : ℕ) (fits : at + length text ≤ length old) where
  copied_written : put_mid at (at + length text - at) old text ≡ pasted old at text
  unfolding pasted
  copied_written =
      let n : at + length text - at ≡ length text = omega arith in
      rw (n, drop-drop) (simp append_assoc)

  pub copied : Put old at text (put_mid at (at + length text - at) old text) (at + length text)
  unfolding pasted
  copied =
      record {
        written = copied_written;
        next = refl;
        room = rw copied_written (simp (length-append, length-take, length-drop) (omega arith));
      }

module _ (old a b : List ℕ) (at : ℕ) (fits : at ≤ length old) where
  head : length (take at old ++ a) ≡ at + length a
  head = rw (length-append, length-take-le at old fits)

  pasted_pasted : pasted (pasted old at a) (at + length a) b ≡ pasted old at (a ++ b)
  unfolding pasted
  pasted_pasted =
      rw (
        take_at (take at old ++ a) (drop (at + length a) old) (at + length a) head,
        ← drop-drop (length b) (at + length a) (take at old ++ a ++ drop (at + length a) old),
        drop_at (take at old ++ a) (drop (at + length a) old) (at + length a) head,
        drop-drop (length b) (at + length a) old,
        length-append a b,
        ← add_assoc at (length a) (length b),
        append_assoc (take at old) a b,
      )

-- a text begins within the list
put_within : {old mid a : List ℕ} {at m : ℕ} → Put old at a mid m → at ≤ length old
unfolding pasted
put_within p = omega (arith, p.next, simp (length-append, length-take, length-drop) at (rw p.written at p.room))

-- one text and then another
pub put_both : {old mid new a b : List ℕ} {at m r : ℕ} → Put old at a mid m → Put mid m b new r → Put old at (a ++ b) new r
put_both {old} {mid} {new} {a} {b} {at} {m} {r} p q =
    record {
      written = q.written ∙ rw (p.written, p.next) (pasted_pasted old a b at (put_within p));
      next = rw (q.next, p.next, length-append) (omega arith);
      room = q.room;
    }

-- no text
pub put_none : (old : List ℕ) (at : ℕ) → at ≤ length old → Put old at [] old at
unfolding pasted
put_none old at l = record { written = simp (append-nil, add-zero, take-append-drop); next = omega arith; room = l }

-- a number's last digit after the others
pub put_more : {old mid new : List ℕ} {at m r n : ℕ} → 10 ≤ n → Put old at (decimal (n / 10)) mid m
    → Put mid m (digit (n % 10) ∷ []) new r → Put old at (decimal n) new r
put_more {n = n} l p q = rw (decimal_more n l) (put_both p q)

-- ---- the lines of the output
pub put_pair : {old text₁ text₂ text₃ new : List ℕ} {at r₁ r₂ r₃ r : ℕ} (a b : ℕ) → Put old at (decimal a) text₁ r₁ → Put text₁ r₁ (space ∷ []) text₂ r₂
    → Put text₂ r₂ (decimal b) text₃ r₃ → Put text₃ r₃ (newline ∷ []) new r → Put old at (count_text a b) new r
unfolding count_text
put_pair a b p q s t = rw (← append_snoc (decimal a) space (decimal b)) (put_both (put_both (put_both p q) s) t)

pub put_named : {old text₁ text₂ new : List ℕ} {at r₁ r₂ r : ℕ} (kind : Kind) (number fixed : ℕ) → Put old at (outcome_name kind) text₁ r₁ → Put text₁ r₁ (space ∷ []) text₂ r₂
    → Put text₂ r₂ (count_text number fixed) new r → Put old at (outcome_text kind number fixed) new r
unfolding outcome_text count_text
put_named {old} {new = new} {at = at} {r = r} kind number fixed p q s =
    let same : outcome_name kind ++ (space ∷ []) ++ count_text number fixed ≡ outcome_text kind number fixed = simp append_assoc in
    subst (λ (t : List ℕ). Put old at t new r) same (put_both (put_both p q) s)
