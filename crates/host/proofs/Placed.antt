-- Each text stands in the table from its start to the next one, by tests over all numbers.
use mathlib.Core.Path.{◌≡◌, refl, ◌∙◌}
use mathlib.Core.Bool.{true}
use mathlib.Core.List.{List, []}
use Prim.Native.Nat.{ℕ, zero, suc, ◌+◌, ◌-◌, ◌≤◌, ◌<◌}
use native.Mathlib.Nat.{zero-add, sub-zero, zero-sub, suc-sub-suc}
use native.Mathlib.Omega.{arith}
use borrow.Author.Tests.{leb-true, ltb-true}
use lib.Dec.{leb, ltb}
use lib.ListN.{length, get_or, take, drop, replicate, get_or-eq_default}
use Rattle.parity.specs.Count.{all}
use Rattle.parity.proofs.Tests.{all_elim}
use Rattle.lines.specs.Text.{same_bytes, pasted}
use Rattle.lines.proofs.Same.{same_equal}
use Rattle.host.specs.Texts.{refusal_texts, refusal_text, padded, joined, starts_from, all_texts, text_starts, Texted, TextCrossing}

start : ℕ → ℕ
start k = get_or text_starts k 0

part : ℕ → List ℕ
part k = take (start (k + 1) - start k) (drop (start k) all_texts)

rising : all 21 (λ k. leb (start k) (start (k + 1))) ≡ true
unfolding all start text_starts starts_from refusal_texts
rising = refl

within : all 21 (λ k. leb (start (k + 1)) (length all_texts)) ≡ true
unfolding all start text_starts starts_from all_texts joined refusal_texts
within = refl

told : all 21 (λ k. same_bytes (part k) (refusal_text k)) ≡ true
unfolding all part start text_starts starts_from all_texts joined refusal_text refusal_texts same_bytes
told = refl

short : all 21 (λ k. ltb (length (refusal_text k)) 96) ≡ true
unfolding all refusal_text refusal_texts
short = refl

pub record Placed (table starts : List ℕ) (k : ℕ) : Type 0 where
  pub rises : get_or starts k 0 ≤ get_or starts (k + 1) 0
  pub fits : get_or starts (k + 1) 0 ≤ length table
  pub text : take (get_or starts (k + 1) 0 - get_or starts k 0) (drop (get_or starts k 0) table) ≡ refusal_text k

placed_at : (k : ℕ) → k < 21 → Placed all_texts text_starts k
unfolding start part
placed_at k h =
    record {
      rises = leb-true (start k) (start (k + 1)) (all_elim 21 (λ i. leb (start i) (start (i + 1))) rising k h);
      fits =
          leb-true (start (k + 1)) (length all_texts)
          (all_elim 21 (λ i. leb (start (i + 1)) (length all_texts)) within k h);
      text = same_equal (part k) (refusal_text k) (all_elim 21 (λ i. same_bytes (part i) (refusal_text i)) told k h);
    }

pub placed : {table starts : List ℕ} (k : ℕ) → table ≡ all_texts → starts ≡ text_starts → k ≤ 20 → Placed table starts k
placed k a b h = rw (a, b) (placed_at k (omega arith))

-- a text leaves room for a zero
pub text_short : (k : ℕ) → k ≤ 20 → length (refusal_text k) < 96
text_short k h =
    ltb-true (length (refusal_text k)) 96 (all_elim 21 (λ i. ltb (length (refusal_text i)) 96) short k (omega arith))

twenty : length refusal_texts ≡ 20
unfolding refusal_texts
twenty = refl

-- a number past the last refusal has none
pub text_none : (k : ℕ) → 20 < k → refusal_text k ≡ []
unfolding refusal_text
text_none zero h = refl
text_none (suc k) h = get_or-eq_default refusal_texts [] (omega (arith, twenty))

drop_replicate : (n k : ℕ) → drop {A = ℕ} k (replicate n 0) ≡ replicate (n - k) 0
drop_replicate n zero = rw (sub-zero n)
drop_replicate zero (suc k) = rw (zero-sub (suc k))
drop_replicate (suc n) (suc k) = rw (suc-sub-suc n k) (drop_replicate n k)

-- a text that is copied over zeros
pub copied : (from to : List ℕ) {to' text : List ℕ} → from ≡ text → to ≡ replicate 96 0 → to' ≡ pasted to 0 from → to' ≡ padded text
unfolding pasted
copied from to {to'} {text} e z h = h ∙ rw (e, z, zero-add (length text), drop_replicate 96 (length text))

module _ (k r : ℕ) (text : List ℕ) where
  pub text_crossed : {text' : List ℕ} → length text ≡ 96 → Texted k text' r → TextCrossing k text text' r
  text_crossed size t = record { right = λ _. t; wrong = λ other. absurd (other size) }

  pub text_empty : 20 < k → text ≡ replicate 96 0 → r ≡ 0 → Texted k text r
  text_empty h z e = record { size = rw (text_none k h) e; bytes = rw (text_none k h) z }
