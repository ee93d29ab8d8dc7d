-- What a line that crosses is answered with: it spells no more values than it has bytes, and no others.
use mathlib.Core.Path.{◌≡◌, refl, sym, ap, ◌∙◌}
use Rattle.std.specs.Prelude.{Option, None}
use mathlib.Core.List.{List, [], ◌∷◌, ◌++◌}
use Prim.Native.Nat.{ℕ, ◌+◌, ◌^◌, ◌≤◌, ◌<◌, min}
use native.Mathlib.Nat.{min_comm}
use native.Mathlib.Omega.{arith}
use lib.ListN.{length, take, drop, length-append, length-take}
use lib.Seq.{get_or-take, ext_get_or}
use Rattle.lines.specs.Text.{spell, Spells}
use Rattle.lines.specs.Parse.{Stored, Parsing}
use Rattle.lines.proofs.Decimals.{decimal_some}
use Rattle.lines.proofs.Contents.{content_spelled}
use Rattle.host.specs.Line.{LineCrossing}

spell_few : (xs : List ℕ) → length xs ≤ length (spell xs)
unfolding spell
spell_few [] = omega arith
spell_few (x ∷ []) = omega (arith, decimal_some x)
spell_few (x ∷ (y ∷ ys)) = simp length-append (omega (arith, decimal_some x, spell_few (y ∷ ys)))

pub spelled_once : (line xs ys : List ℕ) → Spells line xs → Spells line ys → xs ≡ ys
spelled_once line xs ys a b = let p = content_spelled line xs a in let q = content_spelled line ys b in cc

module _ {line stored : List ℕ} {count : ℕ} (s : Stored line stored count) where
  pub count_few : count ≤ length line
  count_few = omega (arith, s.counted, ap length s.spelled.text, spell_few s.values)

  -- what is stored are the first of the values
  stored_front : length stored ≡ 1024 → take count stored ≡ take 1024 s.values
  stored_front size =
      let xs = s.values in
      let few : length (take count stored) ≡ min 1024 count =
      length-take count stored ∙ ap (min count) size ∙ min_comm count 1024 in
      ext_get_or 0 (take count stored) (take 1024 xs)
      (few ∙ ap (min 1024) (sym s.counted) ∙ sym (length-take 1024 xs))
      (λ i h.
      let a : i < count = omega (arith, few) in
      let b : i < 1024 = omega (arith, few) in
      get_or-take count stored i 0 a ∙ s.kept i a b ∙ sym (get_or-take 1024 xs i 0 b))

module _ (line values : List ℕ) (r : ℕ) where
  pub line_long : 16383 < length line → r ≡ 2 ^ 31 + 10 → LineCrossing line values values r
  line_long over e =
      record { spelled = λ xs short s. absurd (omega arith); unspelled = λ none. (e, refl); long = λ h. (e, refl) }

  pub line_malformed : {stored : List ℕ} {p : Option ℕ} → Parsing line stored p → p ≡ None → r ≡ 2 ^ 31 + 10
      → LineCrossing line values values r
  line_malformed p m e =
      record {
        spelled = λ xs short s. absurd (p.refused m xs s);
        unspelled = λ none. (e, refl);
        long = λ over. (e, refl);
      }

  pub line_parsed : {stored values' : List ℕ} → length line ≤ 16383 → length stored ≡ 1024 → Stored line stored r
      → values' ≡ take r stored ++ drop r values → LineCrossing line values values' r
  line_parsed {stored} {values'} short size s left =
      record {
        spelled = λ xs h t.
            let same : s.values ≡ xs = spelled_once line s.values xs s.spelled t in
            let number : r ≡ length xs = sym s.counted ∙ ap length same in
            let front : take r stored ≡ take 1024 xs = stored_front s size ∙ ap (take 1024) same in
            (number, left ∙ rw (front, ← number));
        unspelled = λ none. absurd (none s.values s.spelled);
        long = λ over. absurd (omega arith);
      }
