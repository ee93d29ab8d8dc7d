-- What a line says, computed, is what it spells.
use mathlib.Core.Path.{◌≡◌, refl, sym, ap, ◌∙◌}
use mathlib.Core.Logic.{⊎_elim}
use mathlib.Core.Bool.{true, false, ◌&&◌}
use mathlib.Core.List.{List, [], ◌∷◌, ◌++◌, append-nil}
use Prim.Native.Nat.{ℕ, ◌+◌, ◌*◌, ◌-◌, ◌^◌, ◌<◌}
use native.Mathlib.Nat.{not-suc-le-zero}
use native.Mathlib.Omega.{arith}
use borrow.Author.Tests.{ne_eqb, ltb-true, lt-ltb}
use lib.Dec.{eqb, ltb}
use lib.ListN.{length, get_or}
use Rattle.parity.proofs.Tests.{either, and_left, and_right, all_elim, all_intro}
use Rattle.lines.specs.Text.{space, decimal, spell, same_bytes, Spells}
use Rattle.lines.specs.Content.{Spelled, Unreadable, values_in, small, content_of}
use Rattle.lines.proofs.Decimals.{AllDigits, decimal_digits, value, value_decimal}
use Rattle.lines.proofs.Same.{same_equal, equal_same}

last_one : (n : ℕ) → values_in n [] ≡ n ∷ []
unfolding values_in
last_one n = refl

at_space : (b n : ℕ) (line : List ℕ) → eqb b space ≡ true → values_in n (b ∷ line) ≡ n ∷ values_in 0 line
unfolding values_in
at_space b n line t = rw (values_in, t)

at_digit : (b n : ℕ) (line : List ℕ) → eqb b space ≡ false → values_in n (b ∷ line) ≡ values_in (n * 10 + (b - 48)) line
unfolding values_in
at_digit b n line f = rw (values_in, f)

-- digits are read from the left
digits_in : (d t : List ℕ) (n : ℕ) → AllDigits d → values_in n (d ++ t) ≡ values_in (value n d) t
unfolding value
digits_in [] t n h = refl
digits_in (b ∷ d) t n h =
    at_digit b n (d ++ t) (ne_eqb b space (λ e. absurd (omega (arith, h.0.low)))) ∙ digits_in d t (n * 10 + (b - 48)) h.1

number_in : (x : ℕ) (t : List ℕ) → values_in 0 (decimal x ++ t) ≡ values_in x t
number_in x t = digits_in (decimal x) t 0 (decimal_digits x) ∙ ap (λ (n : ℕ). values_in n t) (value_decimal x)

last_in_lem : (x : ℕ) → values_in 0 (decimal x) ≡ x ∷ []
last_in_lem x = ap (values_in 0) (sym (append-nil (decimal x))) ∙ number_in x [] ∙ last_one x

-- the values of a spelled line
spelled_in : (x : ℕ) (xs : List ℕ) → values_in 0 (spell (x ∷ xs)) ≡ x ∷ xs
unfolding spell
spelled_in x [] = last_in_lem x
spelled_in x (y ∷ ys) =
    number_in x (space ∷ spell (y ∷ ys)) ∙ at_space space x (spell (y ∷ ys)) refl ∙ ap (λ (l : List ℕ). x ∷ l) (spelled_in y ys)

small_all : (xs : List ℕ) → ((i : ℕ) → i < length xs → get_or xs i 0 < 2 ^ 32) → small xs ≡ true
unfolding small
small_all xs h = all_intro (length xs) (λ i. ltb (get_or xs i 0) (2 ^ 32)) (λ i l. lt-ltb (get_or xs i 0) (2 ^ 32) (h i l))

all_small : (xs : List ℕ) → small xs ≡ true → (i : ℕ) → i < length xs → get_or xs i 0 < 2 ^ 32
unfolding small
all_small xs h i l = ltb-true (get_or xs i 0) (2 ^ 32) (all_elim (length xs) (λ k. ltb (get_or xs k 0) (2 ^ 32)) h i l)

-- a line that spells values says them
pub content_spelled : (line xs : List ℕ) → Spells line xs → content_of line ≡ Spelled xs
unfolding content_of
content_spelled line [] h = absurd (not-suc-le-zero h.some)
content_spelled line (x ∷ xs) h =
    let v : values_in 0 line ≡ x ∷ xs = ap (values_in 0) h.text ∙ spelled_in x xs in
    rw (v, equal_same (sym h.text), small_all (x ∷ xs) h.small)

some_in : (line : List ℕ) (n : ℕ) → 0 < length (values_in n line)
some_in [] n = rw (last_one n) (omega arith)
some_in (b ∷ line) n =
    ⊎_elim (λ (t : eqb b space ≡ true). rw (at_space b n line t) (omega arith))
    (λ (f : eqb b space ≡ false). rw (at_digit b n line f) (some_in line (n * 10 + (b - 48))))
    (either (eqb b space))

-- a line whose values do not spell it spells none
pub content_none : (line : List ℕ) → ((xs : List ℕ) → Spells line xs → ⊥) → content_of line ≡ Unreadable
unfolding content_of
content_none line none =
    let xs = values_in 0 line in
    let test = same_bytes (spell xs) line && small xs in
    ⊎_elim
    (λ (t : test ≡ true).
    absurd (none xs (record {
      some = some_in line 0;
      small = all_small xs (and_right (same_bytes (spell xs) line) (small xs) t);
      text = sym (same_equal (spell xs) line (and_left (same_bytes (spell xs) line) (small xs) t));
    })))
    (λ (f : test ≡ false). rw f)
    (either test)
