-- The steps of writing and of data extraction, for the contracts of the private functions.
use Rattle.std.specs.Prelude.{◌≡◌, List, ℕ, suc, ◌+◌, ◌-◌, ◌*◌, ◌%◌, ◌^◌, ◌≤◌, ◌<◌, length, replicate, Result, Ok, Err}
use Rattle.parity.specs.Xor.{◌⊕◌}
use Rattle.parity.specs.Cyclic.{Cyclic, eval, walk}
use Rattle.gtb.specs.declared.Shape.{Shape}
use Rattle.gtb.specs.declared.Refusal.{Refusal}
use Rattle.gtb.specs.Shape.{word_length}
use Rattle.gtb.specs.Square.{at}
use Rattle.gtb.specs.Answer.{scratch_after}
use Rattle.gtb.specs.Rows.{shift_of, row_of, lower_row}
use Rattle.encoder.specs.Contract.{status_of}

-- the tests of both entries, on the symbols that come in: what they answer and leave in the scratch
pub record Tested (s : Shape) (symbols scratch word given scratch' : List ℕ) (r : Result (Unit {0}) Refusal) : Type 0 where
  pub answer : r ≡ status_of s symbols scratch word given
  pub refused : (e : Refusal) → r ≡ Err e → scratch' ≡ scratch_after e scratch
  pub done : r ≡ Ok tt → scratch' ≡ replicate (length scratch) 0

-- row r of a word as a function on a cycle of q places
abbrev pub row : ℕ → List ℕ → ℕ → ℕ → ℕ
row q w = row_of q (at w)

-- the symbols put down in the rows from n - 1 on, zeros above them
pub record Placed (s : Shape) (symbols w : List ℕ) : Type 0 where
  pub size : length w ≡ word_length s
  pub upper : (r : ℕ) → suc r < s.n → (c : ℕ) → row s.q w r c ≡ 0
  pub lower : (i : ℕ) → s.n - 1 + i < s.q → (c : ℕ) → row s.q w (s.n - 1 + i) c ≡ lower_row (s.q - 1) (λ j. at symbols (i * (s.q - 1) + j)) (c % s.q)

-- the upper rows hold what each direction from 1 on shows, the lower ones are as they were
pub record Raised (s : Shape) (w w' : List ℕ) : Type 0 where
  pub size : length w' ≡ length w
  pub upper : (t : ℕ) → suc t < s.n → (c : ℕ) → row s.q w' t c ≡ eval s.q (row s.q w) (shift_of s t) c
  pub lower : (r : ℕ) → s.n ≤ suc r → (c : ℕ) → row s.q w' r c ≡ row s.q w r c

-- the difference of the rows t and k
abbrev pub difference : ℕ → List ℕ → ℕ → ℕ → ℕ → ℕ
difference q w k t c = row q w t c ⊕ row q w k c

-- once round the cycle of q places in steps of δ: each place holds the XOR of d on the way there
pub record Walked (q δ : ℕ) (d : ℕ → ℕ) (v : List ℕ) : Type 0 where
  pub size : length v ≡ 32
  pub entry : (e : ℕ) → δ * e % q ≡ 1 → (u : ℕ) → u < q → at v u ≡ walk q δ e d u

-- a row of zero total, its symbols below 2^b
pub record Sound (s : Shape) (f : ℕ → ℕ) : Type 0 where
  pub cyclic : Cyclic s.q f
  pub width : (c : ℕ) → f c < 2 ^ s.b

-- the upper rows from k on are sound; the last of them is row n - 2
pub record Ready (s : Shape) (k : ℕ) (w : List ℕ) : Type 0 where
  pub size : length w ≡ word_length s
  pub first : suc k < s.n
  pub sound : (r : ℕ) → k ≤ r → suc r < s.n → Sound s (row s.q w r)

-- row t can be divided by the root of row k
pub record Divisible (s : Shape) (k t : ℕ) (w : List ℕ) : Type 0 where
  pub size : length w ≡ word_length s
  pub after : k < t
  pub last : suc t < s.n
  pub root : Sound s (row s.q w k)
  pub value : Sound s (row s.q w t)

-- g is row t less row k, divided by the difference of their shifts
abbrev pub Quotient : Shape → ℕ → ℕ → List ℕ → (ℕ → ℕ) → Type 0
Quotient s k t w g = (c : ℕ) → g (c + shift_of s t) ⊕ g (c + shift_of s k) ≡ difference s.q w k t c

-- row t is divided, each other row as it was
pub record RowDivided (s : Shape) (k t : ℕ) (w w' : List ℕ) : Type 0 where
  pub size : length w' ≡ length w
  pub others : (r : ℕ) → (r ≡ t → ⊥) → (c : ℕ) → row s.q w' r c ≡ row s.q w r c
  pub sound : Sound s (row s.q w' t)
  pub step : Quotient s k t w (row s.q w' t)

-- the rows after k and before t are divided
pub record Divided (s : Shape) (k t : ℕ) (w w' : List ℕ) : Type 0 where
  pub size : length w' ≡ length w
  pub upto : (r : ℕ) → r ≤ k → (c : ℕ) → row s.q w' r c ≡ row s.q w r c
  pub past : (r : ℕ) → t ≤ r → (c : ℕ) → row s.q w' r c ≡ row s.q w r c
  pub sound : (r : ℕ) → k < r → r < t → Sound s (row s.q w' r)
  pub step : (r : ℕ) → k < r → r < t → Quotient s k r w (row s.q w' r)

-- each row from k on and before t has taken the next in, moved by x
pub record Joined (q x k t : ℕ) (w w' : List ℕ) : Type 0 where
  pub size : length w' ≡ length w
  pub upto : (r : ℕ) → r < k → (c : ℕ) → row q w' r c ≡ row q w r c
  pub past : (r : ℕ) → t ≤ r → (c : ℕ) → row q w' r c ≡ row q w r c
  pub step : (r : ℕ) → k ≤ r → r < t → (c : ℕ) → row q w' r c ≡ row q w r c ⊕ row q w (suc r) (c + x)

-- the upper rows from k on take, at the shift of each, the value that its row had
pub record Interpolated (s : Shape) (k : ℕ) (w w' : List ℕ) : Type 0 where
  pub size : length w' ≡ length w
  pub upto : (r : ℕ) → r < k → (c : ℕ) → row s.q w' r c ≡ row s.q w r c
  pub past : (r : ℕ) → s.n ≤ suc r → (c : ℕ) → row s.q w' r c ≡ row s.q w r c
  pub sound : (r : ℕ) → k ≤ r → suc r < s.n → Sound s (row s.q w' r)
  pub value : (t : ℕ) → k ≤ t → suc t < s.n → (c : ℕ) → eval (s.n - 1 - k) (λ i. row s.q w' (k + i)) (shift_of s t) c ≡ row s.q w t c
