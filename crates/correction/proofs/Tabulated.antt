-- The table of check numbers: its rule by one computed test, and that it agrees with the formula.
use mathlib.Core.Path.{◌≡◌, sym, ap, ap₂, ◌∙◌, subst}
use mathlib.Core.Bool.{Bool, true, false, ◌&&◌}
use mathlib.Core.List.{List, [], ◌∷◌}
use Prim.Native.Nat.{ℕ, zero, suc, ◌+◌, ◌*◌, ◌/◌, ◌%◌, ◌<◌}
use native.Mathlib.Nat.{add-zero, zero-add, add-suc, suc-add, le_of_suc-le-suc, not-suc-le-zero}
use native.Mathlib.Omega.{arith}
use lib.Dec.{eqb}
use lib.ListN.{length, get_or}
use borrow.Author.Tests.{eq-eqb, ne_eqb, eqb-true}
use Rattle.parity.proofs.Tests.{and_left, and_right}
use Rattle.gtb.specs.declared.Shape.{Shape}
use Rattle.gtb.specs.Shape.{word_length, slope_of}
use Rattle.gtb.specs.Square.{line_of, at}
use Rattle.gtb.proofs.Lines.{line_zero, line_suc}
use Rattle.correction.specs.Error.{check_of}
use Rattle.correction.specs.Shipped.{is_shipped, shipped_line, CheckNumbers, Tabled}

-- the test passes at each entry of the list and its place, counted from i
abbrev every : (ℕ → ℕ → Bool) → ℕ → List ℕ → Bool
every f i [] = true
every f i (x ∷ xs) = f i x && every f (suc i) xs

every_at : (f : ℕ → ℕ → Bool) (xs : List ℕ) (i : ℕ) → every f i xs ≡ true → (k : ℕ) → k < length xs → f (i + k) (get_or xs k 0) ≡ true
every_at f [] i h k l = absurd (not-suc-le-zero l)
every_at f (x ∷ xs) i h zero l = subst (λ (m : ℕ). f m x ≡ true) (sym (add-zero i)) (and_left (f i x) (every f (suc i) xs) h)
every_at f (x ∷ xs) i h (suc k) l =
    subst (λ (m : ℕ). f m (get_or xs k 0) ≡ true) (suc-add i k ∙ sym (add-suc i k))
    (every_at f xs (suc i) (and_right (f i x) (every f (suc i) xs) h) k (le_of_suc-le-suc l))

-- an entry is right
abbrev pub right : ℕ → ℕ → Bool
right e x = eqb x (e % 4 * 17 + shipped_line (e % 4) (e / 4))

-- the rule, from the test over the whole table
pub ruled : (table : List ℕ) → length table ≡ 1156 → every right 0 table ≡ true → CheckNumbers table
ruled table size h = record {
  size = size;
  number = λ j t lj lt.
      let t' : (4 * j + t) % 4 ≡ t = omega arith in
      let j' : (4 * j + t) / 4 ≡ j = omega arith in
      eqb-true (at table (4 * j + t)) ((4 * j + t) % 4 * 17 + shipped_line ((4 * j + t) % 4) ((4 * j + t) / 4))
      (subst (λ (m : ℕ). right m (at table (4 * j + t)) ≡ true) (zero-add (4 * j + t)) (every_at right table 0 h (4 * j + t) (omega arith)))
      ∙ ap₂ (λ (a b : ℕ). a * 17 + shipped_line a b) t' j';
}

-- what the test of the shape tells
record Shipped (s : Shape) : Type 0 where
  q : s.q ≡ 17
  n : s.n ≡ 4
  first : get_or s.slopes 0 0 ≡ 0
  second : get_or s.slopes 1 0 ≡ 1
  third : get_or s.slopes 2 0 ≡ 2

shipped : (s : Shape) → is_shipped s ≡ true → Shipped s
unfolding is_shipped
shipped s h =
    let h4 = and_left _ (eqb (get_or s.slopes 2 0) 2) h in
    let h3 = and_left _ (eqb (get_or s.slopes 1 0) 1) h4 in
    let h2 = and_left _ (eqb (get_or s.slopes 0 0) 0) h3 in
    record {
      q = eqb-true _ _ (and_left _ (eqb s.n 4) h2);
      n = eqb-true _ _ (and_right (eqb s.q 17) _ h2);
      first = eqb-true _ _ (and_right (eqb s.q 17 && eqb s.n 4) _ h3);
      second = eqb-true _ _ (and_right (eqb s.q 17 && eqb s.n 4 && eqb (get_or s.slopes 0 0) 0) _ h4);
      third = eqb-true _ _ (and_right (eqb s.q 17 && eqb s.n 4 && eqb (get_or s.slopes 0 0) 0 && eqb (get_or s.slopes 1 0) 1) _ h);
    }

-- the test, one number after the other
module _ (s : Shape) where
  pub other_order : (s.q ≡ 17 → ⊥) → false ≡ is_shipped s
  unfolding is_shipped
  other_order ne = rw (ne_eqb s.q 17 ne)

  pub other_directions : s.q ≡ 17 → (s.n ≡ 4 → ⊥) → false ≡ is_shipped s
  unfolding is_shipped
  other_directions q ne = rw (eq-eqb s.q 17 q, ne_eqb s.n 4 ne)

  pub other_first : s.q ≡ 17 → s.n ≡ 4 → (get_or s.slopes 0 0 ≡ 0 → ⊥) → false ≡ is_shipped s
  unfolding is_shipped
  other_first q n ne = rw (eq-eqb s.q 17 q, eq-eqb s.n 4 n, ne_eqb (get_or s.slopes 0 0) 0 ne)

  pub other_second : s.q ≡ 17 → s.n ≡ 4 → get_or s.slopes 0 0 ≡ 0 → (get_or s.slopes 1 0 ≡ 1 → ⊥) → false ≡ is_shipped s
  unfolding is_shipped
  other_second q n a ne = rw (eq-eqb s.q 17 q, eq-eqb s.n 4 n, eq-eqb (get_or s.slopes 0 0) 0 a, ne_eqb (get_or s.slopes 1 0) 1 ne)

  pub by_third : s.q ≡ 17 → s.n ≡ 4 → get_or s.slopes 0 0 ≡ 0 → get_or s.slopes 1 0 ≡ 1 → eqb (get_or s.slopes 2 0) 2 ≡ is_shipped s
  unfolding is_shipped
  by_third q n a b = rw (eq-eqb s.q 17 q, eq-eqb s.n 4 n, eq-eqb (get_or s.slopes 0 0) 0 a, eq-eqb (get_or s.slopes 1 0) 1 b)

module _ (s : Shape) (is : is_shipped s ≡ true) where
  -- its slopes, and with them its lines
  slope : (t : ℕ) → t < 3 → slope_of s (suc t) ≡ t
  unfolding slope_of
  slope zero l = (shipped s is).first
  slope (suc zero) l = (shipped s is).second
  slope (suc (suc zero)) l = (shipped s is).third
  slope (suc (suc (suc t))) l = absurd (omega arith)

  line : (t j : ℕ) → t < 4 → line_of s t j ≡ shipped_line t j
  unfolding shipped_line
  line zero j l = line_zero s j ∙ ap (λ (q : ℕ). j / q) (shipped s is).q
  line (suc t) j l = line_suc s t j ∙ ap₂ (λ (q k : ℕ). (j % q + k * (j / q)) % q) (shipped s is).q (slope t (le_of_suc-le-suc l))

  -- table and formula agree
  pub table_formula : (table : List ℕ) → CheckNumbers table → (j t : ℕ) → j < word_length s → t < s.n → at table (4 * j + t) ≡ check_of s j t
  table_formula table rule j t lj lt =
      let four = (shipped s is).n in
      rule.number j t (position j lj) (omega arith) ∙ sym (ap₂ (λ (q l : ℕ). t * q + l) (shipped s is).q (line t j (omega arith)))
    where
      position : (j : ℕ) → j < word_length s → j < 289
      position j l = rw (shipped s is).q at l

  pub tabled : (table : List ℕ) → CheckNumbers table → Tabled s table
  tabled table rule = record {
    shipped = λ lent. is;
    number = λ lent j t lj lt.
        let four = (shipped s is).n in
        let small : j < 289 = rw (shipped s is).q at lj in
        (omega (arith, rule.size), table_formula table rule j t lj lt);
  }

-- an empty table is none
pub untabled : (s : Shape) (table : List ℕ) → length table ≡ 0 → Tabled s table
untabled s table empty = record { shipped = λ lent. absurd (lent empty); number = λ lent. absurd (lent empty) }
