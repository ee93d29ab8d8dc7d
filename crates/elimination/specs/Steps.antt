-- What the steps of an elimination do.
use Rattle.std.specs.Prelude.{◌≡◌, Bool, true, false, not, ◌&&◌, List, Option, ◌⊎◌, ℕ, ◌+◌, ◌^◌, ◌<◌, ◌≤◌, eqb, ltb, length}
use Rattle.std.specs.Bool.{xor}
use Rattle.std.specs.Option.{MatchOption}
use Rattle.parity.specs.Xor.{◌⊕◌, when}
use Rattle.parity.specs.Lists.{at}
use Rattle.elimination.specs.System.{Solves, Below}
use Rattle.elimination.specs.Packed.{cell_of}

-- row s is XORed onto the rows i with e i, and its value onto theirs
pub record Combined (p s : ℕ) (e : ℕ → Bool) (m : ℕ → ℕ → Bool) (v : ℕ → ℕ) (m' : ℕ → ℕ → Bool) (v' : ℕ → ℕ) : Type 0 where
  pub cell : (i k : ℕ) → k < p → m' i k ≡ xor (m i k) (e i && m s k)
  pub value : (i : ℕ) → v' i ≡ v i ⊕ when (e i) (v s)

-- row u alone, unless it is row i
abbrev pub lifted : ℕ → ℕ → ℕ → Bool
lifted u i t = eqb t u && not (eqb i u)

-- the rows after row u and below i, as far as they have column k
abbrev pub cleared : ℕ → (ℕ → ℕ → Bool) → ℕ → ℕ → ℕ → Bool
cleared i m k u t = ltb t i && (ltb u t && m t k)

-- the same solutions, and values no wider
pub record Kept (p r : ℕ) (m : ℕ → ℕ → Bool) (v : ℕ → ℕ) (m' : ℕ → ℕ → Bool) (v' : ℕ → ℕ) : Type 0 where
  pub to : (x : ℕ → ℕ) → Solves p r m v x → Solves p r m' v' x
  pub from : (x : ℕ → ℕ) → Solves p r m' v' x → Solves p r m v x
  pub narrow : (b : ℕ) → Below b r v → Below b r v'

-- a solution of the first u rows that is y from column k on, as narrow as y and the values w
pub record Extension (p k u : ℕ) (m : ℕ → ℕ → Bool) (w y : ℕ → ℕ) : Type 0 where
  pub x : ℕ → ℕ
  pub same : (j : ℕ) → k ≤ j → x j ≡ y j
  pub solves : Solves p u m w x
  pub narrow : (b : ℕ) → Below b u w → ((j : ℕ) → y j < 2 ^ b) → (j : ℕ) → x j < 2 ^ b

-- zeros and ones, one of them below k and none from k on, by which two solutions of the first u rows may differ
pub record Kernel (p k u : ℕ) (m : ℕ → ℕ → Bool) : Type 0 where
  pub h : ℕ → ℕ
  pub small : (j : ℕ) → h j < 2
  pub ends : (j : ℕ) → k ≤ j → h j ≡ 0
  pub solves : Solves p u m (λ i. 0) h
  pub place : ℕ
  pub inside : place < k
  pub set : h place ≡ 1

-- the columns below k are done, with u pivots, in the first u rows
pub record Reduced (p r k u : ℕ) (m : ℕ → ℕ → Bool) : Type 0 where
  pub few : u ≤ k
  pub fits : u ≤ r
  pub zeros : (i j : ℕ) → u ≤ i → i < r → j < k → m i j ≡ false
  pub extends : (w y : ℕ → ℕ) → Extension p k u m w y
  pub unit : u ≡ k → (i j : ℕ) → i < u → j ≤ i → m i j ≡ eqb i j
  pub free : u < k → Kernel p k u m

-- no number from `from` on, and below n, passes the test
abbrev pub NoneFrom : ℕ → ℕ → (ℕ → Bool) → Type 0
NoneFrom from n test = (j : ℕ) → from ≤ j → j < n → test j ≡ false

-- i, below n, is the first number from `from` on that passes the test
pub record FirstAt (from n : ℕ) (test : ℕ → Bool) (i : ℕ) : Type 0 where
  pub least : from ≤ i
  pub inside : i < n
  pub fails : NoneFrom from i test
  pub passes : test i ≡ true

-- the first number from `from` on, and below n, that passes the test, where there is one
abbrev pub First : ℕ → ℕ → (ℕ → Bool) → Option ℕ → Type 0
First from n test found = MatchOption found (NoneFrom from n test) (FirstAt from n test)

-- the values from + w are XORed onto the values to + w, for w from `first` on and below `last`
pub record RunAdded (to from first last : ℕ) (old new : List ℕ) : Type 0 where
  pub size : length new ≡ length old
  pub inside : (w : ℕ) → first ≤ w → w < last → at new (to + w) ≡ at old (to + w) ⊕ at old (from + w)
  pub outside : (e : ℕ) → (e < to + first) ⊎ (to + last ≤ e) → at new e ≡ at old e

-- Combined, of the rows in the scratch
pub record RowsCombined (S p s : ℕ) (e : ℕ → Bool) (old values new left : List ℕ) : Type 0 where
  pub size : length new ≡ length old
  pub sizes : length left ≡ 248
  pub rows : Combined p s e (cell_of S old) (at values) (cell_of S new) (at left)

-- the elimination up to column k
pub record Progress (r S p k u : ℕ) (old values new left : List ℕ) : Type 0 where
  pub size : length new ≡ length old
  pub sizes : length left ≡ 248
  pub kept : Kept p r (cell_of S old) (at values) (cell_of S new) (at left)
  pub reduced : Reduced p r k u (cell_of S new)

-- unknown k, the value at k, is taken off the values of the first i rows that have its column
pub record TakenOff (S k i : ℕ) (scratch old new : List ℕ) : Type 0 where
  pub size : length new ≡ 248
  pub taken : (t : ℕ) → t < i → at new t ≡ at old t ⊕ when (cell_of S scratch t k) (at old k)
  pub others : (t : ℕ) → i ≤ t → at new t ≡ at old t

-- the unknowns from k on stand in the values, and are taken off those of the first k rows
pub record Substituted (S p k : ℕ) (scratch old new : List ℕ) : Type 0 where
  pub size : length new ≡ 248
  pub known : (x : ℕ → ℕ) → Solves p p (cell_of S scratch) (at old) x → (j : ℕ) → k ≤ j → j < p → at new j ≡ x j
  pub rest : (x : ℕ → ℕ) → Solves p p (cell_of S scratch) (at old) x → Solves k k (cell_of S scratch) (at new) x
