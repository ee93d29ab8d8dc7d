-- What the private steps of the search establish. A position is wrong, where a codeword v is close, if it is not listed and v has another symbol there.
-- The steps see the syndromes of the word in a table `seen`: of the checks that no listed place is on; for the others it has 0, and `touched` has 1.
use Rattle.std.specs.Prelude.{◌≡◌, Bool, true, false, List, [], ◌∷◌, ◌++◌, ◌⊎◌, Option, Some, None, ℕ, ◌+◌, ◌*◌, ◌/◌, ◌%◌, ◌<◌, ◌≤◌, length, Result}
use Rattle.gtb.specs.declared.Shape.{Shape}
use Rattle.gtb.specs.declared.Refusal.{Refusal}
use Rattle.gtb.specs.Shape.{Lawful, word_length}
use Rattle.gtb.specs.Square.{line_of, at, syndrome, Word, Syndromes}
use Rattle.distance.specs.Distance.{differences}
use Rattle.correction.specs.Error.{check_of, shows}
use Rattle.correction.specs.Steps.{check_in}
use Rattle.correction.specs.Guesses.{number_on}
use Rattle.erasure.specs.Fill.{is_listed}
use Rattle.erasure.specs.Steps.{Places, LateTests}
use Rattle.restore.specs.declared.marks.Marks.{Marks}
use Rattle.restore.specs.Restore.{Close, Judgement}

-- ---- the two tables
-- the first m checks on position j hold x, all other places what they held
pub record Put (s : Shape) (j x m : ℕ) (old new : List ℕ) : Type 0 where
  pub size : length new ≡ length old
  pub on : (t : ℕ) → t < m → at new (check_of s j t) ≡ x
  pub off : (e : ℕ) → ((t : ℕ) → t < m → check_of s j t ≡ e → ⊥) → at new e ≡ at old e

-- the two tables of a word and a list
pub record Hidden (s : Shape) (word places : List ℕ) (marks : Marks) : Type 0 where
  pub entry : (t L : ℕ) → t < s.n → L < s.q
      → ((at marks.seen (t * s.q + L) ≡ 0) × (at marks.touched (t * s.q + L) ≡ 1))
      ⊎ ((at marks.seen (t * s.q + L) ≡ syndrome s (at word) t L) × ((j : ℕ) → line_of s t j ≡ L → is_listed places j ≡ false))

-- one place more
abbrev pub Hides : Shape → ℕ → Marks → Marks → Type 0
Hides s j old new = (word places : List ℕ) → Hidden s word places old → Hidden s word (places ++ (j ∷ [])) new

-- a whole list
abbrev pub HidesAll : Shape → List ℕ → Marks → Marks → Type 0
HidesAll s places old new = (word : List ℕ) → Hidden s word [] old → Hidden s word places new

-- ---- the positions that are looked at
-- those on a check, or all
abbrev pub suspects : Shape → Option ℕ → ℕ
suspects s (Some check) = s.q
suspects s None = word_length s

-- which of them position p is
abbrev pub rank : Shape → Option ℕ → ℕ → ℕ
rank s (Some check) p = number_on s (check / s.q) p
rank s None p = p

-- position p is one of them
pub record On (s : Shape) (check : Option ℕ) (p : ℕ) : Type 0 where
  pub below : p < word_length s
  pub line : (c : ℕ) → check ≡ Some c → line_of s (c / s.q) p ≡ c % s.q

-- position j is number i of them
pub record Chosen (s : Shape) (check : Option ℕ) (i j : ℕ) : Type 0 where
  pub below : j < word_length s
  pub only : (p : ℕ) → On s check p → rank s check p ≡ i → p ≡ j

-- no value but 0 is shown `least` times
pub record Outvoted (n : ℕ) (values : List ℕ) (least : ℕ) : Type 0 where
  pub few : (x : ℕ) → (x ≡ 0 → ⊥) → shows n (at values) x < least

-- yes: position j is not listed. No: it is, or so few of its checks are touched or show one value that it is none of k wrong ones
pub record Suspected (s : Shape) (places : List ℕ) (marks : Marks) (k j : ℕ) (r : Bool) : Type 0 where
  pub yes : r ≡ true → is_listed places j ≡ false
  pub no : r ≡ false → is_listed places j ≡ false → (x : ℕ) → (x ≡ 0 → ⊥) → shows s.n (check_in s marks.seen j) x + shows s.n (check_in s marks.touched j) 1 + k ≤ s.n

-- ---- the search
-- what it starts from: 2 k + f < 2 n
pub record Node (s : Shape) (word syn places : List ℕ) (marks : Marks) (k : ℕ) : Type 0 where
  pub law : Lawful s
  pub came : Word s word
  pub computed : Syndromes s word syn
  pub listed : Places (word_length s) places
  pub hidden : Hidden s word places marks
  pub few : length places + 2 * k < 2 * s.n

-- r is a number: the word is a close codeword, and differs in so many symbols; else it is as it came, and every close codeword is like this
pub record Sought (s : Shape) (k : ℕ) (word places word' : List ℕ) (r : Option ℕ) (Like : List ℕ → Type 0) : Type 0 where
  pub close : (c : ℕ) → r ≡ Some c → Close s k word places word'
  pub number : (c : ℕ) → r ≡ Some c → c ≡ differences s word' word
  pub left : r ≡ None → word' ≡ word
  pub like : r ≡ None → (v : List ℕ) → Close s k word places v → Like v

-- tests 3 and 12, then the work
abbrev pub Judged : Shape → List ℕ → List ℕ → List ℕ → Result ℕ Refusal → Type 0
Judged s word places word' r = LateTests (Judgement s word places word' r) s word places word' r
