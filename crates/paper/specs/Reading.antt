-- Reading a damaged word (RULES 3, 3.2, 3.3), how many checks that looks at (N3), and checking what somebody else restored (RULES 3.4).
use Rattle.std.specs.Prelude.{◌≡◌, not, List, [], ◌∷◌, ◌⊎◌, ◌≢◌, ℕ, zero, suc, ◌-◌, ◌*◌, ◌/◌, ◌<◌, ◌≤◌, eqb, length}
use Rattle.parity.specs.Xor.{◌⊕◌}
use Rattle.parity.specs.Count.{count}
use Rattle.paper.specs.Answers.{Test, Judged, refusal, at}
use Rattle.paper.specs.Square.{Shape, InLists, WrongSlopes, N, line, value, Digits, Stored, Wide, changed}

-- a check that a damaged digit is on shows the damage
abbrev pub Clean : Shape → List ℕ → Type 0
Clean s damage = (t j : ℕ) → t < s.n → j < N s → at damage j ≢ 0 → value s damage t (line s t j) ≢ 0

-- how many digits are damaged
unfoldable pub nonzero : Shape → List ℕ → ℕ
nonzero s damage = count (N s) (λ j. not (eqb (at damage j) 0))

-- the damage, XORed onto the stored word v, gives the word
pub record Damaged (s : Shape) (word v damage : List ℕ) : Type 0 where
  pub stored : Stored s v
  pub digits : Digits s damage
  pub number : length word ≡ N s
  pub given : (j : ℕ) → j < N s → at word j ≡ at v j ⊕ at damage j

-- v and clean damage to at most n - 1 digits give the word
pub record Explained (s : Shape) (word v : List ℕ) : Type 0 where
  pub damage : List ℕ
  pub damaged : Damaged s word v damage
  pub clean : Clean s damage
  pub few : nonzero s damage ≤ s.n - 1

-- v is a stored word, and at most so many digits differ, clean or not
pub record Within (s : Shape) (most : ℕ) (word v : List ℕ) : Type 0 where
  pub stored : Stored s v
  pub few : changed s word v ≤ most

-- what each way of reading gives: 0 clean, 1 by vote (N4), 2 two digits (N6)
abbrev pub Read : Shape → ℕ → List ℕ → List ℕ → Type 0
Read s zero word v = Explained s word v
Read s (suc zero) word v = Within s (s.n / 2) word v
Read s (suc (suc way)) word v = Within s 2 word v

-- the refusal of a word that it can't read
abbrev pub unread : ℕ → ℕ
unread zero = 4
unread (suc zero) = 15
unread (suc (suc way)) = 17

-- 16: way 2 with two directions
abbrev pub TooFew : Shape → ℕ → Type 0
TooFew s way = (way ≡ 2) × (s.n ≡ 2)

abbrev pub read_tests : Shape → ℕ → List ℕ → List Test
read_tests s way word =
    (1, ¬ InLists s)
    ∷ (18, WrongSlopes s)
    ∷ (16, TooFew s way)
    ∷ (2, length word ≢ N s)
    ∷ (3, Wide s word)
    ∷ (unread way, (v : List ℕ) → ¬ Read s way word v)
    ∷ []

abbrev pub Reading : Shape → ℕ → List ℕ → List ℕ → ℕ → Type 0
Reading s way word word' answer =
    Judged (read_tests s way word)
    (λ k. (answer ≡ refusal k) × (word' ≡ word))
    (Read s way word word' × (answer ≡ changed s word word'))

-- how many of the n checks on digit j have the value x
abbrev pub votes : Shape → List ℕ → ℕ → ℕ → ℕ
votes s word j x = count s.n (λ t. eqb (value s word t (line s t j)) x)

-- a digit changes by the nonzero value that more than half of its checks show, if there is one
pub record Voted (s : Shape) (word word' : List ℕ) : Type 0 where
  pub moved : (j x : ℕ) → j < N s → x ≢ 0 → s.n < 2 * votes s word j x → at word' j ≡ at word j ⊕ x
  pub kept : (j : ℕ) → j < N s → ((x : ℕ) → x ≢ 0 → 2 * votes s word j x ≤ s.n) → at word' j ≡ at word j

-- of digit j so many checks are looked at, in rising direction: up to and with the first silent one, or all n (N3)
pub record Looked (s : Shape) (word : List ℕ) (j number : ℕ) : Type 0 where
  pub some : (1 ≤ number) × (number ≤ s.n)
  pub loud : (t : ℕ) → suc t < number → value s word t (line s t j) ≢ 0
  pub silent : number < s.n → value s word (number - 1) (line s (number - 1) j) ≡ 0

abbrev pub look_tests : Shape → List ℕ → List ℕ → List Test
look_tests s word list =
    (1, ¬ InLists s)
    ∷ (18, WrongSlopes s)
    ∷ (2, (length word ≢ N s) ⊎ (length list ≢ N s))
    ∷ (3, Wide s word)
    ∷ []

-- a number for each digit, whether or not the word can be read
abbrev pub Looking : Shape → List ℕ → List ℕ → List ℕ → ℕ → Type 0
Looking s word list list' answer =
    Judged (look_tests s word list)
    (λ k. (answer ≡ refusal k) × (list' ≡ list))
    ((answer ≡ 0) × (length list' ≡ N s) × ((j : ℕ) → j < N s → Looked s word j (at list' j)))

-- a proposal for a received word: 1 yes, 0 no (N10)
abbrev pub check_tests : Shape → List ℕ → List ℕ → List Test
check_tests s word proposal =
    (1, ¬ InLists s)
    ∷ (18, WrongSlopes s)
    ∷ (2, (length word ≢ N s) ⊎ (length proposal ≢ N s))
    ∷ (3, Wide s word ⊎ Wide s proposal)
    ∷ []

abbrev pub Checking : Shape → List ℕ → List ℕ → ℕ → Type 0
Checking s word proposal answer =
    Judged (check_tests s word proposal)
    (λ k. answer ≡ refusal k)
    ((Explained s word proposal × (answer ≡ 1)) ⊎ ((¬ Explained s word proposal) × (answer ≡ 0)))
