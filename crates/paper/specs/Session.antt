-- The session: fresh, asked for a count, and after an arrival (RULES 5).
use Rattle.std.specs.Prelude.{◌≡◌, Bool, true, false, not, ◌&&◌, ◌||◌, List, [], ◌∷◌, ◌⊎◌, ◌≢◌, ℕ, ◌+◌, ◌-◌, ◌^◌, ◌<◌, ◌≤◌, eqb, length, get_or, replicate}
use Rattle.parity.specs.Count.{count}
use Rattle.paper.specs.Answers.{Test, Judged, refusal, at, zeros}
use Rattle.paper.specs.Square.{Shape, InLists, WrongSlopes, N, Wide, changed}
use Rattle.paper.specs.Writing.{DataDigits, scratch_length, scratch_left}
use Rattle.paper.specs.Reading.{Read, unread, TooFew}
use Rattle.paper.specs.Page.{marks_in, contents}

-- yes or no for each page number, a count for each function; how many pages are taken, and the lowest that is not (N1)
pub record Session : Type 0 where
  pub shape : Shape
  pub taken : List Bool
  pub calls : List ℕ
  pub pages : ℕ
  pub lowest : ℕ

-- the page number is marked yes
abbrev pub is_yes : Session → ℕ → Bool
is_yes session page = get_or session.taken page false

-- the lowest of the 1024 numbers that is not in a set, 1024 if all are
pub record Lowest (in_set : ℕ → Bool) (number : ℕ) : Type 0 where
  pub upto : number ≤ 1024
  pub below : (p : ℕ) → p < number → in_set p ≡ true
  pub fails : number < 1024 → in_set number ≡ false

-- 11: a figure is not what the marks say
abbrev pub WrongFigures : Session → Type 0
WrongFigures session = (session.pages ≢ count 1024 (is_yes session)) ⊎ (¬ Lowest (is_yes session) session.lowest)

-- only no and zeros
abbrev pub fresh : Shape → Session
fresh s = record { shape = s; taken = replicate 1024 false; calls = replicate 256 0; pages = 0; lowest = 0 }

abbrev pub fresh_tests : Shape → List Test
fresh_tests s = (1, ¬ InLists s) ∷ (18, WrongSlopes s) ∷ []

abbrev pub Beginning : Shape → Session → ℕ → Type 0
Beginning s session answer = Judged (fresh_tests s) (λ k. answer ≡ refusal k) ((answer ≡ 0) × (session ≡ fresh s))

abbrev pub count_tests : Session → ℕ → List Test
count_tests session function =
    (1, ¬ InLists session.shape)
    ∷ (18, WrongSlopes session.shape)
    ∷ (11, WrongFigures session)
    ∷ (7, 255 < function)
    ∷ []

-- a count may fill 32 bits, so a refusal stands above them
abbrev pub Counting : Session → ℕ → ℕ → Type 0
Counting session function answer = Judged (count_tests session function) (λ k. answer ≡ 2 ^ 32 + k) (answer ≡ at session.calls function)

-- how many marks add to the count of function f: mark 0 adds to none (N5)
unfoldable pub marks_for : ℕ → List ℕ → ℕ
marks_for f marks = count (length marks) (λ i. eqb (at marks i) f && not (eqb (at marks i) 0))

-- 9: a count would pass 2^32 - 1
abbrev pub Worn : Session → List ℕ → Type 0
Worn session marks = (f : ℕ) × (f < 256) × (2 ^ 32 - 1 < at session.calls f + marks_for f marks)

-- the session with this page taken
pub record Recorded (session : Session) (page : ℕ) (marks : List ℕ) (session' : Session) : Type 0 where
  pub marked : (p : ℕ) → p < 1024 → is_yes session' p ≡ (is_yes session p || eqb p page)
  pub counted : (f : ℕ) → f < 256 → at session'.calls f ≡ at session.calls f + marks_for f marks
  pub shape : session'.shape ≡ session.shape
  pub size : (length session'.taken ≡ 1024) × (length session'.calls ≡ 256)
  pub figures : ¬ WrongFigures session'

-- ---- an arrival

-- what the caller hands in beside the session
pub record Arrival : Type 0 where
  pub way : ℕ
  pub word : List ℕ
  pub scratch : List ℕ

-- what the caller has afterwards; the answer is 0 taken, 1 again, 2 refused, then page or refusal number, then digits changed
pub record Arrived : Type 0 where
  pub session : Session
  pub word : List ℕ
  pub scratch : List ℕ
  pub answer : List ℕ

-- on the word: whether its way serves the shape, the lengths, the width, and whether it can be read
abbrev pub word_tests : Shape → Arrival → List Test
word_tests s a =
    (16, TooFew s a.way)
    ∷ (2, (length a.word ≢ N s) ⊎ (length a.scratch ≢ scratch_length s))
    ∷ (3, Wide s a.word)
    ∷ (unread a.way, (v : List ℕ) → ¬ Read s a.way a.word v)
    ∷ []

-- a number that names no way is 1, before all else (N4)
abbrev pub arrival_tests : Session → Arrival → List Test
arrival_tests session a =
    (1, 2 < a.way) ∷ (1, ¬ InLists session.shape) ∷ (18, WrongSlopes session.shape) ∷ (11, WrongFigures session) ∷ word_tests session.shape a

-- a refusal changes nothing but the scratch
abbrev pub Refusing : Session → Arrival → Arrived → ℕ → Type 0
Refusing session a r k = (r.answer ≡ 2 ∷ k ∷ 0 ∷ []) × (r.session ≡ session) × (r.word ≡ a.word) × (r.scratch ≡ scratch_left k a.scratch)

-- the word stands corrected
abbrev pub Accepting : ℕ → Shape → Arrival → List ℕ → List ℕ → Arrived → Type 0
Accepting outcome s a v digits r = (r.answer ≡ outcome ∷ at digits 0 ∷ changed s a.word v ∷ []) × (r.word ≡ v) × (r.scratch ≡ zeros a.scratch)

-- the page in the data digits of the word v that was read: again comes before 9
abbrev pub Settling : Session → Arrival → List ℕ → List ℕ → Arrived → Type 0
Settling session a v digits r =
    Judged (contents session.shape digits) (Refusing session a r)
    (((is_yes session (at digits 0) ≡ true) × (r.session ≡ session) × Accepting 1 session.shape a v digits r)
    ⊎ ((is_yes session (at digits 0) ≡ false) × Judged ((9, Worn session (marks_in digits)) ∷ []) (Refusing session a r)
    (Recorded session (at digits 0) (marks_in digits) r.session × Accepting 0 session.shape a v digits r)))

abbrev pub Arriving : Session → Arrival → Arrived → Type 0
Arriving session a r =
    Judged (arrival_tests session a) (Refusing session a r)
    ((v digits : List ℕ) × Read session.shape a.way a.word v × DataDigits session.shape v digits × Settling session a v digits r)
