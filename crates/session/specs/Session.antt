-- The session, fresh and after a page (RULES 5).
use Rattle.std.specs.Prelude.{Bool, true, false, not, ◌&&◌, List, [], ◌∷◌, ◌≡◌, ℕ, ◌+◌, ◌^◌, eqb, leb, ltb, get_or, set, replicate, Result, Ok, Err}
use Rattle.parity.specs.Count.{bit, any, count, lowest_not}
use Rattle.parity.specs.Lists.{tabulate}
use Rattle.paper.specs.Session as paper
use Rattle.gtb.specs.declared.Shape.{Shape}
use Rattle.gtb.specs.declared.Refusal.{Refusal}
use Rattle.gtb.specs.Shape.{of, lawful, shape_refusal}
use Rattle.gtb.specs.Answer.{refusal_number, unless}
use Rattle.session.specs.declared.Session.{Session}
use Rattle.session.specs.declared.Unlawful.{Unlawful}

-- a session in the paper's numbers
abbrev pub plain : Session → paper.Session
plain σ = record { shape = of σ.shape; taken = σ.taken; calls = σ.calls; pages = σ.pages; lowest = σ.lowest }

-- page p is marked as taken
abbrev pub marked : List Bool → ℕ → Bool
marked taken p = get_or taken p false

-- how many pages are taken
unfoldable pub pages_of : List Bool → ℕ
pages_of taken = count 1024 (marked taken)

-- the lowest page number that is not, 1024 if all are
unfoldable pub lowest_of : List Bool → ℕ
lowest_of taken = lowest_not 1024 (marked taken)

-- test 11: both figures are what the marks say
unfoldable pub consistent : Session → Bool
consistent σ = eqb σ.pages (pages_of σ.taken) && eqb σ.lowest (lowest_of σ.taken)

abbrev pub Consistent : Session → Type 0
Consistent σ = consistent σ ≡ true

-- only no and zeros
unfoldable pub fresh_of : Shape → Session
fresh_of s = record { shape = s; taken = replicate 1024 false; calls = replicate 256 0; pages = 0; lowest = 0 }

-- making one tests 1, then 18
unfoldable pub fresh_status : Shape → Result (Unit {0}) Refusal
fresh_status s = unless (lawful s) (Err (shape_refusal s)) (Ok tt)

-- the session that is made; beside a refusal stands that of the shape, of use to nobody
abbrev pub begun_session : Result Session Unlawful → Session
begun_session (Ok σ) = σ
begun_session (Err e) = e.session

-- and the answer
abbrev pub begun_status : Result Session Unlawful → Result (Unit {0}) Refusal
begun_status (Ok σ) = Ok tt
begun_status (Err e) = Err e.refusal

-- what making one gives
pub record Beginning (s : Shape) (r : Result Session Unlawful) : Type 0 where
  pub session : begun_session r ≡ fresh_of s
  pub status : begun_status r ≡ fresh_status s

-- a mark that is a call: 0 is the idle loop (N5)
abbrev pub is_call : ℕ → Bool
is_call m = not (eqb m 0)

-- how many of the marks are calls of function f, so none of function 0
unfoldable pub count_of : ℕ → List ℕ → ℕ
count_of f [] = 0
count_of f (m ∷ marks) = bit (eqb m f && is_call m) + count_of f marks

-- each call adds 1 to its function's count
unfoldable pub added : List ℕ → List ℕ → List ℕ
added calls marks = tabulate 256 (λ f. get_or calls f 0 + count_of f marks)

-- a count would pass 2^32 - 1
unfoldable pub overflows : List ℕ → List ℕ → Bool
overflows calls marks = any 256 (λ f. leb (2 ^ 32) (get_or calls f 0 + count_of f marks))

-- the session with these page marks and counts, and the figures that go with the marks
abbrev pub figured : Shape → List Bool → List ℕ → Session
figured s taken calls = record { shape = s; taken = taken; calls = calls; pages = pages_of taken; lowest = lowest_of taken }

-- the number becomes yes, the marks are counted
unfoldable pub recorded : Session → ℕ → List ℕ → Session
recorded σ number marks = figured σ.shape (set σ.taken number true) (added σ.calls marks)

-- the tests of a session that is handed in: 1, 18, then 11
unfoldable pub session_status : Session → Result (Unit {0}) Refusal
session_status σ =
    unless (lawful σ.shape) (Err (shape_refusal σ.shape))
    (unless (consistent σ) (Err Refusal.Figures) (Ok tt))

-- past such tests: go on, or give their refusal
abbrev pub past : {A : Type 0} → Result (Unit {0}) Refusal → (Refusal → A) → A → A
past (Ok tt) refused next = next
past (Err e) refused next = refused e

-- a count query tests 1, 18, 11, then 7
unfoldable pub counted_of : Session → ℕ → Result ℕ Refusal
counted_of σ f = past (session_status σ) Err (unless (ltb f 256) (Err Refusal.Function) (Ok (get_or σ.calls f 0)))

-- as one number, a refusal above all counts
abbrev pub counted_number : Result ℕ Refusal → ℕ
counted_number (Ok k) = k
counted_number (Err e) = 2 ^ 32 + refusal_number e
