-- An arrival (RULES 5). What it brings is opened without the session; the session then decides.
use Rattle.std.specs.Prelude.{◌≡◌, Bool, true, false, cond, ◌&&◌, ◌||◌, List, [], ◌∷◌, ℕ, zero, suc, ◌-◌, ◌/◌, ◌≤◌, eqb, ltb, length, get_or, replicate, Result, Ok, Err}
use Rattle.paper.specs.Session as paper
use Rattle.gtb.specs.declared.Shape.{Shape}
use Rattle.gtb.specs.declared.Refusal.{Refusal}
use Rattle.gtb.specs.Shape.{lawful, shape_refusal, word_length, scratch_length}
use Rattle.gtb.specs.Square.{at, Word, Codeword}
use Rattle.gtb.specs.Positions.{extract_of}
use Rattle.gtb.specs.Answer.{refusal_number, unless, scratch_after}
use Rattle.correction.specs.Error.{weight, damaged}
use Rattle.correction.specs.Reading.{Reader, restored_by, read_of}
use Rattle.decoder.specs.Damage.{Unmasked}
use Rattle.decoder.specs.Decode as decoder
use Rattle.majority.specs.Majority as majority
use Rattle.double.specs.Double as double
use Rattle.page.specs.Page.{page_of, marks_of}
use Rattle.session.specs.declared.Session.{Session}
use Rattle.session.specs.declared.Outcome.{Outcome}
use Rattle.session.specs.declared.Outcome.TheVariants.{Taken, Again, Refused}
use Rattle.session.specs.declared.Arrived.{Arrived}
use Rattle.session.specs.Session.{plain, session_status, past, overflows, recorded}

-- an answer's three values: 0 taken, 1 again, 2 refused; page or refusal number; digits changed
abbrev pub outcome_values : Outcome → List ℕ
outcome_values (Taken number k) = 0 ∷ number ∷ k ∷ []
outcome_values (Again number k) = 1 ∷ number ∷ k ∷ []
outcome_values (Refused e) = 2 ∷ refusal_number e ∷ 0 ∷ []

-- what is handed in beside the session, and what is left, in the paper's numbers
abbrev pub handed : ℕ → List ℕ → List ℕ → paper.Arrival
handed way word scratch = record { way = way; word = word; scratch = scratch }

abbrev pub left : Arrived → List ℕ → List ℕ → paper.Arrived
left r word scratch = record { session = plain r.session; word = word; scratch = scratch; answer = outcome_values r.outcome }

-- a way of reading: its answer, the stored word that it gives, the damage that it is to undo, and test 16: whether it can be used with the shape at all
pub record Way : Type 1 where
  pub answer : Shape → List ℕ → Result ℕ Refusal
  pub word : Shape → List ℕ → List ℕ
  pub Allowed : Shape → (ℕ → ℕ) → Type 0
  pub suits : Shape → Bool

-- refusals that the session alone gives: 9 and 11
abbrev pub by_session : Refusal → Bool
by_session e = eqb (refusal_number e) 9 || eqb (refusal_number e) 11

-- it gives, for every stored word and allowed damage, that word and the number of digits changed, and then can be used with the shape; it never refuses as a session does
pub record Sound (way : Way) (s : Shape) : Type 0 where
  pub right : (v e : List ℕ) → Codeword s v → Word s e → way.Allowed s (at e)
      → (way.answer s (damaged v e) ≡ Ok (weight s (at e))) × (way.word s (damaged v e) ≡ v) × (way.suits s ≡ true)
  pub never : (w : List ℕ) (e : Refusal) → by_session e ≡ true → way.answer s w ≡ Err e → ⊥

-- a reader as a way, with the damage that it is to undo
abbrev pub way_by : Reader → (Shape → (ℕ → ℕ) → Type 0) → Way
way_by reader Allowed = record { answer = read_of reader; word = restored_by reader; Allowed = Allowed; suits = reader.suits }

-- reading clean damage to at most n - 1 digits (RULES 3)
abbrev pub clean : Way
clean = way_by decoder.clean (λ s e. Unmasked s e × (weight s e ≤ s.n - 1))

-- reading by vote any damage to at most n/2 digits, rounded down, clean or not (RULES 3.2)
abbrev pub vote : Way
vote = way_by majority.vote (λ s e. weight s e ≤ s.n / 2)

-- reading two wrong digits, clean or not, with three directions or more (RULES 3.3); with two none is allowed, since every arrival is turned down
abbrev pub two : Way
two = way_by double.two (λ s e. (3 ≤ s.n) × (weight s e ≤ 2))

-- the ways that an arrival may name, by number
pub record Ways : Type 1 where
  pub known : ℕ → Bool
  pub named : ℕ → Way

-- each way that may be named is sound
pub record AllSound (ways : Ways) (s : Shape) : Type 0 where
  pub sound : (k : ℕ) → ways.known k ≡ true → Sound (ways.named k) s

-- test 1 on the way's number: 0 is clean, 1 by vote, 2 two wrong digits
unfoldable pub is_way : ℕ → Bool
is_way k = ltb k 3

-- the way with this number
unfoldable pub way_of : ℕ → Way
way_of zero = clean
way_of (suc zero) = vote
way_of (suc (suc k)) = two

abbrev pub the_ways : Ways
the_ways = record { known = is_way; named = way_of }

-- what an arrival brings: a page with its number, its marks and the digits changed, or what turns it down
pub data Opened : Type 0 where
  Page : ℕ → List ℕ → ℕ → Opened
  Bad : Refusal → Opened

-- the page in the information symbols
abbrev pub open_page : Shape → List ℕ → ℕ → Result (ℕ × ℕ) Refusal → Opened
open_page s symbols k (Ok (number, c)) = Page number (marks_of s symbols) k
open_page s symbols k (Err e) = Bad e

-- the page in the data digits of the word that was read
abbrev pub open_word : Shape → List ℕ → Result ℕ Refusal → Opened
open_word s v (Ok k) = open_page s (extract_of s v) k (page_of s (extract_of s v))
open_word s v (Err e) = Bad e

-- tests 1, 18, 16, 2 to 8, for a session whose figures are right: a number that names no way is 1, whatever the shape; the word is read that way, its data digits taken out, the page read
unfoldable pub opened : Ways → Shape → ℕ → List ℕ → List ℕ → Opened
opened ways s k word scratch =
    unless (ways.known k) (Bad Refusal.Shape)
    (unless (lawful s) (Bad (shape_refusal s))
    (unless ((ways.named k).suits s) (Bad Refusal.Directions)
    (unless (eqb (length word) (word_length s) && eqb (length scratch) (scratch_length s)) (Bad Refusal.Length)
    (open_word s ((ways.named k).word s word) ((ways.named k).answer s word)))))

-- the tests of the session and the way's number: test 11 comes directly after 1 and 18, so before 16
unfoldable pub arrival_status : Ways → Session → ℕ → Result (Unit {0}) Refusal
arrival_status ways σ k =
    unless (ways.known k) (Err Refusal.Shape)
    (past (session_status σ) Err
    (unless ((ways.named k).suits σ.shape) (Err Refusal.Directions) (Ok tt)))

-- what an arrival brings with test 11
unfoldable pub presented : Ways → Session → ℕ → List ℕ → List ℕ → Opened
presented ways σ k word scratch = past (arrival_status ways σ k) Bad (opened ways σ.shape k word scratch)

-- a marked page is again; then 9
unfoldable pub outcome_of : Session → Opened → Outcome
outcome_of σ (Page number marks k) =
    cond (get_or σ.taken number false) (Again number k) (cond (overflows σ.calls marks) (Refused Refusal.Overflow) (Taken number k))
outcome_of σ (Bad e) = Refused e

-- the session after the answer: changed by taken alone
abbrev pub session_by : Session → Opened → Outcome → Session
session_by σ (Page number marks k) (Taken p c) = recorded σ number marks
session_by σ (Page number marks k) (Again p c) = σ
session_by σ (Page number marks k) (Refused e) = σ
session_by σ (Bad e') r = σ

-- the session after an arrival
unfoldable pub session_after : Session → Opened → Session
session_after σ o = session_by σ o (outcome_of σ o)

-- the answer is taken or again
abbrev pub is_accepted : Outcome → Bool
is_accepted (Taken p k) = true
is_accepted (Again p k) = true
is_accepted (Refused e) = false

-- the word stands corrected after taken and again, and is the word that came after a refusal
abbrev pub word_after : List ℕ → List ℕ → Outcome → List ℕ
word_after word corrected r = cond (is_accepted r) corrected word

-- the scratch is zeros after taken and again, and after a refusal what that refusal leaves
abbrev pub outcome_scratch : List ℕ → Outcome → List ℕ
outcome_scratch scratch (Taken p k) = replicate (length scratch) 0
outcome_scratch scratch (Again p k) = replicate (length scratch) 0
outcome_scratch scratch (Refused e) = scratch_after e scratch

-- what an arrival that names way k and brings this answers and leaves
pub record Answering (ways : Ways) (σ : Session) (k : ℕ) (o : Opened) (word scratch word' scratch' : List ℕ) (r : Arrived) : Type 0 where
  pub outcome : r.outcome ≡ outcome_of σ o
  pub session : r.session ≡ session_after σ o
  pub word_left : word' ≡ word_after word ((ways.named k).word σ.shape word) r.outcome
  pub scratch_left : scratch' ≡ outcome_scratch scratch r.outcome

-- an arrival
abbrev pub Arriving : Ways → Session → ℕ → List ℕ → List ℕ → List ℕ → List ℕ → Arrived → Type 0
Arriving ways σ k word scratch = Answering ways σ k (presented ways σ k word scratch) word scratch

-- an arrival past test 11, for callers whose session is known to be consistent
abbrev pub Stepping : Ways → Session → ℕ → List ℕ → List ℕ → List ℕ → List ℕ → Arrived → Type 0
Stepping ways σ k word scratch = Answering ways σ k (opened ways σ.shape k word scratch) word scratch
