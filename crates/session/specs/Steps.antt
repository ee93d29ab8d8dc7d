-- Contracts of the session's private steps.
use Rattle.std.specs.Prelude.{◌≡◌, Bool, true, cond, ◌&&◌, List, ℕ, ◌+◌, ◌^◌, ◌<◌, ◌≤◌, eqb, length, get_or, take, drop, Option, Some, None, Result, Ok, Err, is_ok}
use Rattle.parity.specs.Count.{count}
use Rattle.gtb.specs.declared.Shape.{Shape}
use Rattle.gtb.specs.declared.Refusal.{Refusal}
use Rattle.gtb.specs.Shape.{lawful, Lawful, shape_refusal, word_length, scratch_length}
use Rattle.gtb.specs.Answer.{unless}
use Rattle.correction.specs.Answer.{decoded_word}
use Rattle.session.specs.declared.Session.{Session}
use Rattle.session.specs.declared.Arrived.{Arrived}
use Rattle.session.specs.declared.Brought.{Brought}
use Rattle.session.specs.declared.Unopened.{Unopened}
use Rattle.session.specs.Session.{marked, Consistent, past, added, overflows}
use Rattle.session.specs.Arrival.{Way, is_way, way_of, Opened, Page, Bad, open_word, outcome_of, session_after, word_after}

-- marks are function numbers
pub record Functions (marks : List ℕ) : Type 0 where
  pub below : (i : ℕ) → i < length marks → get_or marks i 0 < 256

-- 256 counts of u32
pub record Counts (calls : List ℕ) : Type 0 where
  pub size : length calls ≡ 256
  pub below : (f : ℕ) → get_or calls f 0 < 2 ^ 32

-- marks added to the counts: all of them, or a count would pass its limit
pub record Adding (calls marks calls' : List ℕ) (r : Option (Unit {0})) : Type 0 where
  pub fits : r ≡ cond (overflows calls marks) None (Some tt)
  pub sums : r ≡ Some tt → calls' ≡ added calls marks

-- how many of these page marks are yes
abbrev pub marks_in : List Bool → ℕ
marks_in marks = count (length marks) (marked marks)

-- the last step of an arrival
pub record Settling (σ : Session) (o : Opened) (r : Arrived) : Type 0 where
  pub outcome : r.outcome ≡ outcome_of σ o
  pub session : r.session ≡ session_after σ o

-- the tests of a session in their order, from its shape and whether its figures agree
abbrev pub session_tests : Shape → Bool → Result (Unit {0}) Refusal
session_tests s agree = unless (lawful s) (Err (shape_refusal s)) (unless agree (Err Refusal.Figures) (Ok tt))

-- test 1 on the number of a way
abbrev pub way_test : ℕ → Result (Unit {0}) Refusal
way_test k = unless (is_way k) (Err Refusal.Shape) (Ok tt)

-- those of an arrival that names way k, and those of its word
abbrev pub arrival_tests : Shape → ℕ → Bool → Result (Unit {0}) Refusal
arrival_tests s k agree =
    unless (is_way k) (Err Refusal.Shape) (past (session_tests s agree) Err (unless ((way_of k).suits s) (Err Refusal.Directions) (Ok tt)))

abbrev pub word_tests : Shape → ℕ → Bool → List ℕ → List ℕ → Result (Unit {0}) Refusal
word_tests s k agree word scratch =
    past (arrival_tests s k agree) Err
    (unless (eqb (length word) (word_length s) && eqb (length scratch) (scratch_length s)) (Err Refusal.Length) (Ok tt))

-- the session and the way have passed tests 1, 18, 11 and 16
pub record Admitted (σ : Session) (k : ℕ) : Type 0 where
  pub known : is_way k ≡ true
  pub lawful : Lawful σ.shape
  pub consistent : Consistent σ
  pub suits : (way_of k).suits σ.shape ≡ true

-- the shape, the way and the word have passed tests 1, 18, 16 and 2
pub record Openable (s : Shape) (k : ℕ) (word : List ℕ) : Type 0 where
  pub known : is_way k ≡ true
  pub lawful : Lawful s
  pub suits : (way_of k).suits s ≡ true
  pub size : length word ≡ word_length s

-- a word read some way: its answer, and the word that it gives
pub record Reading (way : Way) (s : Shape) (w w' : List ℕ) (r : Result ℕ Refusal) : Type 0 where
  pub answer : r ≡ way.answer s w
  pub word : w' ≡ decoded_word w (way.word s w) r

-- what a word brings, read some way
abbrev pub opened_by : Way → Shape → List ℕ → Opened
opened_by way s word = open_word s (way.word s word) (way.answer s word)

-- a page as the answer of the first step
abbrev pub page_brought : ℕ → ℕ → ℕ → Result Brought Refusal
page_brought number c k = Ok (record { number = number; count = c; corrected = k })

-- what the answer of the first step tells: the marks are the symbols from place 2 on
abbrev pub told : Result Brought Refusal → List ℕ → Opened
told (Ok page) symbols = Page page.number (take page.count (drop 2 symbols)) page.corrected
told (Err e) symbols = Bad e

-- a page that the last step may be taken with: its number has a place, its marks stand among the symbols and are function numbers
pub record Readable (number c : ℕ) (symbols : List ℕ) : Type 0 where
  pub low : number < 1024
  pub room : 2 + c ≤ length symbols
  pub marks : Functions (take c (drop 2 symbols))

-- it tells what is brought
pub record Tells (o : Opened) (symbols : List ℕ) (r : Result Brought Refusal) : Type 0 where
  pub brought : told r symbols ≡ o
  pub readable : (number c k : ℕ) → r ≡ page_brought number c k → Readable number c symbols

-- the page, or the refusal alone
abbrev pub brought_or : Result Brought Unopened → Result Brought Refusal
brought_or (Ok page) = Ok page
brought_or (Err e) = Err e.refusal

-- the answer tells whether the word was read, so that it stands restored
abbrev pub is_restored : Result Brought Unopened → Bool
is_restored (Ok page) = true
is_restored (Err e) = e.restored

-- the first step of an arrival: the word stands restored where it was read, as the answer tells
pub record Opens (way : Way) (s : Shape) (word word' symbols' : List ℕ) (r : Result Brought Unopened) : Type 0 where
  pub tells : Tells (opened_by way s word) symbols' (brought_or r)
  pub left : word' ≡ decoded_word word (way.word s word) (way.answer s word)
  pub told_left : word' ≡ cond (is_restored r) (way.word s word) word

-- the same with what came kept, and put back where it brings no page
pub record Keeps (way : Way) (s : Shape) (word word' came' symbols' : List ℕ) (r : Result Brought Refusal) : Type 0 where
  pub tells : Tells (opened_by way s word) symbols' r
  pub left : word' ≡ cond (is_ok r) (way.word s word) word
  pub came : came' ≡ word

-- both steps: the word stands restored where the answer is taken or again
pub record Deciding (way : Way) (σ : Session) (word word' : List ℕ) (r : Arrived) : Type 0 where
  pub settled : Settling σ (opened_by way σ.shape word) r
  pub word_left : word' ≡ word_after word (way.word σ.shape word) r.outcome
