-- Word lines and the arrivals that the readable ones bring: which arrival is which line's.
use mathlib.Core.Path.{◌≡◌, refl, ap}
use mathlib.Core.List.{List, [], ◌∷◌}
use Prim.Native.Nat.{ℕ, zero, suc, ◌<◌, suc-le-suc}
use native.Mathlib.Nat.{not-suc-le-zero, le_of_suc-le-suc, zero-lt-suc}
use lib.ListN.{length}
use Rattle.gtb.specs.declared.Shape.{Shape}
use Rattle.gtb.specs.declared.Refusal.{Refusal}
use Rattle.lines.specs.Content.{Content, Spelled, Unreadable}
use Rattle.session.specs.declared.Session.{Session}
use Rattle.session.specs.declared.Outcome.{Outcome}
use Rattle.session.specs.declared.Outcome.TheVariants.{Refused}
use Rattle.session.specs.Recording.{Arrival, arrival_at}
use Rattle.session.specs.Arrival.{outcome_of}
use Rattle.session.specs.Claim.{answer_at}
use Rattle.capture.specs.Judge.{line_content}
use Rattle.capture.specs.Print.{line_at, arrival_of, joining, arrivals_in}
use Rattle.capture.proofs.Print.{replied, left, answers_to, joins, replies_to}

abbrev more : Content → ℕ → ℕ
more (Spelled xs) k = suc k
more Unreadable k = k

-- how many of the lines before line i are readable: the place of its arrival, if it is readable itself
abbrev pub rank : List (List ℕ) → ℕ → ℕ
rank [] i = 0
rank (line ∷ lines) zero = 0
rank (line ∷ lines) (suc i) = more (line_content line) (rank lines i)

-- ---- from a line to its arrival

-- arrival k is this one, and this is the answer to it
pub record Stands (arrivals : List Arrival) (replies : List Outcome) (k : ℕ) (a : Arrival) (r : Outcome) : Type 0 where
  pub there : k < length arrivals
  pub arrival : arrival_at arrivals k ≡ a
  pub answer : answer_at replies k ≡ r

stands_later : (s : Shape) (c : Content) (r' : Outcome) {arrivals : List Arrival} {replies : List Outcome} {k : ℕ} {a : Arrival} {r : Outcome}
    → Stands arrivals replies k a r → Stands (joining s c arrivals) (joins c r' replies) (more c k) a r
stands_later s (Spelled xs) r' h = record { there = suc-le-suc h.there; arrival = h.arrival; answer = h.answer }
stands_later s Unreadable r' h = h

pub line_stands : (s : Shape) (lines : List (List ℕ)) (σ : Session) (i : ℕ) → i < length lines → (xs : List ℕ) → line_content (line_at lines i) ≡ Spelled xs
    → Stands (arrivals_in s lines) (replies_to σ lines) (rank lines i) (arrival_of s xs) (answer_at (answers_to σ lines) i)
unfolding arrivals_in
line_stands s [] σ i l xs e = absurd (not-suc-le-zero l)
line_stands s (line ∷ lines) σ zero l xs e = rw e (record { there = zero-lt-suc _; arrival = refl; answer = refl })
line_stands s (line ∷ lines) σ (suc i) l xs e =
    let c : Content = line_content line in
    stands_later s c (replied σ c) (line_stands s lines (left σ c) i (le_of_suc-le-suc l) xs e)

-- an earlier line's comes earlier
more_less : (c : Content) {j i : ℕ} → j < i → more c j < more c i
more_less (Spelled xs) l = suc-le-suc l
more_less Unreadable l = l

pub rank_less : (lines : List (List ℕ)) (i j : ℕ) → j < i → j < length lines → (xs : List ℕ) → line_content (line_at lines j) ≡ Spelled xs
    → rank lines j < rank lines i
rank_less [] i j l there xs e = absurd (not-suc-le-zero there)
rank_less (line ∷ lines) zero j l there xs e = absurd (not-suc-le-zero l)
rank_less (line ∷ lines) (suc i) zero l there xs e = rw e (zero-lt-suc (rank lines i))
rank_less (line ∷ lines) (suc i) (suc j) l there xs e =
    more_less (line_content line) (rank_less lines i j (le_of_suc-le-suc l) (le_of_suc-le-suc there) xs e)

-- ---- and back

-- arrival m is that of a line before line i
pub record Before (s : Shape) (lines : List (List ℕ)) (i m : ℕ) : Type 0 where
  pub line : ℕ
  pub earlier : line < i
  pub there : line < length lines
  pub values : List ℕ
  pub spelled : line_content (line_at lines line) ≡ Spelled values
  pub arrival : arrival_at (arrivals_in s lines) m ≡ arrival_of s values

module _ (s : Shape) (line : List ℕ) (lines : List (List ℕ)) (i : ℕ) where
  before_more : (c : Content) → line_content line ≡ c → ((m : ℕ) → m < rank lines i → Before s lines i m)
      → (m : ℕ) → m < more c (rank lines i) → Before s (line ∷ lines) (suc i) m
  unfolding arrivals_in
  before_more (Spelled xs) e rest zero l = record {
    line = 0;
    earlier = zero-lt-suc i;
    there = zero-lt-suc (length lines);
    values = xs;
    spelled = e;
    arrival = rw e;
  }
  before_more (Spelled xs) e rest (suc m) l =
      let f = rest m (le_of_suc-le-suc l) in
      record { line = suc f.line; earlier = suc-le-suc f.earlier; there = suc-le-suc f.there; values = f.values; spelled = f.spelled; arrival = rw e f.arrival }
  before_more Unreadable e rest m l =
      let f = rest m l in
      record { line = suc f.line; earlier = suc-le-suc f.earlier; there = suc-le-suc f.there; values = f.values; spelled = f.spelled; arrival = rw e f.arrival }

pub line_before : (s : Shape) (lines : List (List ℕ)) (i m : ℕ) → m < rank lines i → Before s lines i m
line_before s [] i m l = absurd (not-suc-le-zero l)
line_before s (line ∷ lines) zero m l = absurd (not-suc-le-zero l)
line_before s (line ∷ lines) (suc i) m l = before_more s line lines i (line_content line) refl (line_before s lines i) m l

-- ---- an unreadable line
pub line_unread : (lines : List (List ℕ)) (σ : Session) (i : ℕ) → i < length lines → line_content (line_at lines i) ≡ Unreadable
    → answer_at (answers_to σ lines) i ≡ Refused Refusal.Syntax
unfolding outcome_of
line_unread [] σ i l e = absurd (not-suc-le-zero l)
line_unread (line ∷ lines) σ zero l e = ap (replied σ) e
line_unread (line ∷ lines) σ (suc i) l e = line_unread lines (left σ (line_content line)) i (le_of_suc-le-suc l) e
