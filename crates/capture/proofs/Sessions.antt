-- The program's sessions have right figures and the standard slopes, from the first line on: no line of a run is answered with 18.
use mathlib.Core.Path.{◌≡◌, refl, ap, ◌∙◌}
use mathlib.Core.Bool.{Bool, true, false, cond}
use mathlib.Core.List.{List}
use Prim.Native.Nat.{ℕ}
use native.Mathlib.Omega.{arith}
use lib.Dec.{eqb}
use lib.ListN.{length, get_or, replicate}
use Rattle.gtb.specs.declared.Refusal.{Refusal}
use Rattle.std.specs.Prelude.{Result, Ok, Err}
use Rattle.gtb.specs.Shape.{standard, lawful, shape_refusal, scratch_length}
use Rattle.gtb.proofs.Answers.{other_refusal, unless_never}
use Rattle.gtb.proofs.Standard.{slope_foreign}
use Rattle.lines.specs.Content.{Content, Spelled, Unreadable, content_of}
use Rattle.lines.specs.Text.{same_bytes, names_shape, names_word}
use Rattle.session.specs.declared.Session.{Session}
use Rattle.session.specs.declared.Outcome.TheVariants.{Taken, Again, Refused}
use Rattle.session.specs.Session.{Consistent, fresh_of, fresh_status, overflows}
use Rattle.session.specs.Arrival.{Opened, Page, Bad, outcome_of, session_after}
use Rattle.session.proofs.Openings.{opened_never}
use Rattle.session.proofs.Alikes.{shape_kept}
use Rattle.session.proofs.Progress.{fresh_consistent, after_consistent}
use Rattle.capture.specs.declared.Fault.{Fault}
use Rattle.capture.specs.declared.Phase.{Phase}
use Rattle.capture.specs.declared.Phase.TheVariants.{ShapeNames, ShapeValues, WordNames, Words, Ended}
use Rattle.capture.specs.declared.Tally.{Tally}
use Rattle.capture.specs.declared.Answer.TheVariants.{Word, Head}
use Rattle.capture.specs.declared.Judged.{Judged}
use Rattle.capture.specs.Judge.{kept_of, passed, fault, named, begun, shape_in, shaped, brought_by, arrived, worded, judged_in, judged_of, start}

-- ---- a line is passed over, or at fault, or begins the session, or is a word line
fresh_never : (q n b : ℕ) → fresh_status (standard q n b) ≡ Err Refusal.Slope → ⊥
unfolding fresh_status
fresh_never q n b =
    unless_never (lawful (standard q n b)) (Err (shape_refusal (standard q n b))) (Ok tt) (λ no h. (slope_foreign q n b).shape no (cc))
    (λ h. let z : ◌≡◌ {A = ℕ} 0 1 = cc in omega arith)

module _ (P : Judged → Type 0) (σ : Session) (over : (phase : Phase) → P (passed phase σ)) (wrong : (f : Fault) (e : Refusal) → (e ≡ Refusal.Slope → ⊥) → P (fault σ f e))
    (begins : (q n b : ℕ) → P (passed WordNames (fresh_of (standard q n b)))) (word : (c : Content) → P (worded σ c)) where
  malformed : (f : Fault) → P (fault σ f Refusal.Syntax)
  malformed f = wrong f Refusal.Syntax (other_refusal _ _ refl)

  names : (t : Bool) (phase : Phase) (f : Fault) → P (named σ t phase f)
  names true phase f = over phase
  names false phase f = malformed f

  shape : (q n b : ℕ) (f : Fault) (r : Result (Unit {0}) Refusal) → (r ≡ Err Refusal.Slope → ⊥) → P (begun σ (standard q n b) r f)
  shape q n b f (Ok tt) ne = begins q n b
  shape q n b f (Err e) ne = wrong f e (λ h. ne (ap Err h))

  three : (xs : List ℕ) (f g : Fault) (t : Bool) → P (cond t (begun σ (shape_in xs) (fresh_status (shape_in xs)) f) (fault σ g Refusal.Syntax))
  three xs f g true = shape (get_or xs 0 0) (get_or xs 1 0) (get_or xs 2 0) f (fresh_status (shape_in xs)) (fresh_never (get_or xs 0 0) (get_or xs 1 0) (get_or xs 2 0))
  three xs f g false = malformed g

  values : (line : List ℕ) (c : Content) → P (shaped σ line c)
  values line (Spelled xs) = three xs _ _ (eqb (length xs) 3)
  values line Unreadable = malformed _

  all_judged : (phase : Phase) (line : List ℕ) → P (judged_in phase σ line)
  all_judged ShapeNames line = names (same_bytes line names_shape) ShapeValues _
  all_judged ShapeValues line = values line (content_of line)
  all_judged WordNames line = names (same_bytes line names_word) Words _
  all_judged Words line = word (content_of line)
  all_judged (Ended f) line = over (Ended f)

-- ---- right figures
pub start_consistent : Consistent start.session
unfolding start
start_consistent = fresh_consistent (standard 0 0 0)

pub word_consistent : (σ : Session) (c : Content) → Consistent σ → Consistent (session_after σ (brought_by σ.shape c))
word_consistent σ c h = after_consistent σ (brought_by σ.shape c) h

-- each line leaves them right
pub judged_consistent : (t : Tally) (line : List ℕ) → Consistent t.session → Consistent (judged_of t line).tally.session
unfolding judged_of
judged_consistent t line h =
    all_judged (λ (j : Judged). Consistent j.tally.session) t.session (λ phase. h) (λ f e ne. h) (λ q n b. fresh_consistent (standard q n b)) (λ c. word_consistent t.session c h)
    t.phase (kept_of line)

-- ---- standard slopes
-- the session's shape is one of three numbers
pub record Standard (σ : Session) : Type 0 where
  pub q : ℕ
  pub n : ℕ
  pub b : ℕ
  pub shape : σ.shape ≡ standard q n b

-- a line is not answered with 18, and the session after it is standard again
pub record Judges (j : Judged) : Type 0 where
  pub never : j.answer ≡ Word (Refused Refusal.Slope) → ⊥
  pub head : j.answer ≡ Head Refusal.Slope → ⊥
  pub next : Standard j.tally.session

pub start_standard : Standard start.session
unfolding start fresh_of
start_standard = record { q = 0; n = 0; b = 0; shape = refl }

passes : (phase : Phase) (σ : Session) → Standard σ → Judges (passed phase σ)
passes phase σ st = record { never = λ h. let z : ◌≡◌ {A = ℕ} 0 1 = cc in omega arith; head = λ h. let z : ◌≡◌ {A = ℕ} 0 1 = cc in omega arith; next = st }

faults : (σ : Session) (f : Fault) (e : Refusal) → Standard σ → (e ≡ Refusal.Slope → ⊥) → Judges (fault σ f e)
faults σ f e st ne = record { never = λ h. let z : ◌≡◌ {A = ℕ} 0 1 = cc in omega arith; head = λ h. ne (cc); next = st }

-- a word line: what is opened is not turned down by 18, and the session refuses with 9 alone
outcomes : (number k : ℕ) (a b : Bool)
    → cond a (Again number k) (cond b (Refused Refusal.Overflow) (Taken number k)) ≡ Refused Refusal.Slope → ⊥
outcomes number k true b h = let z : ◌≡◌ {A = ℕ} 0 1 = cc in omega arith
outcomes number k false true h = other_refusal Refusal.Overflow Refusal.Slope refl (cc)
outcomes number k false false h = let z : ◌≡◌ {A = ℕ} 0 1 = cc in omega arith

answers : (σ : Session) (o : Opened) → (o ≡ Bad Refusal.Slope → ⊥) → outcome_of σ o ≡ Refused Refusal.Slope → ⊥
unfolding outcome_of
answers σ (Page number marks k) ne h = outcomes number k (get_or σ.taken number false) (overflows σ.calls marks) h
answers σ (Bad e) ne h = ne (cc)

arrives : (σ : Session) (o : Opened) → Standard σ → (o ≡ Bad Refusal.Slope → ⊥) → Judges (arrived σ o)
arrives σ o st ne = record {
  never = λ h. answers σ o ne (cc);
  head = λ h. let z : ◌≡◌ {A = ℕ} 0 1 = cc in omega arith;
  next = record { q = st.q; n = st.n; b = st.b; shape = shape_kept σ o ∙ st.shape };
}

same_bad : (e e' : Refusal) → Bad e ≡ Bad e' → e ≡ e'
same_bad e e' h = cc

brought_never : (q n b : ℕ) (c : Content) → brought_by (standard q n b) c ≡ Bad Refusal.Slope → ⊥
brought_never q n b (Spelled xs) = opened_never (standard q n b) xs (replicate (scratch_length (standard q n b)) 0) Refusal.Slope (slope_foreign q n b)
brought_never q n b Unreadable = λ h. other_refusal _ _ refl (same_bad _ _ h)

words : (σ : Session) (c : Content) → Standard σ → Judges (worded σ c)
words σ c st = arrives σ (brought_by σ.shape c) st (λ h. brought_never st.q st.n st.b c (rw st.shape at h))

-- each line, from the first on
pub never_slope : (t : Tally) (line : List ℕ) → Standard t.session → Judges (judged_of t line)
unfolding judged_of fresh_of
never_slope t line st =
    all_judged Judges t.session (λ phase. passes phase t.session st) (λ f e ne. faults t.session f e st ne)
    (λ q n b. passes WordNames (fresh_of (standard q n b)) (record { q = q; n = n; b = b; shape = refl })) (λ c. words t.session c st) t.phase (kept_of line)
