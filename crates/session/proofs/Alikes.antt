-- Sessions look at the first n - 1 slopes of their shape alone: two runs that differ in the others have the same answers, marks and counts.
use mathlib.Core.Path.{◌≡◌, refl, sym, ap, ◌∙◌}
use mathlib.Core.Bool.{◌&&◌}
use mathlib.Core.List.{List}
use Prim.Native.Nat.{ℕ}
use lib.Dec.{eqb, ltb}
use lib.ListN.{length, get_or}
use Rattle.gtb.specs.declared.Shape.{Shape}
use Rattle.gtb.specs.declared.Refusal.{Refusal}
use Rattle.std.specs.Prelude.{Result, Ok, Err}
use Rattle.gtb.specs.Shape.{word_length, kept_checks, scratch_length}
use Rattle.gtb.specs.Positions.{extract_of}
use Rattle.gtb.specs.Answer.{unless}
use Rattle.gtb.specs.Alike.{reslope, Alike}
use Rattle.gtb.proofs.Alikes.{lawful_alike, refusal_alike, extract_alike}
use Rattle.page.specs.Page.{page_of}
use Rattle.page.proofs.Alikes.{page_alike, marks_alike}
use Rattle.session.specs.declared.Session.{Session}
use Rattle.session.specs.declared.Outcome.{Outcome}
use Rattle.session.specs.declared.Outcome.TheVariants.{Taken, Again, Refused}
use Rattle.session.specs.declared.Arrived.{Arrived}
use Rattle.session.specs.Session.{consistent, fresh_of, fresh_status, session_status, past, counted_of, recorded}
use Rattle.session.specs.Arrival.{is_way, way_of, the_ways, Opened, Page, Bad, open_page, open_word, opened, arrival_status, presented, outcome_of, session_by, session_after, word_after, Arriving}
use Rattle.session.specs.Recording.{Sheet, Recording, Arrival, arrival_at, Fits}
use Rattle.session.specs.Claim.{Run, stop, step, SameSheets}
use Rattle.session.proofs.Settle.{after_cases}
use Rattle.session.proofs.Ways.{all_read, all_sound}
use Rattle.session.proofs.Fits.{only_recording}

-- the session with other slopes
abbrev pub resloped : Session → List ℕ → Session
resloped σ slopes = record { shape = reslope σ.shape slopes; taken = σ.taken; calls = σ.calls; pages = σ.pages; lowest = σ.lowest }

module _ (s : Shape) (slopes : List ℕ) (alike : Alike s slopes) where
  page_opens : (symbols : List ℕ) (k : ℕ) (r : Result (ℕ × ℕ) Refusal) → open_page (reslope s slopes) symbols k r ≡ open_page s symbols k r
  page_opens symbols k (Ok (number, c)) = ap (λ (marks : List ℕ). Page number marks k) (marks_alike s slopes alike symbols)
  page_opens symbols k (Err e) = refl

  word_opens : (v : List ℕ) (r : Result ℕ Refusal) → open_word (reslope s slopes) v r ≡ open_word s v r
  word_opens v (Ok k) =
      ap (λ (symbols : List ℕ). open_page (reslope s slopes) symbols k (page_of (reslope s slopes) symbols)) (extract_alike s slopes alike v)
      ∙ page_opens (extract_of s v) k (page_of (reslope s slopes) (extract_of s v))
      ∙ ap (open_page s (extract_of s v) k) (page_alike s slopes alike (extract_of s v))
  word_opens v (Err e) = refl

  -- the same is opened
  pub opened_alike : (way : ℕ) (word scratch : List ℕ) → opened the_ways (reslope s slopes) way word scratch ≡ opened the_ways s way word scratch
  unfolding opened scratch_length kept_checks
  opened_alike way word scratch = λ i.
      unless (is_way way) (Bad Refusal.Shape)
      (unless (lawful_alike s slopes alike i) (Bad (refusal_alike s slopes alike i))
      (unless ((all_read way).same_suits s slopes alike i) (Bad Refusal.Directions)
      (unless (eqb (length word) (word_length s) && eqb (length scratch) (scratch_length s)) (Bad Refusal.Length) (reads i))))
    where
      reads : open_word (reslope s slopes) ((way_of way).word (reslope s slopes) word) ((way_of way).answer (reslope s slopes) word) ≡ open_word s ((way_of way).word s word) ((way_of way).answer s word)
      reads =
          word_opens ((way_of way).word (reslope s slopes) word) ((way_of way).answer (reslope s slopes) word)
          ∙ ap (λ (v : List ℕ). open_word s v ((way_of way).answer (reslope s slopes) word)) ((all_read way).same_word s slopes alike word)
          ∙ ap (open_word s ((way_of way).word s word)) ((all_read way).same_answer s slopes alike word)

-- the figures are beside the shape
figures_alike : (σ : Session) (slopes : List ℕ) → consistent (resloped σ slopes) ≡ consistent σ
unfolding consistent
figures_alike σ slopes = refl

pub session_status_alike : (σ : Session) (slopes : List ℕ) → Alike σ.shape slopes → session_status (resloped σ slopes) ≡ session_status σ
unfolding session_status
session_status_alike σ slopes alike = λ i.
    unless (lawful_alike σ.shape slopes alike i) (Err (refusal_alike σ.shape slopes alike i))
    (unless (figures_alike σ slopes i) (Err Refusal.Figures) (Ok tt))

pub arrival_status_alike : (σ : Session) (slopes : List ℕ) → Alike σ.shape slopes → (way : ℕ)
    → arrival_status the_ways (resloped σ slopes) way ≡ arrival_status the_ways σ way
unfolding arrival_status
arrival_status_alike σ slopes alike way = λ i.
    unless (is_way way) (Err Refusal.Shape)
    (past (session_status_alike σ slopes alike i) Err
    (unless ((all_read way).same_suits σ.shape slopes alike i) (Err Refusal.Directions) (Ok tt)))

presented_alike : (σ : Session) (slopes : List ℕ) → Alike σ.shape slopes → (way : ℕ) (word scratch : List ℕ)
    → presented the_ways (resloped σ slopes) way word scratch ≡ presented the_ways σ way word scratch
unfolding presented
presented_alike σ slopes alike way word scratch = λ i.
    past (arrival_status_alike σ slopes alike way i) Bad (opened_alike σ.shape slopes alike way word scratch i)

module _ (σ : Session) (slopes : List ℕ) where
  -- what decides is beside the shape
  outcome_alike : (o : Opened) → outcome_of (resloped σ slopes) o ≡ outcome_of σ o
  unfolding outcome_of
  outcome_alike (Page number marks k) = refl
  outcome_alike (Bad e) = refl

  session_by_lem : (o : Opened) (r : Outcome) → resloped (session_by σ o r) slopes ≡ session_by (resloped σ slopes) o r
  unfolding recorded
  session_by_lem (Page number marks k) (Taken p c) = refl
  session_by_lem (Page number marks k) (Again p c) = refl
  session_by_lem (Page number marks k) (Refused e) = refl
  session_by_lem (Bad e') r = refl

  session_alike : (o : Opened) → resloped (session_after σ o) slopes ≡ session_after (resloped σ slopes) o
  unfolding session_after
  session_alike o = session_by_lem o (outcome_of σ o) ∙ ap (session_by (resloped σ slopes) o) (sym (outcome_alike o))

-- an arrival leaves the shape
pub shape_kept : (σ : Session) (o : Opened) → (session_after σ o).shape ≡ σ.shape
unfolding recorded
shape_kept σ = after_cases (λ τ. τ.shape ≡ σ.shape) σ refl (λ number marks. refl)

-- one arrival
arriving_alike : {σ : Session} {way : ℕ} {word scratch word' scratch' : List ℕ} {r : Arrived} (slopes : List ℕ) → Alike σ.shape slopes
    → Arriving the_ways σ way word scratch word' scratch' r
    → Arriving the_ways (resloped σ slopes) way word scratch word' scratch' (record { session = resloped r.session slopes; outcome = r.outcome })
arriving_alike {σ} {way} {word} {scratch} {word'} {scratch'} {r} slopes alike a =
    let o : Opened = presented the_ways σ way word scratch in
    let same : presented the_ways (resloped σ slopes) way word scratch ≡ o = presented_alike σ slopes alike way word scratch in
    let answer : r.outcome ≡ outcome_of (resloped σ slopes) (presented the_ways (resloped σ slopes) way word scratch) =
    a.outcome ∙ sym (outcome_alike σ slopes o) ∙ ap (outcome_of (resloped σ slopes)) (sym same) in
    record {
      outcome = answer;
      session = ap (λ (τ : Session). resloped τ slopes) a.session ∙ session_alike σ slopes o ∙ ap (session_after (resloped σ slopes)) (sym same);
      word_left = a.word_left ∙ ap (λ (v : List ℕ). word_after word v r.outcome) (sym ((all_read way).same_word σ.shape slopes alike word));
      scratch_left = a.scratch_left;
    }

-- a whole run: the same answers, marks and counts
pub run_alike : {σ end : Session} {arrivals : List Arrival} {answers : List Outcome} (slopes : List ℕ) → Alike σ.shape slopes
    → Run the_ways σ arrivals answers end → Run the_ways (resloped σ slopes) arrivals answers (resloped end slopes)
run_alike slopes alike stop = stop
run_alike slopes alike (step {σ = σ} {r = r} a rest) =
    step (arriving_alike slopes alike a) (run_alike slopes (record { same = rw (ap (λ (τ : Session). τ.shape) a.session ∙ shape_kept σ _) alike.same }) rest)

-- a fresh session and a count query
pub fresh_alike : (s : Shape) (slopes : List ℕ) → fresh_of (reslope s slopes) ≡ resloped (fresh_of s) slopes
unfolding fresh_of
fresh_alike s slopes = refl

pub status_alike : (s : Shape) (slopes : List ℕ) → Alike s slopes → fresh_status (reslope s slopes) ≡ fresh_status s
unfolding fresh_status
status_alike s slopes alike = λ i. unless (lawful_alike s slopes alike i) (Err (refusal_alike s slopes alike i)) (Ok tt)

pub count_alike : (σ : Session) (slopes : List ℕ) → Alike σ.shape slopes → (f : ℕ) → counted_of (resloped σ slopes) f ≡ counted_of σ f
unfolding counted_of
count_alike σ slopes alike f = λ i.
    past (session_status_alike σ slopes alike i) Err
    (unless (ltb f 256) (Err Refusal.Function) (Ok (get_or σ.calls f 0)))

-- the list fits no other recording, not even of a shape with other such slopes
pub only_alike : (s : Shape) (slopes : List ℕ) → Alike s slopes → (arrivals : List Arrival) (pages others : List Sheet)
    → Recording s pages → Fits the_ways s pages arrivals → Recording (reslope s slopes) others → Fits the_ways (reslope s slopes) others arrivals
    → SameSheets pages others
only_alike s slopes alike arrivals pages others r fits r' fits' =
    only_recording the_ways s (reslope s slopes) (all_sound s r.lawful) (all_sound (reslope s slopes) r'.lawful) arrivals
    (λ j. opened_alike s slopes alike (arrival_at arrivals j).way (arrival_at arrivals j).word (arrival_at arrivals j).scratch) pages others r r' fits fits'
