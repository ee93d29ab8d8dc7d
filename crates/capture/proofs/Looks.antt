-- A look at a line: what it tells is what judging gives.
use mathlib.Core.Path.{◌≡◌, refl, sym, ap, ◌∙◌}
use mathlib.Core.Bool.{Bool, true, false}
use mathlib.Core.List.{List, ◌++◌}
use Prim.Native.Nat.{ℕ, ◌+◌, ◌<◌, ◌≤◌}
use native.Mathlib.Omega.{arith}
use lib.ListN.{length, get_or, take, drop, length-append, length-drop}
use lib.Seq.{take-append-le, drop-append-le}
use Rattle.gtb.specs.declared.Shape.{Shape}
use Rattle.gtb.specs.declared.Refusal.{Refusal}
use Rattle.lines.specs.Content.{content_of}
use Rattle.session.specs.declared.Session.{Session}
use Rattle.std.specs.Prelude.{Result, Ok, Err}
use Rattle.session.specs.declared.Brought.{Brought}
use Rattle.session.specs.declared.Outcome.{Outcome}
use Rattle.session.specs.declared.Outcome.TheVariants.{Again, Refused}
use Rattle.session.specs.declared.Arrived.{Arrived}
use Rattle.session.specs.Arrival.{Opened, Page}
use Rattle.session.specs.Steps.{page_brought, Settling, told, Readable, Tells}
use Rattle.session.proofs.Opens.{told_refused, told_again}
use Rattle.capture.specs.declared.Phase.{Phase}
use Rattle.capture.specs.declared.Phase.TheVariants.{Words}
use Rattle.capture.specs.declared.Seen.{Seen}
use Rattle.capture.specs.declared.Seen.TheVariants.{Known, New, Head}
use Rattle.capture.specs.declared.Answer.TheVariants.{Word}
use Rattle.capture.specs.declared.Tally.{Tally}
use Rattle.capture.specs.declared.Judged.{Judged}
use Rattle.capture.specs.Judge.{brought_by, arrived, worded, judged_of, is_words}
use Rattle.capture.specs.Steps.{foreseen, Settleable, Foretold, Looked}
use Rattle.capture.proofs.Judges.{judged_words}

-- ---- the symbols of a word are the front of a longer list
marks_front : (c : ℕ) (part rest : List ℕ) → 2 + c ≤ length part → take c (drop 2 (part ++ rest)) ≡ take c (drop 2 part)
marks_front c part rest l =
    ap (take c) (drop-append-le 2 part rest (omega arith)) ∙ take-append-le c (drop 2 part) rest (rw (length-drop) (omega arith))

told_front : (r : Result Brought Refusal) (part rest : List ℕ) → ((number c k : ℕ) → r ≡ page_brought number c k → Readable number c part) → told r (part ++ rest) ≡ told r part
told_front (Ok page) part rest h = ap (λ (ms : List ℕ). Page page.number ms page.corrected) (marks_front page.count part rest (h page.number page.count page.corrected refl).room)
told_front (Err e) part rest h = refl

pub tells_front : {o o' : Opened} {part : List ℕ} {r : Result Brought Refusal} → Tells o part r → o ≡ o' → (rest : List ℕ) → Tells o' (part ++ rest) r
tells_front {part = part} {r = r} h same rest = record {
  brought = told_front r part rest h.readable ∙ h.brought ∙ same;
  readable = λ number c k is.
      let page = h.readable number c k is in
      record { low = page.low; room = rw (length-append) (omega (arith, page.room)); marks = rw (marks_front c part rest page.room) page.marks };
}

-- ---- a word line
known_settles : {a : Outcome} {symbols : List ℕ} → Settleable Words (Known a) symbols
known_settles = record { page = λ page h. let z : ◌≡◌ {A = ℕ} 0 1 = cc in absurd (omega arith); head = λ h. let z : ◌≡◌ {A = ℕ} 0 1 = cc in absurd (omega arith) }

-- what the session makes of what is brought
pub judged : {σ : Session} {o : Opened} {r : Arrived} → Settling σ o r → ◌≡◌ {A = Judged} (record { tally = record { phase = Words; session = r.session }; answer = Word r.outcome }) (arrived σ o)
judged settled = λ i. record { tally = record { phase = Words; session = settled.session i }; answer = Word (settled.outcome i) }

module _ {s : Shape} (line : List ℕ) {symbols : List ℕ} {found : Result Brought Refusal} (opened : Tells (brought_by s (content_of line)) symbols found) where
  -- by the session's own shape
  own : (σ : Session) → σ.shape ≡ s → worded σ (content_of line) ≡ arrived σ (brought_by s (content_of line))
  own σ same = ap (λ (x : Shape). arrived σ (brought_by x (content_of line))) same

  pub looked_refused : {taken : List Bool} {e : Refusal} → found ≡ Err e → Looked s taken line symbols (Known (Refused e))
  looked_refused h = record { sure = λ σ same marks. own σ same ∙ sym (judged (told_refused opened σ h)); new = known_settles }

  module _ {taken : List Bool} {page : Brought} (h : found ≡ Ok page) where
    pub looked_again : get_or taken page.number false ≡ true → Looked s taken line symbols (Known (Again page.number page.corrected))
    looked_again m = record {
      sure = λ σ same marks. own σ same ∙ sym (judged (told_again opened σ h (ap (λ (xs : List Bool). get_or xs page.number false) marks ∙ m)));
      new = known_settles;
    }

    pub looked_new : Looked s taken line symbols (New page)
    looked_new = record {
      sure = λ σ same marks. own σ same ∙ ap (arrived σ) (sym opened.brought ∙ ap (λ (r : Result Brought Refusal). told r symbols) h);
      new = record {
        page = λ other is.
            let same : page ≡ other = cc in
            rw (← same) (opened.readable page.number page.count page.corrected h);
        head = λ is. let z : ◌≡◌ {A = ℕ} 0 1 = cc in absurd (omega arith);
      };
    }

-- ---- any line
module _ {t : Tally} {line symbols : List ℕ} where
  pub foretold_head : is_words t.phase ≡ false → Foretold t line symbols Head
  foretold_head other = record { sure = refl; new = record { page = λ page is. let z : ◌≡◌ {A = ℕ} 0 1 = cc in absurd (omega arith); head = λ is. other } }

  pub foretold_word : {taken : List Bool} {seen : Seen} → t.phase ≡ Words → t.session.taken ≡ taken → length line < 16384
      → Looked t.session.shape taken line symbols seen → Foretold t line symbols seen
  foretold_word {seen = seen} h marks few looked = record {
    sure = judged_words t line h few ∙ looked.sure t.session refl marks ∙ ap (λ (p : Phase). foreseen (record { phase = p; session = t.session }) line symbols seen) (sym h);
    new = rw h looked.new;
  }

-- a tally that stays
pub foretold_known : {t : Tally} {line symbols : List ℕ} {seen : Seen} {a : Outcome} → Foretold t line symbols seen → seen ≡ Known a
    → record { tally = t; answer = Word a } ≡ judged_of t line
foretold_known {t} {line} {symbols} h is = sym (h.sure ∙ ap (foreseen t line symbols) is)
