-- The paper leaves no choice in what is printed; and a run of the program prints it.
use mathlib.Core.Path.{◌≡◌, refl, sym, ap, ◌∙◌, subst, subst₂}
use mathlib.Core.Bool.{Bool, true}
use mathlib.Core.List.{List, ◌++◌}
use mathlib.Core.Logic.{inl, inr}
use Prim.Native.Nat.{ℕ}
use lib.ListN.{drop, replicate}
use Rattle.paper.specs.Paper as paper
use Rattle.paper.specs.Program.{none as stop, more}
use Rattle.gtb.proofs.Judging.{judged_once}
use Rattle.program.specs.Run.{Way, run_of, Stopped, beginning}
use Rattle.program.proofs.Runs.{whole_run}
use Rattle.conformance.proofs.Arrived.{arrival_once}
use Rattle.conformance.proofs.Texts.{line_once}
use Rattle.conformance.proofs.Cuts.{lines_once}
use Rattle.conformance.proofs.Printing.{Refusing, tables, Accepted, printing}

-- the values of a word line arrive, to be read the clean way
abbrev pub word_arrival : paper.Shape → List ℕ → paper.Arrival
word_arrival s values = record { way = 0; word = values; scratch = replicate (paper.scratch_length s) 0 }

-- ---- one word line, and one after the other
word_once : (σ : paper.Session) (line : List ℕ) {answer answer' : List ℕ} {τ τ' : paper.Session}
    → paper.WordLine σ line answer τ → paper.WordLine σ line answer' τ' → (answer ≡ answer') × (τ ≡ τ')
word_once σ line (inl (none, x)) (inl (also, y)) = (x.0 ∙ sym y.0, x.1 ∙ sym y.1)
word_once σ line (inl (none, x)) (inr (some, y)) = absurd (some none)
word_once σ line (inr (some, x)) (inl (none, y)) = absurd (some none)
word_once σ line (inr (some, x)) (inr (also, y)) =
    let (xs, r, has, arrives, answer-is, session-is) = x in
    let (ys, r', has', arrives', answer-is', session-is') = y in
    let back : paper.Arriving σ (word_arrival σ.shape xs) r' =
    subst (λ (zs : List ℕ). paper.Arriving σ (word_arrival σ.shape zs) r') (line_once has' has) arrives' in
    let same : r ≡ r' = arrival_once σ (word_arrival σ.shape xs) arrives back in (
      answer-is ∙ ap (λ (z : paper.Arrived). z.answer) same ∙ sym answer-is',
      session-is ∙ ap (λ (z : paper.Arrived). z.session) same ∙ sym session-is',
    )

pub words_once : {σ end end' : paper.Session} {lines : List (List ℕ)} {words words' : List ℕ}
    → paper.WordLines σ lines words end → paper.WordLines σ lines words' end' → (words ≡ words') × (end ≡ end')
words_once stop stop = (refl, refl)
words_once (more {session = σ} {line = line} {lines = lines} x xs) (more {end = end} {output = output} y ys) =
    let (answer, next) = word_once σ line x y in
    let (same, same_end) =
    words_once xs (subst (λ (τ : paper.Session). paper.WordLines τ lines output end) (sym next) ys) in
    (λ i. paper.answer_line (answer i) ++ same i, same_end)

-- ---- the whole
accepted_once : (lines : List (List ℕ)) (rest : List ℕ) {one other : List ℕ}
    → Accepted lines rest one → Accepted lines rest other → one ≡ other
accepted_once lines rest x y =
    let (values, words, end, three, come, is) = x in
    let (values', words', end', three', come', is') = y in
    let back : paper.WordLines (paper.fresh (paper.shape_of values)) (drop 3 lines) words' end' =
    subst (λ (zs : List ℕ). paper.WordLines (paper.fresh (paper.shape_of zs)) (drop 3 lines) words' end')
    (line_once three'.1 three.1) come' in
    let (same, same_end) = words_once come back in
    is ∙ (λ i. tables (same i) rest (same_end i).calls) ∙ sym is'

-- what is printed for this cut of the input
abbrev pub Printed : List ℕ → List (List ℕ) → List ℕ → Type 0
Printed output lines rest = paper.Judged (paper.head_tests lines) (Refusing output) (Accepted lines rest output)

-- the cut is the only one
pub printed_at : {bytes output : List ℕ} {lines : List (List ℕ)} {rest : List ℕ}
    → paper.Input bytes lines rest → paper.Prints bytes output → Printed output lines rest
printed_at {output = output} {lines} x p =
    let y = p.input in
    let (same, same_rest) =
    lines_once p.lines lines (record { line = y.each }) (record { line = x.each }) y.unended x.unended
    (sym y.read ∙ x.read) in
    subst₂ (Printed output) same same_rest p.printed

-- the paper leaves no choice
pub prints_once : {bytes one other : List ℕ} → paper.Prints bytes one → paper.Prints bytes other → one ≡ other
prints_once {one = one} {other = other} x y =
    judged_once (paper.head_tests x.lines) (Refusing one) (Refusing other)
    (Accepted x.lines x.rest one) (Accepted x.lines x.rest other) (one ≡ other)
    (λ k p q. p ∙ sym q) (λ _. accepted_once x.lines x.rest) x.printed (printed_at x.input y)

-- a run of the program that ends, and in which no call fails, writes what the paper asks for its input
pub program_prints : (error output : Bool) (second : ℕ) (input : List ℕ) (ways : List Way) → Stopped (run_of ways (beginning error output second) input)
    → (run_of ways (beginning error output second) input).well ≡ true → paper.Prints input (run_of ways (beginning error output second) input).text
program_prints error output second input ways ended well = subst (paper.Prints input) (sym (whole_run error output second input ways ended well)) (printing input)
