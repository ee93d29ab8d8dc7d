-- The page reader and the page writer do what the paper asks.
use mathlib.Core.Path.{◌≡◌, refl, sym, ap, ◌∙◌, subst}
use mathlib.Core.List.{List, [], ◌∷◌, ◌++◌}
use mathlib.Core.Logic.{◌≢◌}
use Prim.Native.Nat.{ℕ, suc, ◌+◌, ◌-◌, ◌^◌, ◌<◌, ◌≤◌}
use native.Mathlib.Omega.{arith}
use lib.Dec.{eqb, leb, ltb}
use lib.ListN.{length, get_or, take, drop, replicate, length-drop, get_or-append}
use lib.Seq.{get_or-drop, get_or-append-add}
use borrow.Author.Tests.{eqb-true, eqb-false, leb-true, ltb-true, ltb-false}
use Rattle.parity.proofs.Tests.{all_elim}
use Rattle.parity.proofs.Lists.{at_zeros}
use Rattle.paper.specs.Paper as paper
use Rattle.gtb.specs.declared.Shape.{Shape}
use Rattle.gtb.specs.declared.Refusal.{Refusal}
use Rattle.std.specs.Prelude.{Result, Err}
use Rattle.gtb.specs.Shape.{info_length, of}
use Rattle.gtb.specs.Square.{narrow}
use Rattle.gtb.specs.Answer.{refusal_number, status_number}
use Rattle.gtb.proofs.Sizes.{sizes}
use denote.Ref.{Bor}
use Rattle.page.specs.Page.{functions, zeros, most, read_number, page_of, marks_of, MarksPart, write_status, page_symbols, symbols_after, Writing}
use Rattle.page.proofs.Pages.{page_length, marks_of_lem, no_marks}
use Rattle.gtb.proofs.Judging.{Decides, decides_eqb, decides_below, decides_upto, test, all_fails}
use Rattle.gtb.proofs.Conditions.{shape_tests, decides_width}

module _ (s : Shape) where
  pub decides_functions : (marks : List ℕ) → Decides (functions marks) (paper.NoFunction marks)
  unfolding functions
  decides_functions marks = record {
    holds = λ no. let (i, l, f) = all_fails (length marks) (λ i. ltb (get_or marks i 0) 256) no in (i, l, ltb-false _ _ f);
    fails = λ h w. let (i, l, large) = w in let small : get_or marks i 0 < 256 = ltb-true _ _ (all_elim (length marks) (λ i. ltb (get_or marks i 0) 256) h i l) in omega arith;
  }

  pub decides_tail : (k : ℕ) (digits : List ℕ) → Decides (zeros (drop k digits)) ((j : ℕ) × (k ≤ j) × (j < length digits) × (get_or digits j 0 ≢ 0))
  unfolding zeros
  decides_tail k digits = record {
    holds = λ no.
        let (i, l, f) = all_fails (length (drop k digits)) (λ i. eqb (get_or (drop k digits) i 0) 0) no in
        (k + i, (omega arith), (omega (arith, length-drop k digits)), λ z. eqb-false _ _ f (get_or-drop k digits i 0 ∙ z));
    fails = λ h w.
        let (j, from, l, other) = w in
        let here : k + (j - k) ≡ j = omega arith in
        other (ap (λ x. get_or digits x 0) (sym here) ∙ sym (get_or-drop k digits (j - k) 0) ∙ eqb-true _ _ (all_elim (length (drop k digits)) (λ i. eqb (get_or (drop k digits) i 0) 0) h (j - k) (omega (arith, length-drop k digits))));
  }

  pub page_reading : (digits : List ℕ) {r : Result (ℕ × ℕ) Refusal} → r ≡ page_of s digits → paper.PageReading (of s) digits (read_number r)
  unfolding page_of
  page_reading digits =
      shape_tests s Err _ (ap read_number) (ap read_number) (λ _.
      test (eqb (length digits) (info_length s)) _ _ (decides_eqb _ _) (ap read_number) (λ _.
      test (narrow s.b digits) _ _ (decides_width s digits) (ap read_number) (λ _.
      test (ltb (get_or digits 0 0) 1024) _ _ (decides_below _ _) (ap read_number) (λ _.
      test (leb (get_or digits 1 0) (most s)) _ _ (decides_upto _ _) (ap read_number) (λ _.
      test (functions (take (get_or digits 1 0) (drop 2 digits))) _ _ (decides_functions _) (ap read_number) (λ _.
      test (zeros (drop (2 + get_or digits 1 0) digits)) _ _ (decides_tail _ digits) (ap read_number) (λ _. ap read_number)))))))

  -- the marks handed back
  pub marks : (digits : List ℕ) {part : List ℕ} → part ≡ marks_of s digits → paper.Marks (of s) digits part
  unfolding page_of
  marks digits {part} h =
      shape_tests s Err _ (none Refusal.Shape) (none Refusal.Slope) (λ _.
      test (eqb (length digits) (info_length s)) _ _ (decides_eqb _ _) (none Refusal.Length) (λ _.
      test (narrow s.b digits) _ _ (decides_width s digits) (none Refusal.Width) (λ _.
      test (ltb (get_or digits 0 0) 1024) _ _ (decides_below _ _) (none Refusal.Page) (λ _.
      test (leb (get_or digits 1 0) (most s)) _ _ (decides_upto _ _) (none Refusal.Count) (λ _.
      test (functions (take (get_or digits 1 0) (drop 2 digits))) _ _ (decides_functions _) (none Refusal.Function) (λ _.
      test (zeros (drop (2 + get_or digits 1 0) digits)) _ _ (decides_tail _ digits) (none Refusal.Tail) (λ _ r. h ∙ marks_of_lem s digits _ _ r)))))))
      refl
    where
      none : (e : Refusal) → page_of s digits ≡ Err e → part ≡ []
      none e r = h ∙ no_marks s digits e r

  -- the digits of a page
  pub page_digits : (page : ℕ) (marks : List ℕ) → 2 ≤ info_length s → length marks ≤ most s → paper.Page (of s) page marks (page_symbols s page marks)
  unfolding page_symbols
  page_digits page marks two few = record {
    size = page_length s page marks two few;
    first = refl;
    second = refl;
    next = λ i l.
        let here : 2 + i ≡ suc (suc i) = omega arith in
        ap (λ (x : ℕ). get_or (page ∷ length marks ∷ (marks ++ replicate (most s - length marks) 0)) x 0) here ∙ get_or-append marks _ 0 i l;
    rest = rest;
  }
    where
      rest : (j : ℕ) → 2 + length marks ≤ j → j < info_length s → get_or (page ∷ length marks ∷ (marks ++ replicate (most s - length marks) 0)) j 0 ≡ 0
      rest j from l =
          let here : suc (suc (length marks + (j - 2 - length marks))) ≡ j = omega arith in
          ap (λ (x : ℕ). get_or (page ∷ length marks ∷ (marks ++ replicate (most s - length marks) 0)) x 0) (sym here)
          ∙ get_or-append-add marks (replicate (most s - length marks) 0) (j - 2 - length marks) 0
          ∙ at_zeros (most s - length marks) (j - 2 - length marks)

  pub page_writing : {page : ℕ} {marks digits digits' : List ℕ} {r : Result (Unit {0}) Refusal} → Writing s page marks digits digits' r
      → paper.PageWriting (of s) page marks digits digits' (status_number r)
  unfolding write_status
  page_writing {page} {marks} {digits} {digits'} {r} w =
      shape_tests s Err _ (turn Refusal.Shape) (turn Refusal.Slope) (λ law.
      test (eqb (length digits) (info_length s)) _ _ (decides_eqb _ _) (turn Refusal.Length) (λ _.
      test (ltb page 1024) _ _ (decides_below _ _) (turn Refusal.Page) (λ _.
      test (leb (length marks) (most s)) _ _ (decides_upto _ _) (turn Refusal.Count) (λ few.
      test (functions marks) _ _ (decides_functions marks) (turn Refusal.Function) (λ _.
      test (narrow s.b (page ∷ length marks ∷ marks)) _ _ (decides_width s _) (turn Refusal.Width) (λ _ h.
      (ap status_number h, subst (paper.Page (of s) page marks) (sym (w.written ∙ ap (symbols_after s page marks digits) h)) (page_digits page marks (sizes s law).least (leb-true _ _ few))))))))) w.answer
    where
      turn : (e : Refusal) → r ≡ Err e → (status_number r ≡ 2 ^ 31 + refusal_number e) × (digits' ≡ digits)
      turn e h = (ap status_number h, w.written ∙ ap (symbols_after s page marks digits) h)

-- each entry's clauses from the first of them
pub read_asked : (s : Shape) (digits : List ℕ) {r : Result (ℕ × ℕ) Refusal} → r ≡ page_of s digits → (r ≡ page_of s digits) × paper.PageReading (of s) digits (read_number r)
read_asked s digits h = (h, page_reading s digits h)

pub marks_asked : {s : Shape} {symbols part : Bor (List ℕ)} → MarksPart s symbols part → MarksPart s symbols part × paper.Marks (of s) symbols.now part.now
marks_asked {s} {symbols} p = (p, marks s symbols.now p.marks)

pub write_asked : {s : Shape} {page : ℕ} {marks digits digits' : List ℕ} {r : Result (Unit {0}) Refusal} → Writing s page marks digits digits' r
    → Writing s page marks digits digits' r × paper.PageWriting (of s) page marks digits digits' (status_number r)
write_asked {s} w = (w, page_writing s w)
