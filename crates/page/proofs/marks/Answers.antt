-- `page::marks` meets its contract.
use mathlib.Core.Path.{sym, ap, ◌∙◌}
use Prim.Native.Nat.{ℕ}
use native.Mathlib.Omega.{arith}
use Rattle.page.proofs.Pages.{marks_of_lem, no_marks, no_page, marks_within}
use Rattle.page.proofs.Parts.{marks_part}
use Rattle.page.proofs.Paper.{marks_asked}
use Rattle.page.proofs.marks.Goals as goal

-- the clauses, by their names
both : {A B : Type 0} → A × B → record { part : A; paper : B }
both x = record { part = x.0; paper = x.1 }

pub slice_bounds-result-end : goal.slice_bounds-result-end
slice_bounds-result-end c = let within = marks_within c.args.shape c.args.symbols.now _ _ (sym c.read_page.ensures.read ∙ c.in-Ok.is) in
    omega arith

pub returns-in-Ok : goal.returns-in-Ok
returns-in-Ok c = both (marks_asked
    (record {
      marks =
          marks_part c.in-Ok.count c.args.symbols.now
          ∙ sym (marks_of_lem c.args.shape c.args.symbols.now _ _ (sym c.read_page.ensures.read ∙ c.in-Ok.is));
      place = λ number k h. ap (λ (x : ℕ). (c.args.symbols.ref_ptr.0, x)) (omega arith);
    }))

pub returns-in-Err : goal.returns-in-Err
returns-in-Err c = both (let refused = sym c.read_page.ensures.read ∙ c.in-Err.is in
    marks_asked (record { marks = sym (no_marks c.args.shape c.args.symbols.now _ refused); place = λ number k h. absurd (no_page (sym refused ∙ h)) }))
