-- `page::write_page` meets its contract.
use native.Mathlib.Omega.{arith}
use lib.ListN.{length}
use Rattle.std.specs.Prelude.{Err}
use borrow.Author.Tests.{ne_eqb}
use mathlib.Core.Path.{◌≡◌, refl, sym, ◌∙◌, ap}
use Rattle.std.proofs.lemmas.Result.{err_from_is_err_and}
use Rattle.gtb.specs.Shape.{info_length}
use Rattle.gtb.proofs.Sizes.{sizes}
use Rattle.gtb.specs.declared.Shape.{Shape}
use Rattle.gtb.specs.declared.Refusal.{Refusal}
use Rattle.gtb.specs.Shape.{lawful, shape_refusal}
use mathlib.Core.Bool.{false}
use mathlib.Core.List.{List}
use Prim.Native.Nat.{ℕ}
use Rattle.page.specs.Page.{write_status, page_symbols}
use Rattle.page.proofs.Pages.{writing, writable}
use Rattle.page.proofs.Paper.{write_asked}
use Rattle.page.proofs.write_page.Goals as goal

-- the clauses, by their names
both : {A B : Type 0} → A × B → record { written : A; paper : B }
both x = record { written = x.0; paper = x.1 }

no_code : (s : Shape) (number : ℕ) (marks symbols : List ℕ) {e : Refusal} → lawful s ≡ false → e ≡ shape_refusal s → Err e ≡ write_status s number marks symbols
unfolding write_status
no_code s number marks symbols h is = rw h (ap Err is)

pub returns-in_err-code : goal.returns-in_err-code
returns-in_err-code c = let e = err_from_is_err_and c.from_residual.result c.from_residual.ensures.1 in rw (e.1, e.2)
    (both (write_asked (writing (no_code _ _ _ _ c.in_err-code.ensures.0 c.in_err-code.ensures.1) refl)))

pub returns-then-symbols-info_length : goal.returns-then-symbols-info_length
unfolding write_status
returns-then-symbols-info_length c =
    let code = c.in_ok-code.code in
    let status : Err Refusal.Length ≡ write_status code.shape c.args.number c.args.marks.now c.args.symbols.now =
    rw (code.lawful, ne_eqb _ _ (λ e. c.if-symbols-info_length.true (e ∙ sym c.info_length.ensures))) in
    both (write_asked (writing (rw c.in_ok-code.ensures at status) refl))

pub fill-requires : goal.fill-requires
fill-requires c =
    let code = c.in_ok-code.code in
    let z = sizes code.shape code.lawful in
    let as_long : length c.args.symbols.now ≡ info_length code.shape = c.if-symbols-info_length.false ∙ c.info_length.ensures in
    let few = (writable code.shape c.args.number c.args.marks.now c.args.symbols.now (sym (c.status.ensures _ as_long) ∙ c.in_ok-status.was)).few in
    (omega arith, omega arith)

pub returns-in_err-status : goal.returns-in_err-status
returns-in_err-status c =
    let e = err_from_is_err_and c.from_residual-in_err-status.result c.from_residual-in_err-status.ensures.1 in rw (e.1, e.2) (
    let as_long : length c.args.symbols.now ≡ info_length c.in_ok-code.code.shape = c.if-symbols-info_length.false ∙ c.info_length.ensures in
    both (write_asked (writing (rw c.in_ok-code.ensures at (sym c.in_err-status.was ∙ c.status.ensures _ as_long)) refl)))

pub returns : goal.returns
unfolding page_symbols
returns c =
    let as_long : length c.args.symbols.now ≡ info_length c.in_ok-code.code.shape = c.if-symbols-info_length.false ∙ c.info_length.ensures in
    both (write_asked (writing (rw c.in_ok-code.ensures at (sym c.in_ok-status.was ∙ c.status.ensures _ as_long)) (rw (as_long, c.in_ok-code.ensures) at c.fill.ensures)))
