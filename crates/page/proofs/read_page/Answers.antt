-- `page::read_page` meets its contract.
use Rattle.std.specs.Prelude.{Err}
use Rattle.std.proofs.lemmas.Result.{err_from_is_err_and}
use borrow.Author.Tests.{eq-eqb, ne_eqb}
use mathlib.Core.Path.{◌≡◌, sym, ◌∙◌, ap}
use Rattle.gtb.proofs.Bounds.{bounds}
use Rattle.gtb.specs.declared.Shape.{Shape}
use Rattle.gtb.specs.declared.Refusal.{Refusal}
use Rattle.gtb.specs.Shape.{lawful, shape_refusal}
use mathlib.Core.Bool.{false}
use mathlib.Core.List.{List}
use Prim.Native.Nat.{ℕ}
use Rattle.page.specs.Page.{page_of}
use Rattle.page.proofs.Pages.{sized}
use Rattle.page.proofs.Paper.{read_asked}
use Rattle.page.proofs.read_page.Goals as goal

-- the clauses, by their names
both : {A B : Type 0} → A × B → record { read : A; paper : B }
both x = record { read = x.0; paper = x.1 }

no_code : (s : Shape) (symbols : List ℕ) {e : Refusal} → lawful s ≡ false → e ≡ shape_refusal s → Err e ≡ page_of s symbols
unfolding page_of
no_code s symbols h is = rw h (ap Err is)

pub returns-in_err-code : goal.returns-in_err-code
returns-in_err-code c = let e = err_from_is_err_and c.from_residual.result c.from_residual.ensures.1 in rw (e.1, e.2)
    (both (read_asked _ _ (no_code _ _ c.in_err-code.ensures.0 c.in_err-code.ensures.1)))

pub returns-then-symbols-info_length : goal.returns-then-symbols-info_length
unfolding page_of
returns-then-symbols-info_length c =
    let code = c.in_ok-code.code in
    let page : Err Refusal.Length ≡ page_of code.shape c.args.symbols.now =
    rw (code.lawful, ne_eqb _ _ (λ e. c.if-symbols-info_length.true (e ∙ sym c.info_length.ensures))) in
    both (read_asked _ _ (rw c.in_ok-code.ensures at page))

pub is_narrow-requires : goal.is_narrow-requires
is_narrow-requires c = (bounds _ c.in_ok-code.code.lawful).b32

pub returns-then-not-is_narrow : goal.returns-then-not-is_narrow
unfolding page_of
returns-then-not-is_narrow c =
    let code = c.in_ok-code.code in
    let page : Err Refusal.Width ≡ page_of code.shape c.args.symbols.now =
    rw (code.lawful, eq-eqb _ _ (c.if-symbols-info_length.false ∙ c.info_length.ensures), sym c.is_narrow.ensures ∙ c.if-not-is_narrow.true) in
    both (read_asked _ _ (rw c.in_ok-code.ensures at page))

pub read_narrow-requires : goal.read_narrow-requires
read_narrow-requires c = (
  sized _ _ c.in_ok-code.code.lawful (c.if-symbols-info_length.false ∙ c.info_length.ensures),
  sym c.is_narrow.ensures ∙ c.if-not-is_narrow.false,
)

pub returns : goal.returns
returns c = both (read_asked _ _ (rw c.in_ok-code.ensures at c.read_narrow.ensures))
