-- `page::read_narrow` meets its contract.
use borrow.Author.Tests.{eq-eqb, lt-ltb, le-ltb}
use mathlib.Core.Path.{◌≡◌, sym, ap, ◌∙◌}
use mathlib.Core.Bool.{Bool}
use mathlib.Core.List.{List}
use Prim.Native.Nat.{ℕ, ◌+◌, ◌-◌}
use lib.ListN.{length, get_or, take, drop}
use Rattle.page.specs.Page.{page_of, functions, zeros}
use Rattle.page.proofs.Pages.{passed_read, many_marks, few_marks}
use Rattle.page.proofs.Parts.{marks_part, rest_part}
use Rattle.page.proofs.read_narrow.Goals as goal

-- the tests on the two parts, as the specification makes them
calls : (symbols : List ℕ) {r : Bool} → r ≡ functions (take (2 + get_or symbols 1 0 - 2) (drop 2 symbols)) →
    functions (take (get_or symbols 1 0) (drop 2 symbols)) ≡ r
calls symbols e = ap functions (sym (marks_part (get_or symbols 1 0) symbols)) ∙ sym e

tail : (symbols : List ℕ) {r : Bool} → r ≡ zeros (take (length symbols - (2 + get_or symbols 1 0)) (drop (2 + get_or symbols 1 0) symbols)) →
    zeros (drop (2 + get_or symbols 1 0) symbols) ≡ r
tail symbols e = ap zeros (sym (rest_part (2 + get_or symbols 1 0) symbols)) ∙ sym e

pub returns-then-number-ge1024 : goal.returns-then-number-ge1024
unfolding page_of
returns-then-number-ge1024 c = rw (c.requires.0.legal, eq-eqb _ _ c.requires.0.size, c.requires.1, le-ltb (get_or c.args.symbols.now 0 0) 1024 c.if-number-ge1024.true)

pub returns-then-symbols-c : goal.returns-then-symbols-c
unfolding page_of
returns-then-symbols-c c = rw (
  c.requires.0.legal,
  eq-eqb _ _ c.requires.0.size,
  c.requires.1,
  lt-ltb (get_or c.args.symbols.now 0 0) 1024 c.if-number-ge1024.false,
  many_marks c.args.shape (get_or c.args.symbols.now 1 0) (length c.args.symbols.now) c.requires.0.size c.if-symbols-c.true,
)

pub returns-then-not-are_functions : goal.returns-then-not-are_functions
unfolding page_of
returns-then-not-are_functions c = rw (
  c.requires.0.legal,
  eq-eqb _ _ c.requires.0.size,
  c.requires.1,
  lt-ltb (get_or c.args.symbols.now 0 0) 1024 c.if-number-ge1024.false,
  few_marks c.args.shape (get_or c.args.symbols.now 1 0) (length c.args.symbols.now) c.requires.0.size c.if-symbols-c.false,
  calls c.args.symbols.now c.are_functions.ensures ∙ c.if-not-are_functions.true,
)

pub returns-then-not-are_zeros : goal.returns-then-not-are_zeros
unfolding page_of
returns-then-not-are_zeros c = rw (
  c.requires.0.legal,
  eq-eqb _ _ c.requires.0.size,
  c.requires.1,
  lt-ltb (get_or c.args.symbols.now 0 0) 1024 c.if-number-ge1024.false,
  few_marks c.args.shape (get_or c.args.symbols.now 1 0) (length c.args.symbols.now) c.requires.0.size c.if-symbols-c.false,
  calls c.args.symbols.now c.are_functions.ensures ∙ c.if-not-are_functions.false,
  tail c.args.symbols.now c.are_zeros.ensures ∙ c.if-not-are_zeros.true,
)

pub returns : goal.returns
returns c = sym
    (passed_read c.args.shape c.args.symbols.now
    (record {
      legal = c.requires.0.legal;
      size = eq-eqb _ _ c.requires.0.size;
      width = c.requires.1;
      page = lt-ltb (get_or c.args.symbols.now 0 0) 1024 c.if-number-ge1024.false;
      few = few_marks c.args.shape (get_or c.args.symbols.now 1 0) (length c.args.symbols.now) c.requires.0.size c.if-symbols-c.false;
      calls = calls c.args.symbols.now c.are_functions.ensures ∙ c.if-not-are_functions.false;
      tail = tail c.args.symbols.now c.are_zeros.ensures ∙ c.if-not-are_zeros.false;
    }))
