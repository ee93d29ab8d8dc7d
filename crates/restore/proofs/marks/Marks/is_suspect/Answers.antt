-- `restore::marks::Marks::is_suspect` meets its contract.
use mathlib.Core.Path.{◌≡◌, sym, ap, ◌∙◌}
use Prim.Native.Nat.{ℕ, ◌+◌}
use lib.Dec.{eqb}
use native.Mathlib.Omega.{arith}
use borrow.Author.Rules.{rules}
use Rattle.std.specs.List.{list_any}
use Rattle.gtb.proofs.Bounds.{bounds}
use Rattle.gtb.proofs.Sizes.{sizes}
use Rattle.gtb.specs.Square.{at}
use Rattle.correction.proofs.Showing.{shows_le}
use Rattle.restore.proofs.Lists.{listed_any}
use Rattle.restore.proofs.Choosing.{suspects_listed, suspects_free, suspects_shown}
use Rattle.restore.proofs.marks.Marks.is_suspect.Goals as goal

pub overflow_cast-place : goal.overflow_cast-place
overflow_cast-place c = omega (arith, c.requires.0, (sizes _ c.args.checks.lawful).word)

pub returns-then-contains : goal.returns-then-contains
returns-then-contains c =
    let found : c.contains.result ≡ list_any (λ x. eqb x c.args.j) c.args.places.now = search rules in
    suspects_listed (sym c.if-contains.true ∙ found ∙ listed_any _ _)

pub shown-requires : goal.shown-requires
shown-requires c = (bounds _ c.args.checks.lawful).n8

pub overflow_add-free : goal.overflow_add-free
overflow_add-free c = omega (arith, (bounds _ c.args.checks.lawful).n8, c.requires.1, c.shown.ensures, shows_le c.args.checks.shape.n (at c.gather-touched.result) 1)

pub returns-then-n-free : goal.returns-then-n-free
returns-then-n-free c =
    let found : c.contains.result ≡ list_any (λ x. eqb x c.args.j) c.args.places.now = search rules in
    suspects_free (sym c.if-contains.false ∙ found ∙ listed_any _ _)

pub is_shown-requires : goal.is_shown-requires
is_shown-requires c = ((bounds _ c.args.checks.lawful).n8, omega (arith, c.if-n-free.false))

pub returns : goal.returns
returns c =
    let found : c.contains.result ≡ list_any (λ x. eqb x c.args.j) c.args.places.now = search rules in
    suspects_shown (sym c.if-contains.false ∙ found ∙ listed_any _ _) c.gather-values.ensures c.gather-touched.ensures
    (ap (λ (x : ℕ). x + c.args.k) c.shown.ensures) c.if-n-free.false c.is_shown.ensures
