-- `erasure::lent::test_lengths` meets its contract.
use mathlib.Core.Path.{◌≡◌, sym, ap, ◌∙◌, subst}
use mathlib.Core.Bool.{false, ◌&&◌}
use borrow.Author.Tests.{eq-eqb, ne_eqb}
use lib.Dec.{eqb}
use lib.ListN.{length}
use Rattle.std.specs.Prelude.{Err}
use Rattle.std.proofs.lemmas.Result.{err_from_is_err_and}
use Rattle.parity.proofs.Tests.{and_no_left, and_no_right}
use Rattle.gtb.specs.Shape.{Lawful, word_length, scratch_length}
use Rattle.erasure.specs.Steps.{length_tests}
use Rattle.erasure.proofs.lent.test_lengths.Goals.{then-word-word_length-via-then-word-word_length, then-word-word_length-via-else-word-word_length+then-scratch-scratch_length}
use Rattle.erasure.proofs.lent.test_lengths.Goals as goal

pub returns-in_err-code : goal.returns-in_err-code
unfolding length_tests
returns-in_err-code c = let e = err_from_is_err_and c.from_residual.result c.from_residual.ensures.1 in
    rw (e.1, e.2) (rw c.in_err-code.ensures.0 (ap Err (sym c.in_err-code.ensures.1)))

pub returns-then-word-word_length : goal.returns-then-word-word_length
unfolding length_tests
returns-then-word-word_length c =
    let same = c.in_ok-code.ensures in
    let law : Lawful c.args.shape = subst Lawful same c.in_ok-code.code.lawful in
    let wrong : (eqb (length c.args.word.now) (word_length c.args.shape) && eqb (length c.args.scratch.now) (scratch_length c.args.shape)) ≡ false =
    elim c.then-word-word_length.branch [
      | then-word-word_length-via-then-word-word_length w ↦ and_no_left _ (ne_eqb _ _ (λ e. w.if-word-word_length.true (e ∙ sym (c.word_length.ensures ∙ ap word_length same))))
      | then-word-word_length-via-else-word-word_length+then-scratch-scratch_length w ↦
          and_no_right (eqb (length c.args.word.now) (word_length c.args.shape)) (ne_eqb _ _ (λ e. w.if-scratch-scratch_length.true (e ∙ sym (w.scratch_length.ensures ∙ ap scratch_length same))))
    ] in
    rw (law, wrong)

pub returns : goal.returns
unfolding length_tests
returns c =
    let same = c.in_ok-code.ensures in
    let law : Lawful c.args.shape = subst Lawful same c.in_ok-code.code.lawful in (
      same,
      rw (
        law,
        eq-eqb _ _ (c.if-word-word_length.false ∙ c.word_length.ensures ∙ ap word_length same),
        eq-eqb _ _ (c.if-scratch-scratch_length.false ∙ c.scratch_length.ensures ∙ ap scratch_length same),
      ),
    )
