-- `verify::check` meets its contract. Each way out is one of Answers.antt.
use mathlib.Core.Path.{◌≡◌, sym, ap, ◌∙◌, subst}
use Rattle.std.proofs.lemmas.Result.{err_from_is_err_and}
use lib.ListN.{length}
use Rattle.gtb.specs.declared.Shape.{Shape}
use Rattle.gtb.specs.Shape.{Lawful, word_length}
use Rattle.gtb.specs.Lent.{word_status}
use Rattle.gtb.proofs.Words.{status_word}
use Rattle.verify.proofs.Paper.{checking_asked}
use Rattle.verify.proofs.Answers.{refuses_shape, refuses_length, refuses_received, refuses_proposed, decides}
use Rattle.verify.proofs.check.Goals as goal

-- the clauses, by their names
both : {A B : Type 0} → A × B → record { checked : A; paper : B }
both x = record { checked = x.0; paper = x.1 }

pub returns-in_err-code : goal.returns-in_err-code
returns-in_err-code c = let e = err_from_is_err_and c.from_residual.result c.from_residual.ensures.1 in
    rw (e.1, e.2) (both (checking_asked (refuses_shape c.in_err-code.ensures.0 c.in_err-code.ensures.1)))

pub returns-then-proposed-word_length : goal.returns-then-proposed-word_length
returns-then-proposed-word_length c =
    let law : Lawful c.args.shape = subst Lawful c.in_ok-code.ensures c.in_ok-code.code.lawful in
    both (checking_asked (refuses_length _ law _ _ (λ e. c.if-proposed-word_length.true (e ∙ sym (c.word_length.ensures ∙ ap word_length c.in_ok-code.ensures)))))

pub returns-in_err-test_word : goal.returns-in_err-test_word
returns-in_err-test_word c =
    let law : Lawful c.args.shape = subst Lawful c.in_ok-code.ensures c.in_ok-code.code.lawful in
    let size : length c.args.proposed.now ≡ word_length c.args.shape = c.if-proposed-word_length.false ∙ c.word_length.ensures ∙ ap word_length c.in_ok-code.ensures in
    let tested = ap (λ (s : Shape). word_status s c.args.received.now) (sym c.in_ok-code.ensures) ∙ sym c.test_word.ensures ∙ c.in_err-test_word.was in
    let e = err_from_is_err_and c.from_residual-in_err-test_word.result c.from_residual-in_err-test_word.ensures.1 in rw (e.1, e.2)
    (both (checking_asked (refuses_received _ law _ _ size tested)))

pub returns-in_err-test_word-2 : goal.returns-in_err-test_word-2
returns-in_err-test_word-2 c =
    let law : Lawful c.args.shape = subst Lawful c.in_ok-code.ensures c.in_ok-code.code.lawful in
    let size : length c.args.proposed.now ≡ word_length c.args.shape = c.if-proposed-word_length.false ∙ c.word_length.ensures ∙ ap word_length c.in_ok-code.ensures in
    let first = ap (λ (s : Shape). word_status s c.args.received.now) (sym c.in_ok-code.ensures) ∙ sym c.test_word.ensures ∙ c.in_ok-test_word.was in
    let second = ap (λ (s : Shape). word_status s c.args.proposed.now) (sym c.in_ok-code.ensures) ∙ sym c.test_word-2.ensures ∙ c.in_err-test_word-2.was in
    let e = err_from_is_err_and c.from_residual-in_err-test_word-2.result c.from_residual-in_err-test_word-2.ensures.1 in rw (e.1, e.2)
    (both (checking_asked (refuses_proposed _ law _ _ size first second)))

pub is_restored-requires : goal.is_restored-requires
is_restored-requires c =
    let size : length c.args.proposed.now ≡ word_length c.in_ok-code.code.shape = c.if-proposed-word_length.false ∙ c.word_length.ensures in
    rw c.from.ensures ((status_word _ _ (sym c.test_word.ensures ∙ c.in_ok-test_word.was)).size, size)

pub returns : goal.returns
returns c =
    let law : Lawful c.args.shape = subst Lawful c.in_ok-code.ensures c.in_ok-code.code.lawful in
    let size : length c.args.proposed.now ≡ word_length c.args.shape = c.if-proposed-word_length.false ∙ c.word_length.ensures ∙ ap word_length c.in_ok-code.ensures in
    let first = ap (λ (s : Shape). word_status s c.args.received.now) (sym c.in_ok-code.ensures) ∙ sym c.test_word.ensures ∙ c.in_ok-test_word.was in
    let second = ap (λ (s : Shape). word_status s c.args.proposed.now) (sym c.in_ok-code.ensures) ∙ sym c.test_word-2.ensures ∙ c.in_ok-test_word-2.was in
    both (checking_asked (decides _ law _ _ size first second (sym (rw (c.from.ensures, c.in_ok-code.ensures) at c.is_restored.ensures))))
