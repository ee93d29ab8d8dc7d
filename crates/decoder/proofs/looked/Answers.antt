-- `decoder::looked` meets its contract. Each way out is one of Judging.antt.
use mathlib.Core.Path.{◌≡◌, sym, ap, ◌∙◌, subst}
use Rattle.std.proofs.lemmas.Result.{err_from_is_err_and}
use lib.ListN.{length}
use Rattle.gtb.specs.declared.Shape.{Shape}
use Rattle.gtb.specs.Shape.{Lawful, word_length}
use Rattle.gtb.specs.Lent.{word_status}
use Rattle.gtb.proofs.Words.{status_word}
use Rattle.decoder.proofs.Paper.{looking_asked}
use Rattle.decoder.proofs.Judging.{looking_shape, looking_list, looking_word, looking_done}
use Rattle.decoder.proofs.looked.Goals as goal

-- the clauses, by their names
both : {A B : Type 0} → A × B → record { looked : A; paper : B }
both x = record { looked = x.0; paper = x.1 }

pub returns-in_err-code : goal.returns-in_err-code
returns-in_err-code c = let e = err_from_is_err_and c.from_residual.result c.from_residual.ensures.1 in
    rw (e.1, e.2) (both (looking_asked _ _ (looking_shape c.in_err-code.ensures.0 c.in_err-code.ensures.1)))

pub returns-then-looked-word_length : goal.returns-then-looked-word_length
returns-then-looked-word_length c =
    let law : Lawful c.args.shape = subst Lawful c.in_ok-code.ensures c.in_ok-code.code.lawful in
    let size : c.word_length.result ≡ word_length c.args.shape = c.word_length.ensures ∙ ap word_length c.in_ok-code.ensures in
    both (looking_asked _ _ (looking_list law (λ e. c.if-looked-word_length.true (e ∙ sym size))))

pub note-requires : goal.note-requires
note-requires c =
    let size : length c.args.looked.now ≡ word_length c.in_ok-code.code.shape = c.if-looked-word_length.false ∙ c.word_length.ensures in
    rw c.from.ensures ((status_word _ _ (sym c.test_word.ensures ∙ c.in_ok-test_word.was)).size, size)

pub returns-in_err-test_word : goal.returns-in_err-test_word
returns-in_err-test_word c =
    let law : Lawful c.args.shape = subst Lawful c.in_ok-code.ensures c.in_ok-code.code.lawful in
    let size : length c.args.looked.now ≡ word_length c.args.shape = c.if-looked-word_length.false ∙ c.word_length.ensures ∙ ap word_length c.in_ok-code.ensures in
    let tested = sym c.in_err-test_word.was ∙ c.test_word.ensures ∙ ap (λ (s : Shape). word_status s c.args.word.now) c.in_ok-code.ensures in
    let e = err_from_is_err_and c.from_residual-in_err-test_word.result c.from_residual-in_err-test_word.ensures.1 in
    rw (e.1, e.2) (both (looking_asked _ _ (looking_word _ law _ _ size tested)))

pub returns : goal.returns
returns c =
    let law : Lawful c.args.shape = subst Lawful c.in_ok-code.ensures c.in_ok-code.code.lawful in
    let size : length c.args.looked.now ≡ word_length c.args.shape = c.if-looked-word_length.false ∙ c.word_length.ensures ∙ ap word_length c.in_ok-code.ensures in
    let tested = sym c.in_ok-test_word.was ∙ c.test_word.ensures ∙ ap (λ (s : Shape). word_status s c.args.word.now) c.in_ok-code.ensures in
    both (looking_asked _ _ (looking_done _ law _ _ size tested (rw (c.from.ensures, c.in_ok-code.ensures) at c.note.ensures)))
