-- `decoder::correct::find` meets its contract. What holds of the list, the errors and the table gives what the contract says of every word with these syndromes (Reading.antt).
use mathlib.Core.Path.{sym, ◌∙◌}
use Rattle.gtb.specs.Shape.{word_length}
use Rattle.correction.specs.Steps.{Within, Listed}
use Rattle.correction.proofs.Listing.{within}
use Rattle.decoder.specs.Steps.{judged}
use Rattle.decoder.proofs.Reading.{found_many, found_corrections, found_loud}
use Rattle.decoder.proofs.correct.find.Goals as goal

pub locate-requires : goal.locate-requires
locate-requires c = c.requires.1

pub returns-in_err-count : goal.returns-in_err-count
returns-in_err-count c = rw c.from_residual.ensures (found_many c.args.checks.lawful (c.locate.ensures.many c.in_err-count.was))

pub evaluate-requires : goal.evaluate-requires
evaluate-requires c =
    let listed : Listed (judged c.args.checks.shape c.args.syn.now) (word_length c.args.checks.shape) c.in_ok-count.count c.locate.new.places = (c.locate.ensures.few _ c.in_ok-count.was).1 in
    let inside : Within c.args.checks.shape c.in_ok-count.count c.locate.new.places = within c.args.checks.lawful (c.locate.ensures.few _ c.in_ok-count.was).0 listed in
    (c.requires.2, inside)

pub cancel-requires : goal.cancel-requires
cancel-requires c =
    let listed : Listed (judged c.args.checks.shape c.args.syn.now) (word_length c.args.checks.shape) c.in_ok-count.count c.locate.new.places = (c.locate.ensures.few _ c.in_ok-count.was).1 in
    let inside : Within c.args.checks.shape c.in_ok-count.count c.locate.new.places = within c.args.checks.lawful (c.locate.ensures.few _ c.in_ok-count.was).0 listed in
    (c.requires.0, inside)

pub returns-then-is_silent : goal.returns-then-is_silent
returns-then-is_silent c =
    let listed : Listed (judged c.args.checks.shape c.args.syn.now) (word_length c.args.checks.shape) c.in_ok-count.count c.locate.new.places = (c.locate.ensures.few _ c.in_ok-count.was).1 in
    found_corrections c.args.checks.lawful (c.locate.ensures.few _ c.in_ok-count.was).0 listed c.evaluate.ensures c.cancel.ensures (sym c.is_silent.ensures ∙ c.if-is_silent.true)

pub returns : goal.returns
returns c =
    let listed : Listed (judged c.args.checks.shape c.args.syn.now) (word_length c.args.checks.shape) c.in_ok-count.count c.locate.new.places = (c.locate.ensures.few _ c.in_ok-count.was).1 in
    found_loud c.args.checks.lawful (c.locate.ensures.few _ c.in_ok-count.was).0 listed c.evaluate.ensures c.cancel.ensures (sym c.is_silent.ensures ∙ c.if-is_silent.false)
