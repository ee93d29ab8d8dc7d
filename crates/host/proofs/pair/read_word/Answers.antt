-- `host::pair::read_word` meets its contract. Where the two ways meet, the bytes are those of the restored word, or as they came.
use mathlib.Core.Path.{◌∙◌}
use Rattle.host.proofs.Pairs.{word_read, put_back, left_alone}
use Rattle.host.proofs.pair.read_word.Goals.{in-Ok, in_default}
use Rattle.host.proofs.pair.read_word.Goals as goal

pub returns : goal.returns
returns c =
    let loaded = c.load.ensures in
    let read = c.decode-answer.ensures.read in
    let bytes = c.args.bytes.now in
    word_read c.args.shape bytes c.requires.0 c.requires.1 loaded read c.answer.ensures
    (elim c.match-answer.branch [
      | in-Ok w ↦ put_back c.args.shape bytes _ w.in-Ok.is loaded read.word (w.bytes-is ∙ w.store.ensures)
      | in_default w ↦ left_alone c.args.shape bytes _ w.in_default.is w.bytes-is
    ])
