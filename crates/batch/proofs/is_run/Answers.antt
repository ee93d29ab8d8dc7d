-- `batch::is_run` meets its contract: no rest, and 1 to 64 words.
use mathlib.Core.Path.{sym, ap, ◌∙◌}
use Prim.Native.Nat.{ℕ, ◌/◌, ◌%◌, ◌<◌}
use lib.Dec.{leb}
use lib.ListN.{length}
use Rattle.batch.proofs.Runs.{word_positive, run_ragged, run_empty, run_upto}
use Rattle.batch.proofs.is_run.Goals as goal

pub nonzero_rem-words : goal.nonzero_rem-words
nonzero_rem-words c =
    let positive : 0 < c.word_length-size.result = rw c.word_length-size.ensures (word_positive _ c.requires) in
    positive

pub returns-then-words-size-ne0 : goal.returns-then-words-size-ne0
returns-then-words-size-ne0 c = run_ragged _ c.requires _
    (λ e. c.if-words-size-ne0.true (ap (λ (n : ℕ). length c.args.words.now % n) c.word_length-size.ensures ∙ e))

pub nonzero_div-count : goal.nonzero_div-count
nonzero_div-count c =
    let positive : 0 < c.word_length-size.result = rw c.word_length-size.ensures (word_positive _ c.requires) in
    positive

pub returns-then-count-eq0 : goal.returns-then-count-eq0
returns-then-count-eq0 c = run_empty _ c.requires _ (ap (λ (n : ℕ). length c.args.words.now / n) (sym c.word_length-size.ensures) ∙ c.if-count-eq0.true)

pub returns : goal.returns
returns c = let is = c.word_length-size.ensures in
    ap (λ (n : ℕ). leb (length c.args.words.now / n) 64) is
    ∙ run_upto _ c.requires _ (ap (λ (n : ℕ). length c.args.words.now % n) (sym is) ∙ c.if-words-size-ne0.false) (λ e. c.if-count-eq0.false (ap (λ (n : ℕ). length c.args.words.now / n) is ∙ e))
