-- `host::pair::shaftglimmer_read_word` meets its contract.
use mathlib.Core.Path.{sym, ◌∙◌, ap}
use Prim.Native.Nat.{◌≤◌, ◌+◌, ◌^◌}
use native.Mathlib.Omega.{arith}
use lib.Seq.{length-take-le}
use Rattle.gtb.specs.declared.Refusal.{Refusal}
use Rattle.gtb.specs.Answer.{refusal_number}
use Rattle.gtb.specs.Shape.{Lawful, standard}
use Rattle.gtb.proofs.Sizes.{sizes}
use Rattle.host.proofs.Pairs.{word_shape, word_length_lem, word_refused}
use Rattle.host.proofs.pair.shaftglimmer_read_word.Goals as goal

pub returns-then-not-is_lawful : goal.returns-then-not-is_lawful
returns-then-not-is_lawful c = word_refused _ _ (word_shape _ _ (sym c.is_lawful.ensures ∙ c.if-not-is_lawful.true))
    (c.refused.ensures ∙ ap (λ (e : Refusal). 2 ^ 31 + refusal_number e) c.shape_refusal.ensures)

pub word_length-size-requires : goal.word_length-size-requires
word_length-size-requires c =
    let legal : Lawful (standard c.args.q c.args.n c.args.b) = sym c.is_lawful.ensures ∙ c.if-not-is_lawful.false in
    legal

pub overflow_mul-size : goal.overflow_mul-size
overflow_mul-size c =
    let legal : Lawful (standard c.args.q c.args.n c.args.b) = sym c.is_lawful.ensures ∙ c.if-not-is_lawful.false in
    omega (arith, c.word_length-size.ensures, (sizes _ legal).word)

pub returns-then-word-size : goal.returns-then-word-size
returns-then-word-size c =
    let legal : Lawful (standard c.args.q c.args.n c.args.b) = sym c.is_lawful.ensures ∙ c.if-not-is_lawful.false in
    word_refused _ _ (word_length_lem _ _ legal (λ e. c.if-word-size.true (rw c.word_length-size.ensures e))) c.refused-then-word-size.ensures

pub slice_bounds-few-end : goal.slice_bounds-few-end
slice_bounds-few-end c = c.if-size-le-FEW.true

pub slice_bounds-read_word-end : goal.slice_bounds-read_word-end
slice_bounds-read_word-end c = sym (length-take-le _ _ c.if-size-le-FEW.true)

pub read_word-requires : goal.read_word-requires
read_word-requires c =
    let legal : Lawful (standard c.args.q c.args.n c.args.b) = sym c.is_lawful.ensures ∙ c.if-not-is_lawful.false in (
      legal,
      rw c.word_length-size.ensures at c.if-word-size.false,
      length-take-le _ _ c.if-size-le-FEW.true ∙ c.word_length-size.ensures,
    )

pub returns-then-size-le-FEW : goal.returns-then-size-le-FEW
returns-then-size-le-FEW c = c.read_word.ensures

pub slice_bounds-symbols-end : goal.slice_bounds-symbols-end
slice_bounds-symbols-end c =
    let legal : Lawful (standard c.args.q c.args.n c.args.b) = sym c.is_lawful.ensures ∙ c.if-not-is_lawful.false in
    let room : c.word_length-size.result ≤ 961 = omega (arith, c.word_length-size.ensures, (sizes _ legal).word) in
    room

pub slice_bounds-read_word-end-2 : goal.slice_bounds-read_word-end-2
slice_bounds-read_word-end-2 c =
    let legal : Lawful (standard c.args.q c.args.n c.args.b) = sym c.is_lawful.ensures ∙ c.if-not-is_lawful.false in
    let room : c.word_length-size.result ≤ 961 = omega (arith, c.word_length-size.ensures, (sizes _ legal).word) in
    sym (length-take-le _ _ room)

pub read_word-requires-2 : goal.read_word-requires-2
read_word-requires-2 c =
    let legal : Lawful (standard c.args.q c.args.n c.args.b) = sym c.is_lawful.ensures ∙ c.if-not-is_lawful.false in
    let room : c.word_length-size.result ≤ 961 = omega (arith, c.word_length-size.ensures, (sizes _ legal).word) in (
      legal,
      rw c.word_length-size.ensures at c.if-word-size.false,
      length-take-le _ _ room ∙ c.word_length-size.ensures,
    )

pub returns : goal.returns
returns c = c.read_word-2.ensures
