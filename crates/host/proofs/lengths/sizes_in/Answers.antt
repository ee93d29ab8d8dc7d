-- `host::lengths::sizes_in` meets its contract.
use mathlib.Core.Path.{refl, sym, ◌∙◌}
use native.Mathlib.Omega.{arith}
use Rattle.gtb.specs.Shape.{Lawful, word_length, info_length, scratch_length}
use Rattle.paper.specs.Paper as paper
use Rattle.gtb.proofs.Sizes.{sizes}
use Rattle.gtb.proofs.Scratches.{scratch_length_lem}
use Rattle.host.proofs.Paper.{length_asked}
use Rattle.host.proofs.Answers.{length_none, length_some}
use Rattle.host.proofs.lengths.sizes_in.Goals as goal

pub returns-then-not-is_lawful : goal.returns-then-not-is_lawful
returns-then-not-is_lawful c = let is = c.load_shape-shape.ensures in
    let no = sym c.is_lawful.ensures ∙ c.if-not-is_lawful.true in (
      length_asked word_length paper.N _ refl (length_none word_length _ is no),
      length_asked info_length paper.K _ refl (length_none info_length _ is no),
      length_asked scratch_length paper.scratch_length _ (scratch_length_lem _) (length_none scratch_length _ is no),
    )

pub word_length-requires : goal.word_length-requires
word_length-requires c =
    let legal : Lawful c.load_shape-shape.result = sym c.is_lawful.ensures ∙ c.if-not-is_lawful.false in
    legal

pub overflow_cast-result : goal.overflow_cast-result
overflow_cast-result c =
    let legal : Lawful c.load_shape-shape.result = sym c.is_lawful.ensures ∙ c.if-not-is_lawful.false in
    record { fits = omega (arith, c.word_length.ensures, (sizes _ legal).word) }

pub info_length-requires : goal.info_length-requires
info_length-requires c =
    let legal : Lawful c.load_shape-shape.result = sym c.is_lawful.ensures ∙ c.if-not-is_lawful.false in
    legal

pub overflow_cast-result-2 : goal.overflow_cast-result-2
overflow_cast-result-2 c =
    let legal : Lawful c.load_shape-shape.result = sym c.is_lawful.ensures ∙ c.if-not-is_lawful.false in
    record { fits = omega (arith, c.info_length.ensures, (sizes _ legal).info) }

pub scratch_length-requires : goal.scratch_length-requires
scratch_length-requires c =
    let legal : Lawful c.load_shape-shape.result = sym c.is_lawful.ensures ∙ c.if-not-is_lawful.false in
    legal

pub overflow_cast-result-3 : goal.overflow_cast-result-3
overflow_cast-result-3 c =
    let legal : Lawful c.load_shape-shape.result = sym c.is_lawful.ensures ∙ c.if-not-is_lawful.false in
    record { fits = omega (arith, c.scratch_length.ensures, (sizes _ legal).scratch) }

pub returns : goal.returns
returns c =
    let legal : Lawful c.load_shape-shape.result = sym c.is_lawful.ensures ∙ c.if-not-is_lawful.false in
    let is = c.load_shape-shape.ensures in (
      length_asked word_length paper.N _ refl (length_some word_length _ is legal c.word_length.ensures),
      length_asked info_length paper.K _ refl (length_some info_length _ is legal c.info_length.ensures),
      length_asked scratch_length paper.scratch_length _ (scratch_length_lem _) (length_some scratch_length _ is legal c.scratch_length.ensures),
    )
