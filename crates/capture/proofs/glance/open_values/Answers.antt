-- `capture::glance::open_values` meets its contract: the tests turn down as they do in what is brought.
use mathlib.Core.Path.{◌≡◌, refl, sym, ap, ◌∙◌}
use Prim.Native.Nat.{◌≤◌}
use native.Mathlib.Omega.{arith}
use lib.ListN.{length}
use lib.Seq.{length-take-le}
use Rattle.gtb.specs.Shape.{Lawful, word_length}
use Rattle.gtb.proofs.Sizes.{sizes}
use Rattle.session.specs.Arrival.{is_way, way_of, Bad}
use Rattle.session.proofs.Opens.{tells_refused}
use Rattle.capture.proofs.Judges.{brings_shape, brings_length, brings_word}
use Rattle.capture.proofs.Looks.{tells_front}
use Rattle.capture.proofs.glance.open_values.Goals as goal

pub returns-then-not-is_lawful : goal.returns-then-not-is_lawful
returns-then-not-is_lawful c = λ line h. tells_refused (brings_shape _ h (sym c.is_lawful.ensures ∙ c.if-not-is_lawful.true) ∙ ap Bad (sym c.shape_refusal.ensures))

pub returns-then-count-word_length : goal.returns-then-count-word_length
returns-then-count-word_length c =
    let legal : Lawful c.args.shape = sym c.is_lawful.ensures ∙ c.if-not-is_lawful.false in
    λ line h. tells_refused (brings_length _ h legal (λ e. c.if-count-word_length.true (e ∙ sym c.word_length.ensures)))

pub slice_bounds-open-end : goal.slice_bounds-open-end
slice_bounds-open-end c =
    let size : c.args.count ≡ word_length c.args.shape = c.if-count-word_length.false ∙ c.word_length.ensures in
    let legal : Lawful c.args.shape = sym c.is_lawful.ensures ∙ c.if-not-is_lawful.false in
    let word_room : c.args.count ≤ length c.args.values.now = omega (arith, size, (sizes _ legal).word, c.requires.0) in
    word_room

pub slice_bounds-open-end-2 : goal.slice_bounds-open-end-2
slice_bounds-open-end-2 c =
    let size : c.args.count ≡ word_length c.args.shape = c.if-count-word_length.false ∙ c.word_length.ensures in
    let legal : Lawful c.args.shape = sym c.is_lawful.ensures ∙ c.if-not-is_lawful.false in
    let word_room : c.args.count ≤ length c.args.values.now = omega (arith, size, (sizes _ legal).word, c.requires.0) in
    sym (length-take-le _ _ word_room)

pub slice_bounds-open-end-3 : goal.slice_bounds-open-end-3
slice_bounds-open-end-3 c =
    let legal : Lawful c.args.shape = sym c.is_lawful.ensures ∙ c.if-not-is_lawful.false in
    let info-room : c.info_length-info.result ≤ length c.args.symbols.now = omega (arith, c.info_length-info.ensures, (sizes _ legal).info, c.requires.1) in
    info-room

pub slice_bounds-open-end-4 : goal.slice_bounds-open-end-4
slice_bounds-open-end-4 c =
    let legal : Lawful c.args.shape = sym c.is_lawful.ensures ∙ c.if-not-is_lawful.false in
    let info-room : c.info_length-info.result ≤ length c.args.symbols.now = omega (arith, c.info_length-info.ensures, (sizes _ legal).info, c.requires.1) in
    sym (length-take-le _ _ info-room)

pub open-requires : goal.open-requires
unfolding is_way way_of
open-requires c =
    let legal : Lawful c.args.shape = sym c.is_lawful.ensures ∙ c.if-not-is_lawful.false in
    let size : c.args.count ≡ word_length c.args.shape = c.if-count-word_length.false ∙ c.word_length.ensures in
    let word_room : c.args.count ≤ length c.args.values.now = omega (arith, size, (sizes _ legal).word, c.requires.0) in
    let info-room : c.info_length-info.result ≤ length c.args.symbols.now = omega (arith, c.info_length-info.ensures, (sizes _ legal).info, c.requires.1) in
    (record { known = refl; lawful = legal; suits = refl; size = length-take-le _ _ word_room ∙ size }, length-take-le _ _ info-room ∙ c.info_length-info.ensures)

pub returns-in-Ok : goal.returns-in-Ok
returns-in-Ok c =
    let legal : Lawful c.args.shape = sym c.is_lawful.ensures ∙ c.if-not-is_lawful.false in
    let size : c.args.count ≡ word_length c.args.shape = c.if-count-word_length.false ∙ c.word_length.ensures in
    let told = c.open.ensures.tells in
    λ line h. tells_front (rw c.in-Ok.is at told) (brings_word _ h legal size c.requires.0) _

pub returns-in-Err : goal.returns-in-Err
returns-in-Err c =
    let legal : Lawful c.args.shape = sym c.is_lawful.ensures ∙ c.if-not-is_lawful.false in
    let size : c.args.count ≡ word_length c.args.shape = c.if-count-word_length.false ∙ c.word_length.ensures in
    let told = c.open.ensures.tells in
    λ line h. tells_front (rw c.in-Err.is at told) (brings_word _ h legal size c.requires.0) _
