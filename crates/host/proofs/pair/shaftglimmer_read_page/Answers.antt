-- `host::pair::shaftglimmer_read_page` meets its contract.
use mathlib.Core.Path.{sym, ap, ◌∙◌}
use Prim.Native.Nat.{ℕ, ◌≤◌, ◌+◌, ◌*◌, ◌^◌}
use native.Mathlib.Omega.{arith}
use lib.Seq.{length-take-le}
use Rattle.gtb.specs.declared.Refusal.{Refusal}
use Rattle.gtb.specs.Answer.{refusal_number}
use Rattle.gtb.specs.Shape.{Lawful, standard}
use Rattle.gtb.proofs.Sizes.{sizes}
use Rattle.page.specs.Page.{read_number, page_of}
use Rattle.page.proofs.Pages.{read_fits}
use Rattle.host.proofs.Pairs.{page_shape, page_length, page_past}
use Rattle.host.proofs.pair.shaftglimmer_read_page.Goals as goal

pub returns-then-not-is_lawful : goal.returns-then-not-is_lawful
returns-then-not-is_lawful c = c.refused.ensures ∙ ap (λ (e : Refusal). 2 ^ 31 + refusal_number e) c.shape_refusal.ensures
    ∙ sym (ap read_number (page_shape _ _ (sym c.is_lawful.ensures ∙ c.if-not-is_lawful.true)))

pub info_length-size-requires : goal.info_length-size-requires
info_length-size-requires c =
    let legal : Lawful (standard c.args.q c.args.n c.args.b) = sym c.is_lawful.ensures ∙ c.if-not-is_lawful.false in
    legal

pub overflow_mul-size : goal.overflow_mul-size
overflow_mul-size c =
    let legal : Lawful (standard c.args.q c.args.n c.args.b) = sym c.is_lawful.ensures ∙ c.if-not-is_lawful.false in
    omega (arith, c.info_length-size.ensures, (sizes _ legal).info)

pub returns-then-symbols-size : goal.returns-then-symbols-size
returns-then-symbols-size c =
    let legal : Lawful (standard c.args.q c.args.n c.args.b) = sym c.is_lawful.ensures ∙ c.if-not-is_lawful.false in
    c.refused-then-symbols-size.ensures ∙ sym (ap read_number (page_length _ _ legal (λ e. c.if-symbols-size.true (rw c.info_length-size.ensures e))))

pub slice_bounds-loaded-end : goal.slice_bounds-loaded-end
slice_bounds-loaded-end c =
    let legal : Lawful (standard c.args.q c.args.n c.args.b) = sym c.is_lawful.ensures ∙ c.if-not-is_lawful.false in
    let room : c.info_length-size.result ≤ 900 = omega (arith, c.info_length-size.ensures, (sizes _ legal).info) in
    room

pub slice_bounds-part-end : goal.slice_bounds-part-end
slice_bounds-part-end c =
    let legal : Lawful (standard c.args.q c.args.n c.args.b) = sym c.is_lawful.ensures ∙ c.if-not-is_lawful.false in
    let room : c.info_length-size.result ≤ 900 = omega (arith, c.info_length-size.ensures, (sizes _ legal).info) in
    sym (length-take-le _ _ room)

pub load-requires : goal.load-requires
load-requires c =
    let legal : Lawful (standard c.args.q c.args.n c.args.b) = sym c.is_lawful.ensures ∙ c.if-not-is_lawful.false in
    let room : c.info_length-size.result ≤ 900 = omega (arith, c.info_length-size.ensures, (sizes _ legal).info) in
    c.if-symbols-size.false ∙ ap (λ (n : ℕ). 4 * n) (sym (length-take-le _ _ room))

pub read-requires : goal.read-requires
read-requires c = rw c.read_page.ensures.read (read_fits _ _)

pub returns : goal.returns
returns c =
    let legal : Lawful (standard c.args.q c.args.n c.args.b) = sym c.is_lawful.ensures ∙ c.if-not-is_lawful.false in
    let s = c.args in
    c.read.ensures ∙ ap read_number (c.read_page.ensures.read ∙ ap (page_of (standard s.q s.n s.b)) c.load.ensures ∙ sym (page_past _ _ legal (rw c.info_length-size.ensures at c.if-symbols-size.false)))
