-- `session::Session::settled` meets its contract: the tests passed decide the answer, and what was added is kept or dropped whole.
use mathlib.Core.Path.{◌≡◌, refl, ap, ◌∙◌}
use mathlib.Core.Bool.{true, not}
use Prim.Native.Nat.{◌+◌}
use native.Mathlib.Omega.{arith}
use lib.ListN.{length, set}
use denote.Plain.{Boolean}
use Rattle.session.specs.Session.{pages_of, recorded}
use Rattle.session.proofs.Arrays.{counts, sized}
use Rattle.session.proofs.Progress.{kept_lowest, few_pages, more_pages}
use Rattle.session.proofs.Settle.{not_added, all_added, settle_again, settle_overflow, settle_taken}
use Rattle.session.proofs.Session.settled.Goals as goal

pub returns-then-taken-at : goal.returns-then-taken-at
returns-then-taken-at c = settle_again c.if-taken-at.true

pub add_marks-requires : goal.add_marks-requires
add_marks-requires c = (counts c.args.self.calls _ c.well_formed.0.1.1.1.1.0, c.requires.2)

pub returns-then-is_none : goal.returns-then-is_none
returns-then-is_none c = settle_overflow {σ = c.args.self} c.if-taken-at.false
    (not_added _ c.add_marks.ensures.fits (c.is_none.ensures ∙ ap not c.if-is_none.true)) c.refused.ensures

pub lowest_from-lowest-requires : goal.lowest_from-lowest-requires
lowest_from-lowest-requires c =
    let marks-size : length c.args.self.taken ≡ 1024 = sized Boolean 1024 c.args.self.taken _ c.well_formed.0.1.1.1.0 in
    kept_lowest c.args.self c.requires.0 c.args.number marks-size c.requires.1

pub overflow_add-result : goal.overflow_add-result
overflow_add-result c = omega (arith, few_pages c.args.self c.requires.0)

pub returns : goal.returns
unfolding recorded
returns c =
    let marks-size : length c.args.self.taken ≡ 1024 = sized Boolean 1024 c.args.self.taken _ c.well_formed.0.1.1.1.0 in
    let added = all_added _ c.add_marks.ensures.fits (c.is_none.ensures ∙ ap not c.if-is_none.false) in
    let number : c.args.self.pages + 1 ≡ pages_of (set c.args.self.taken c.args.number true) =
    more_pages c.args.self c.requires.0 c.args.number marks-size c.requires.1 c.if-taken-at.false in
    settle_taken {σ = c.args.self} c.if-taken-at.false
    added.0 (cc (c.add_marks.ensures.sums added.1, number, c.lowest_from-lowest.ensures), refl)
