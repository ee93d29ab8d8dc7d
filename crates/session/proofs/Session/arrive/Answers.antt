-- `session::Session::arrive` meets its contract: what the tests turn down is what is presented, and past them both steps are an arrival, with room in the arrays.
use mathlib.Core.Path.{◌≡◌, refl, sym, ◌∙◌}
use Prim.Native.Nat.{◌≤◌}
use native.Mathlib.Omega.{arith}
use lib.ListN.{length}
use lib.Seq.{length-take-le}
use Rattle.gtb.specs.Shape.{info_length, scratch_length}
use Rattle.gtb.proofs.Sizes.{sizes}
use Rattle.session.specs.Session.{consistent, Consistent}
use Rattle.session.specs.Steps.{Openable}
use Rattle.session.proofs.Arrive.{tests_refused, tests_passed, decides_arrives}
use Rattle.session.proofs.Arrays.{sized}
use denote.Plain.{Boolean}
use Rattle.session.proofs.Arriving.{arrival_asked}
use Rattle.session.proofs.Session.arrive.Goals as goal
use Rattle.session.proofs.Session.arrive.Goals.{In-Ok}

-- the clauses, by their names
both : {A B : Type 0} → A × B → record { arrived : A; paper : B }
both x = record { arrived = x.0; paper = x.1 }

pub returns-in-Err : goal.returns-in-Err
unfolding consistent
returns-in-Err c =
    let s = c.args in
    let marks-size : length s.self.taken ≡ 1024 = sized Boolean 1024 s.self.taken _ c.well_formed.0.1.1.1.0 in
    let agrees : c.agree-agree.result ≡ consistent s.self = c.agree-agree.ensures in
    both (arrival_asked s.self marks-size s.word.now s.scratch.now s.way
    (tests_refused s.self refl agrees s.way s.word.now s.scratch.now c.in-Err.ensures c.refused.ensures))

-- what the tests tell that are passed
passed : (c : In-Ok) → let s = c.args in Consistent s.self × Openable s.self.shape s.way s.word.now × (length s.scratch.now ≡ scratch_length s.self.shape)
unfolding consistent
passed c =
    let s = c.args in
    let agrees : c.agree-agree.result ≡ consistent s.self = c.agree-agree.ensures in
    tests_passed s.self refl agrees s.way s.word.now s.scratch.now c.in-Ok.ensures.0

word_room : (c : In-Ok) → length c.args.word.now ≤ 961
word_room c = let fits = (passed c).1 in omega (arith, fits.size, (sizes _ fits.lawful).word)

info-room : (c : In-Ok) → info_length c.args.self.shape ≤ 900
info-room c = omega (arith, (sizes _ (passed c).1.lawful).info)

pub info_length-info-requires : goal.info_length-info-requires
info_length-info-requires c = (passed (goal.at.info_length-info-requires c).In-Ok).1.lawful

pub slice_bounds-came-end : goal.slice_bounds-came-end
slice_bounds-came-end c = word_room (goal.at.slice_bounds-came-end c).In-Ok

pub slice_bounds-settle_word-end : goal.slice_bounds-settle_word-end
slice_bounds-settle_word-end c = sym (length-take-le _ _ (word_room (goal.at.slice_bounds-settle_word-end c).In-Ok))

pub slice_bounds-symbols-end : goal.slice_bounds-symbols-end
slice_bounds-symbols-end c = omega (arith, c.info_length-info.ensures, info-room (goal.at.slice_bounds-symbols-end c).In-Ok)

pub slice_bounds-settle_word-end-2 : goal.slice_bounds-settle_word-end-2
slice_bounds-settle_word-end-2 c = sym (length-take-le _ _ (omega (arith, c.info_length-info.ensures, info-room (goal.at.slice_bounds-settle_word-end-2 c).In-Ok)))

pub settle_word-requires : goal.settle_word-requires
settle_word-requires c =
    let s = (goal.at.settle_word-requires c).In-Ok in
    let (right, fits, room) = passed s in
    (right, rw c.in-Ok.ensures.1 fits, length-take-le _ _ (word_room s), length-take-le _ _ (omega (arith, c.info_length-info.ensures, info-room s)) ∙ c.info_length-info.ensures)

pub returns : goal.returns
returns c =
    let s = c.args in
    let marks-size : length s.self.taken ≡ 1024 = sized Boolean 1024 s.self.taken _ c.well_formed.0.1.1.1.0 in
    let (right, fits, room) = passed (goal.at.returns c).In-Ok in
    both (arrival_asked s.self marks-size s.word.now s.scratch.now s.way
    (decides_arrives _ s.scratch.now right fits room (c.fill.ensures.after (λ y h. h)) (rw c.in-Ok.ensures.1 at c.settle_word.ensures)))
