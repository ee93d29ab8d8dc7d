-- `energy::priced` meets its contract: the costs of the pairs so far, which are those of functions 1 on, have been added.
use Rattle.std.proofs.Common.{arith, ◌≡◌, ◌*◌, length, get_or, ℕ, ◌+◌, ◌-◌, ◌<◌, drop, take, ap, sym, ◌∙◌}
use Rattle.std.proofs.lemmas.List.{length-take, length-drop, length-append}
use Rattle.std.proofs.lemmas.Result.{err_from_is_err_and}
use Rattle.std.proofs.lemmas.Slice.Zip.{zip_turn, zip_end}
use Rattle.std.specs.Prelude.{Ok}
use Rattle.std.specs.Slice.Iter.{iter_rest}
use Rattle.std.specs.Iterator.Adapters.{zip_first, zip_second}
use Rattle.energy.proofs.Sums.{whole_up, fitted, passed_limit, behind_first, up_to, up_to_none, up_to_more, over, whole}
use Rattle.energy.proofs.priced.Goals as goal
use Rattle.energy.proofs.priced.Goals.{In-Some}

pub loop-calls-init : goal.loop-calls-init
loop-calls-init c = (omega arith, up_to_none (λ k. get_or c.args.calls.now k 0) c.args.prices.now)

-- the pair of this turn
pair : (c : In-Some) → (length c.loop-calls.yielded < 255)
    × (c.in-Some.calls.now ≡ get_or c.args.calls.now (length c.loop-calls.yielded + 1) 0)
    × (c.in-Some.price.now ≡ get_or c.args.prices.now (length c.loop-calls.yielded + 1) 0)
pair c =
    let a = c.args in
    let begun = c.into_iter-calls-iterator.ensures.into_iter_gives in
    let turn = zip_turn (take 255 (drop 1 a.calls.now)) (take (length a.prices.now - 1) (drop 1 a.prices.now)) c.loop-calls.yielded
    c.into_iter-calls-iterator.result c.loop-calls.calls-iterator c.next.new.self _
    (ap (λ z. iter_rest (zip_first z)) begun ∙ ap iter_rest c.zip-calls-items.ensures.first ∙ c.iter.ensures.rest)
    (ap (λ z. iter_rest (zip_second z)) begun ∙ c.zip-calls-items.ensures.second.0)
    c.loop-calls.yielded_by (c.in-Some.calls, c.in-Some.price) c.in-Some.is c.next.ensures.steps in
    let low : length c.loop-calls.yielded < 255 = omega (arith, turn.0, length-take 255 (drop 1 a.calls.now)) in
    let far : length c.loop-calls.yielded < length a.prices.now - 1 = omega (arith, low, c.requires) in
    (low, behind_first _ 255 _ _ low (turn.2 0), behind_first _ _ _ _ far (turn.3 0))

-- what it adds
more : (c : In-Some) → c.loop-calls.sum + c.in-Some.calls.now * c.in-Some.price.now ≡ up_to (λ k. get_or c.args.calls.now k 0) c.args.prices.now (length c.loop-calls.yielded + 1)
more c = let p = pair c in rw (p.1, p.2) (up_to_more (λ k. get_or c.args.calls.now k 0) c.args.prices.now (length c.loop-calls.yielded) c.loop-calls.invariant.1)

pub returns-in_err-sum : goal.returns-in_err-sum
returns-in_err-sum c =
    let e = err_from_is_err_and c.from_residual.result c.from_residual.ensures.1 in
    let s = (goal.at.returns-in_err-sum c).In-Some in
    let past = passed_limit c.checked_add.result (c.loop-calls.sum + c.cost.result) c.checked_add.ensures (sym c.ok_or.ensures.value ∙ c.in_err-sum.was) in
    rw (e.1, e.2, past.1) (sym (over (λ k. get_or c.args.calls.now k 0) c.args.prices.now {n = length c.loop-calls.yielded + 1} (omega (arith, (pair s).0)) (more s) (omega (arith, past.0, c.cost.ensures))))

pub loop-calls-preserved : goal.loop-calls-preserved
loop-calls-preserved c =
    let s = (goal.at.loop-calls-preserved c).In-Some in
    let fits = fitted c.checked_add.result (c.loop-calls.sum + c.cost.result) c.in_ok-sum.sum c.checked_add.ensures (sym c.ok_or.ensures.value ∙ c.in_ok-sum.was) in
    (omega (arith, fits), rw (length-append, fits.1, c.cost.ensures) (more s))

pub returns : goal.returns
returns c =
    let a = c.args in
    let begun = c.into_iter-calls-iterator.ensures.into_iter_gives in
    let end = zip_end (take 255 (drop 1 a.calls.now)) (take (length a.prices.now - 1) (drop 1 a.prices.now)) c.loop-calls.yielded
    c.into_iter-calls-iterator.result c.loop-calls.calls-iterator c.next.new.self _
    (ap (λ z. iter_rest (zip_first z)) begun ∙ ap iter_rest c.zip-calls-items.ensures.first ∙ c.iter.ensures.rest)
    (ap (λ z. iter_rest (zip_second z)) begun ∙ c.zip-calls-items.ensures.second.0)
    c.loop-calls.yielded_by c.in-None.is c.next.ensures.steps in
    let all : length c.loop-calls.yielded ≡ 255 = omega (arith, end, length-take {A = ℕ}, length-drop {A = ℕ}, c.requires) in
    ap Ok (c.div_ceil.ensures ∙ whole_up c.loop-calls.sum) ∙ sym (whole (λ k. get_or c.args.calls.now k 0) c.args.prices.now all c.loop-calls.invariant.1 c.loop-calls.invariant.0)
