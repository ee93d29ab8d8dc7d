-- `majority::locate::keep` meets its contract.
use mathlib.Core.Path.{sym, ◌∙◌}
use Prim.Native.Nat.{◌<◌}
use native.Mathlib.Omega.{arith}
use Rattle.gtb.proofs.Bounds.{bounds}
use Rattle.correction.proofs.Listing.{listed_keep, listed_skip}
use Rattle.majority.proofs.Table.{stays, changes_there}
use Rattle.majority.proofs.locate.keep.Goals as goal

pub returns-then-is_quiet : goal.returns-then-is_quiet
returns-then-is_quiet c = record { next = λ p same. listed_skip (same ∙ stays _ _ _ (c.is_quiet.ensures c.if-is_quiet.true)) }

pub returns-then-vote-eq0 : goal.returns-then-vote-eq0
returns-then-vote-eq0 c = record { next = λ p same. listed_skip (same ∙ stays _ _ _ (sym c.vote.ensures ∙ c.if-vote-eq0.true)) }

pub bounds-places-count : goal.bounds-places-count
bounds-places-count c =
    let room : c.args.count < 8 = omega (arith, (bounds c.args.row.checks.shape c.args.row.checks.lawful).n8, c.requires.2) in
    room

pub returns : goal.returns
returns c =
    let room : c.args.count < 8 = omega (arith, (bounds c.args.row.checks.shape c.args.row.checks.lawful).n8, c.requires.2) in
    record { next = λ p same. listed_keep (same ∙ changes_there _ _ _ (λ z. c.if-vote-eq0.false (c.vote.ensures ∙ z))) room }
