-- `host::sessions::shaftglimmer_cover` meets its contract.
use mathlib.Core.List.{List}
use Prim.Native.Nat.{ℕ}
use Rattle.paper.specs.Paper as paper
use Rattle.host.proofs.Paper.{crossing_session}
use Rattle.host.proofs.sessions.shaftglimmer_cover.Goals as goal

pub returns : goal.returns
returns c = crossing_session (λ σ (lists : List ℕ × List ℕ). paper.Covering σ lists.0 lists.1) _ c.load.ensures c.answer.ensures (_, _) c.cover.ensures.paper
