-- A bundle's own contract, as the prover has it of src/: whatever a call ensures is what the paper asks. a: the arguments, x: what stands in them afterwards.
use mathlib.Core.Path.{◌≡◌}
use contract.Lifetimes.{Lfts}
use borrow.Fn.World.{ArgsD, ResD}
use borrow.Fn.Kinds.{ended_of}
use denote.Triple.Clauses.{AtExit}
use lib.ListN.{length}
use Rattle.paper.specs.Paper as paper
use Rattle.gtb.specs.Answer.{status_number}
use Rattle.session.specs.Session.{plain}
use Rattle.batch.specs.contracts.arrive_all as bundle
use Rattle.batch.proofs.arrive_all.Kinds as bundle-kinds
use Rattle.batch.proofs.arrive_all.Reads as bundle-reads
use Rattle.conformance.proofs.Bundles.{bundling}

pub bundles : (κs : Lfts 3) (a : ArgsD bundle.signature κs) (r : ResD bundle.signature κs) (x : AtExit (ended_of 3 bundle-kinds.ps bundle-kinds.r) κs)
    → length a.0.taken ≡ 1024 → bundle-reads.Learnt κs a r x
    → paper.Bundling (plain a.0) a.1.0 a.1.1.0.now a.1.1.1.0.now a.1.1.1.1.0.now (plain r.session) x.1.1.0.now x.1.1.1.0.now x.1.1.1.1.0.now (status_number r.status)
bundles κs a r x size h = bundling a.0 size a.1.0 a.1.1.0.now a.1.1.1.0.now h
