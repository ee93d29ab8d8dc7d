-- `erasure::decide` meets its contract.
use mathlib.Core.Logic.{inl}
use Rattle.erasure.proofs.decide.Goals as goal

pub returns-in-Solved : goal.returns-in-Solved
returns-in-Solved c = inl ((c.solve.ensures c.args.word.now c.requires.0 c.requires.3).one c.in-Solved.is _ _ c.apply.ensures)
