-- `capture::glance::glance` meets its contract: a word line is looked at, of another nothing is told.
use native.Mathlib.Omega.{arith}
use lib.Seq.{length-take-le}
use Rattle.capture.proofs.Looks.{foretold_word}
use Rattle.capture.proofs.glance.glance.Goals as goal

pub returns-in-Words : goal.returns-in-Words
returns-in-Words c = let looked = c.look.ensures in
    (foretold_word c.in-Words.is c.requires.0 (rw (length-take-le c.args.end c.args.line.now (omega (arith, c.requires.1, c.requires.2))) c.requires.2) looked.0, looked.1)
