-- Reading two wrong digits does what the paper asks.
use mathlib.Core.Path.{◌≡◌, refl}
use native.Mathlib.Omega.{arith}
use lib.Dec.{leb}
use borrow.Author.Tests.{leb-true, leb-false}
use Rattle.paper.specs.Paper as paper
use Rattle.gtb.specs.declared.Shape.{Shape}
use Rattle.gtb.specs.Shape.{of, Lawful}
use Rattle.gtb.proofs.Bounds.{bounds}
use Rattle.gtb.proofs.Judging.{Decides}
use Rattle.distance.specs.Distance.{Near}
use Rattle.distance.proofs.Within.{near_within, within_near}
use Rattle.correction.proofs.Paper.{Named}
use Rattle.double.specs.Double.{two}

module _ (s : Shape) where
  three : Lawful s → Decides (leb 3 s.n) (paper.TooFew (of s) 2)
  three law =
      let b = bounds s law in
      record {
        holds = λ h. let few = leb-false 3 s.n h in (refl, omega (arith, b.n2));
        fails = λ h two. let many = leb-true 3 s.n h in let few : s.n ≡ 2 = two.1 in omega arith;
      }

  pub two_named : Named 2 two (λ s. Near s 2) s
  two_named = record { number = refl; suits = three; read = near_within s; means = within_near s; changed = λ x. x.changed }
