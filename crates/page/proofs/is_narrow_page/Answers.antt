-- `page::is_narrow_page` meets its contract.
use borrow.Author.Tests.{lt-ltb, le-ltb}
use mathlib.Core.Bool.{Bool, true, false}
use mathlib.Core.List.{List, ◌∷◌}
use mathlib.Core.Logic.{◌⊎◌, inl, inr}
use mathlib.Core.Path.{◌≡◌, ◌∙◌}
use Prim.Native.Nat.{ℕ, ◌*◌, ◌%◌, ◌^◌, ◌≤◌, ◌<◌}
use native.Mathlib.Nat.{one-mul}
use native.Mathlib.Omega.{arith}
use lib.Dec.{ltb}
use lib.ListN.{length}
use lib.Pow.{shl_exact}
use Rattle.std.proofs.lemmas.Bool.Decides.{nat_tests}
use Rattle.gtb.specs.Square.{narrow}
use Rattle.page.proofs.Entries.{narrow_two}
use Rattle.page.proofs.is_narrow_page.Goals as goal
use Rattle.page.proofs.is_narrow_page.Goals.{then-number-bound, else-number-bound}

-- the code's 1 << b is 2^b
power : (b : ℕ) → b ≤ 32 → 1 * 2 ^ b % 2 ^ 64 ≡ 2 ^ b
power b h = shl_exact 1 b 64 (omega arith) (omega arith) ∙ one-mul (2 ^ b)

wide : (b x : ℕ) → b ≤ 32 → 1 * 2 ^ b % 2 ^ 64 ≤ x → ltb x (2 ^ b) ≡ false
wide b x h l = le-ltb x (2 ^ b) (rw (power b h) at l)

slim : (b x : ℕ) → b ≤ 32 → x < 1 * 2 ^ b % 2 ^ 64 → ltb x (2 ^ b) ≡ true
slim b x h l = lt-ltb x (2 ^ b) (rw (power b h) at l)

pub returns-then-marks-bound : goal.returns-then-marks-bound
returns-then-marks-bound c = rw (
  narrow_two,
  slim c.args.b c.args.number c.requires c.if-marks-bound.true.0,
  slim c.args.b (length c.args.marks.now) c.requires c.if-marks-bound.true.1,
)
    c.is_narrow.ensures

-- one of them is not below the bound
refused : (b number c : ℕ) (marks : List ℕ) {t : Bool} → b ≤ 32 → t ≡ false →
    (number < 1 * 2 ^ b % 2 ^ 64 × 1 * 2 ^ b % 2 ^ 64 ≤ c) ⊎ (1 * 2 ^ b % 2 ^ 64 ≤ number) → t ≡ narrow b (number ∷ c ∷ marks)
refused b number c marks h e (inl (l, m)) = rw (narrow_two, slim b number h l, wide b c h m) e
refused b number c marks h e (inr l) = rw (narrow_two, wide b number h l) e

pub returns-else-marks-bound : goal.returns-else-marks-bound
returns-else-marks-bound c =
    refused c.args.b c.args.number (length c.args.marks.now) c.args.marks.now c.requires (grind (arith, nat_tests)) c.if-marks-bound.either
