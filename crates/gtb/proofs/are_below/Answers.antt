-- `gtb::are_below` meets its contract.
use mathlib.Core.Path.{◌≡◌, ap, ◌∙◌}
use mathlib.Core.Bool.{Bool, ◌&&◌}
use Prim.Native.Nat.{◌*◌, ◌%◌, ◌^◌}
use native.Mathlib.Nat.{one-mul}
use native.Mathlib.Omega.{arith}
use borrow.Author.Rules.{rules}
use borrow.Author.Tests.{lt-ltb}
use lib.Bits.{bit_or}
use lib.Dec.{ltb}
use lib.Pow.{pow_pos, shl_exact}
use Rattle.std.specs.Prelude.{fold}
use Rattle.std.specs.List.{list_all}
use Rattle.gtb.specs.Square.{narrow}
use Rattle.gtb.proofs.Lists.{bits_below, all_entries}
use Rattle.gtb.proofs.are_below.Goals as goal

pub returns : goal.returns
unfolding narrow
returns c =
    let b = c.args.b in
    let xs = c.args.symbols.now in
    let bits : c.fold-bits.result ≡ fold (λ bits x. bit_or bits x) 0 xs = search rules in
    let bound : 1 * 2 ^ b % 2 ^ 64 ≡ 2 ^ b = shl_exact 1 b 64 (omega arith) (omega arith) ∙ one-mul (2 ^ b) in
    ap (ltb c.fold-bits.result) bound
    ∙ ap (λ x. ltb x (2 ^ b)) bits
    ∙ bits_below b 0 xs
    ∙ ap (λ (t : Bool). t && list_all (λ x. ltb x (2 ^ b)) xs) (lt-ltb 0 (2 ^ b) (pow_pos b))
    ∙ all_entries (λ x. ltb x (2 ^ b)) xs
