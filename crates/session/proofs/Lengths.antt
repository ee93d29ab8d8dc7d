-- An arrival refuses the scratch of before N7, whatever its word and its way of reading, if that can be used with the shape.
use mathlib.Core.Path.{◌≡◌, sym, ◌∙◌}
use mathlib.Core.Bool.{true}
use mathlib.Core.List.{List}
use Prim.Native.Nat.{ℕ, ◌+◌, ◌*◌, ◌/◌}
use lib.Dec.{eqb}
use lib.ListN.{length}
use borrow.Author.Tests.{ne_eqb}
use Rattle.parity.proofs.Tests.{and_no_right}
use Rattle.gtb.specs.declared.Shape.{Shape}
use Rattle.gtb.specs.declared.Refusal.{Refusal}
use Rattle.gtb.specs.Shape.{Lawful, word_length, scratch_length}
use Rattle.gtb.proofs.Kept.{old_scratch}
use Rattle.session.specs.Arrival.{Ways, Bad, opened}

pub opened_old : (ways : Ways) (s : Shape) (way : ℕ) (word scratch : List ℕ) → ways.known way ≡ true → Lawful s → (ways.named way).suits s ≡ true → length scratch ≡ s.n * s.q * ((s.q * s.q + 31) / 32)
    → opened ways s way word scratch ≡ Bad Refusal.Length
unfolding opened
opened_old ways s way word scratch known law suits e =
    rw
    (known, law, suits, and_no_right (eqb (length word) (word_length s)) (ne_eqb (length scratch) (scratch_length s) (λ z. old_scratch s law (sym e ∙ z))))
