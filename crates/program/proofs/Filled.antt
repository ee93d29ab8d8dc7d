-- What is put behind a text leaves zeros behind it.
use mathlib.Core.Path.{ap}
use mathlib.Core.List.{List, ◌++◌}
use Prim.Native.Nat.{ℕ, ◌+◌, ◌-◌, ◌≤◌}
use native.Mathlib.Omega.{arith}
use lib.ListN.{length, take, drop, replicate, length-append, length-take, length-drop}
use lib.Seq.{drop_at, drop-drop}
use Rattle.std.proofs.lemmas.List.{drop-replicate}
use Rattle.lines.specs.Text.{Put, pasted}
use Rattle.program.specs.Filled.{Filled, given_size}

pub put_filled : {old text new : List ℕ} {at r : ℕ} → Filled at old → at + length text ≤ 400 → Put old at text new r → Filled r new
unfolding pasted
put_filled {old} {text} {at = at} h fits p =
    record {
      within = omega (arith, p.next);
      full = rw p.written (simp (length-append, length-take, length-drop) (omega (arith, h.within, h.full)));
      zeros =
          rw (
            p.next,
            p.written,
            drop_at (take at old ++ text) (drop (at + length text) old) (at + length text) (rw (length-append, given_size h)),
            ← drop-drop (length text) at old,
            h.zeros,
            drop-replicate {X = ℕ} (length text) (400 - at) 0,
          )
          (ap (λ (n : ℕ). replicate n 0) (omega arith));
    }
