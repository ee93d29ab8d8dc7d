-- Scanning one value of a line, digit by digit.
use mathlib.Core.Path.{◌≡◌, sym, ap, ◌∙◌}
use Rattle.std.specs.Prelude.{None}
use mathlib.Core.List.{List, ◌++◌, append_assoc}
use Prim.Native.Nat.{ℕ, ◌+◌, ◌*◌, ◌^◌, ◌≤◌, ◌<◌}
use native.Mathlib.Nat.{add-zero}
use native.Mathlib.Numerals.{add-one}
use native.Mathlib.Omega.{arith}
use lib.ListN.{get_or, drop}
use lib.Seq.{drop-cons, get_or-drop}
use Rattle.lines.specs.Text.{digit, decimal}
use Rattle.lines.specs.Scan.{Stops, Digit, Scanning}
use Rattle.lines.proofs.Decimals.{decimal_one, decimal_next}
use Rattle.lines.proofs.Spelling.{no_digit, leading_zero, too_large}

module _ (line : List ℕ) (from : ℕ) where
  -- the first digit, and one more
  pub digit_first : {d : ℕ} → Digit line from d → drop from line ≡ decimal d ++ drop (from + 1) line
  digit_first {d} h = rw (drop-cons line from 0 h.below, add-one, decimal_one d h.small, h.byte)

  pub digit_more : {at v d : ℕ} → Digit line at d → (v ≡ 0 → ⊥)
      → drop from line ≡ decimal v ++ drop at line → drop from line ≡ decimal (v * 10 + d) ++ drop (at + 1) line
  digit_more {at} {v} {d} h some e = rw (e, drop-cons line at 0 h.below, add-one, decimal_next v d (omega arith) h.small, h.byte, append_assoc)

  -- ---- the answers
  nothing : ((v : ℕ) (rest : List ℕ) → v < 2 ^ 32 → Stops rest → drop from line ≡ decimal v ++ rest → ⊥) → Scanning line from None
  nothing h = record { found = λ w n e. absurd (cc); missing = λ e. h }

  pub without_digit : Stops (drop from line) → Scanning line from None
  without_digit h = nothing (λ v rest _ _ e. no_digit (drop from line) h v rest e)

  pub with_leading_zero : {at v d : ℕ} → Digit line at d → v ≡ 0 → drop from line ≡ decimal v ++ drop at line → Scanning line from None
  with_leading_zero {at} {v} {d} h z e =
      let first : get_or (drop at line) 0 0 ≡ digit d = rw (get_or-drop, add-zero) h.byte in
      nothing
      (λ w rest _ st q.
      leading_zero (drop at line) (record { low = omega (arith, first); high = omega (arith, first, h.small) }) w rest st
      (ap (λ (k : ℕ). decimal k ++ drop at line) (sym z) ∙ sym e ∙ q))

  pub with_large_value : (v : ℕ) (rest : List ℕ) → 2 ^ 32 ≤ v → drop from line ≡ decimal v ++ rest → Scanning line from None
  with_large_value v rest big e = nothing (λ w s small st q. too_large v rest big w s small st (sym e ∙ q))
