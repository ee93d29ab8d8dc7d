-- How many checks of a digit are looked at is determined.
use mathlib.Core.Path.{◌≡◌, sym, ◌∙◌}
use mathlib.Core.List.{List}
use Prim.Native.Nat.{ℕ, ◌-◌, ◌<◌, ◌≤◌}
use native.Mathlib.Omega.{arith}
use native.Mathlib.Decide.{dec_lt}
use lib.Seq.{ext_get_or}
use Rattle.paper.specs.Paper as paper
use Rattle.gtb.proofs.Judging.{judged_once}

fewer : {s : paper.Shape} {w : List ℕ} {j a b : ℕ} → paper.Looked s w j a → paper.Looked s w j b → a < b → ⊥
fewer {s} {w} {j} {a} {b} x y l =
    let some = x.some.0 in
    let most : b ≤ s.n = y.some.1 in
    y.loud (a - 1) (omega arith) (x.silent (omega arith))

looked_same : {s : paper.Shape} {w : List ℕ} {j a b : ℕ} → paper.Looked s w j a → paper.Looked s w j b → a ≡ b
looked_same {a = a} {b = b} x y = elim (dec_lt a b) [ yes l ↦ absurd (fewer x y l) | no l ↦ elim (dec_lt b a) [ yes m ↦ absurd (fewer y x m) | no m ↦ omega arith ] ]

pub looking_once : (s : paper.Shape) (word list : List ℕ) {c d : List ℕ} {r t : ℕ} → paper.Looking s word list c r → paper.Looking s word list d t → (c ≡ d) × (r ≡ t)
looking_once s word list {c} {d} {r} {t} =
    judged_once (paper.look_tests s word list) (λ k. (r ≡ paper.refusal k) × (c ≡ list)) (λ k. (t ≡ paper.refusal k) × (d ≡ list)) _ _ ((c ≡ d) × (r ≡ t))
    (λ k x y. (x.1 ∙ sym y.1, x.0 ∙ sym y.0))
    (λ _ x y. (ext_get_or 0 c d (x.1 ∙ sym y.1) (λ j l. let lj : j < paper.N s = rw x.1 at l in looked_same (x.2 j lj) (y.2 j lj)), x.0 ∙ sym y.0))
