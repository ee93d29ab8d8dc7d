-- The refusals that the page reader has.
use mathlib.Core.Path.{◌≡◌}
use mathlib.Core.Bool.{Bool, false}
use mathlib.Core.List.{List}
use Prim.Native.Nat.{ℕ, ◌+◌}
use native.Mathlib.Omega.{arith}
use lib.Dec.{eqb, leb, ltb}
use lib.ListN.{length, get_or, take, drop}
use Rattle.gtb.specs.declared.Shape.{Shape}
use Rattle.gtb.specs.declared.Refusal.{Refusal}
use Rattle.gtb.specs.Shape.{lawful, shape_refusal, info_length}
use Rattle.gtb.specs.Square.{narrow}
use Rattle.gtb.specs.Answer.{unless}
use Rattle.gtb.proofs.Answers.{unless_never, Foreign}
use Rattle.std.specs.Prelude.{Result, Err}
use Rattle.page.specs.Page.{functions, zeros, most, page_of}

next : (t : Bool) (e e' : Refusal) (r : Result (ℕ × ℕ) Refusal) → (t ≡ false → e ≡ e' → ⊥) → (r ≡ Err e' → ⊥) → unless t (Err e) r ≡ Err e' → ⊥
next t e e' r ne = unless_never t (Err e) r (λ f h. ne f (cc))

-- it has no other
pub page_never : (s : Shape) (symbols : List ℕ) (e : Refusal) → Foreign s e → page_of s symbols ≡ Err e → ⊥
unfolding page_of
page_never s symbols e f =
    next (lawful s) (shape_refusal s) e _ f.shape
    (next (eqb (length symbols) (info_length s)) Refusal.Length e _ (λ _. f.length)
    (next (narrow s.b symbols) Refusal.Width e _ (λ _. f.width)
    (next (ltb (get_or symbols 0 0) 1024) Refusal.Page e _ (λ _. f.page)
    (next (leb (get_or symbols 1 0) (most s)) Refusal.Count e _ (λ _. f.count)
    (next (functions (take (get_or symbols 1 0) (drop 2 symbols))) Refusal.Function e _ (λ _. f.function)
    (next (zeros (drop (2 + get_or symbols 1 0) symbols)) Refusal.Tail e _ (λ _. f.tail) (λ r. let z : ◌≡◌ {A = ℕ} 0 1 = cc in omega arith)))))))
