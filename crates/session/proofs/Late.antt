-- A refusal past tests 1, 18, 11 and 2 leaves zeros in the scratch, and page reading has no other past these tests.
use mathlib.Core.Path.{◌≡◌, refl}
use mathlib.Core.Bool.{Bool, false}
use mathlib.Core.List.{List}
use Prim.Native.Nat.{ℕ, ◌+◌}
use native.Mathlib.Omega.{arith}
use lib.Dec.{leb, ltb}
use lib.ListN.{length, take, drop, replicate}
use borrow.Author.Tests.{eq-eqb}
use Rattle.gtb.specs.declared.Shape.{Shape}
use Rattle.gtb.specs.declared.Refusal.{Refusal}
use Rattle.gtb.specs.Shape.{Lawful, info_length}
use Rattle.gtb.specs.Square.{at, narrow}
use Rattle.gtb.specs.Answer.{is_early, unless}
use Rattle.gtb.specs.Answer as answer
use Rattle.gtb.proofs.Answers.{late_next}
use Rattle.std.specs.Prelude.{Result, Err}
use Rattle.page.specs.Page.{page_of}
use Rattle.page.specs.Page as read

abbrev pub Late : Refusal → Type 0
Late e = is_early e ≡ false

pub late_zeros : (e : Refusal) → Late e → (x : List ℕ) → answer.scratch_after e x ≡ replicate (length x) 0
unfolding answer.scratch_after
late_zeros e l x = rw l

-- a test of the page reader that refuses late, and what follows it
page_late : (t : Bool) (e : Refusal) (next : Result (ℕ × ℕ) Refusal) → Late e → ((e' : Refusal) → next ≡ Err e' → Late e')
    → (e' : Refusal) → unless t (Err e) next ≡ Err e' → Late e'
page_late = late_next Err (λ e e' h. cc)

fault_late : (s : Shape) (symbols : List ℕ) → Lawful s → length symbols ≡ info_length s → (e : Refusal) → page_of s symbols ≡ Err e → Late e
unfolding page_of
fault_late s symbols law size e h =
    page_late (narrow s.b symbols) Refusal.Width _ refl
    (page_late (ltb (at symbols 0) 1024) Refusal.Page _ refl
    (page_late (leb (at symbols 1) (read.most s)) Refusal.Count _ refl
    (page_late (read.functions (take (at symbols 1) (drop 2 symbols))) Refusal.Function _ refl
    (page_late (read.zeros (drop (2 + at symbols 1) symbols)) Refusal.Tail _ refl
    (λ e' r. let z : ◌≡◌ {A = ℕ} 0 1 = cc in absurd (omega arith))))))
    e (rw (law, eq-eqb (length symbols) (info_length s) size) at h)

pub page_zeros : (s : Shape) (symbols : List ℕ) → Lawful s → length symbols ≡ info_length s → (e : Refusal) → page_of s symbols ≡ Err e
    → (x : List ℕ) → answer.scratch_after e x ≡ replicate (length x) 0
page_zeros s symbols law size e h = late_zeros e (fault_late s symbols law size e h)
