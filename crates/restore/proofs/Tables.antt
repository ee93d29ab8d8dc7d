-- The two tables: what a step writes there, and what they hold then.
use mathlib.Core.Path.{◌≡◌, refl, sym, ap, ap₂, ◌∙◌}
use mathlib.Core.Bool.{Bool, ◌||◌}
use mathlib.Core.List.{List, []}
use mathlib.Core.Logic.{inl, inr, ⊎_elim}
use Prim.Native.Nat.{ℕ, ◌+◌, ◌*◌, ◌/◌, ◌%◌, ◌<◌}
use native.Mathlib.Decide.{ℕ_discrete}
use native.Mathlib.Omega.{arith}
use lib.Arith.{digits_div, digits_mod}
use lib.ListN.{length, set, length-set}
use lib.Seq.{get_or-set_same, get_or-set_other}
use borrow.Author.Count.{below_more}
use borrow.Author.Tests.{ne_eqb}
use Rattle.parity.specs.Count.{any}
use Rattle.gtb.specs.declared.Shape.{Shape}
use Rattle.gtb.specs.Shape.{Lawful, word_length}
use Rattle.gtb.specs.Square.{line_of, at, Syndromes}
use Rattle.gtb.proofs.Lines.{line_lt}
use Rattle.correction.specs.Error.{check_of}
use Rattle.erasure.specs.Fill.{is_listed}
use Rattle.restore.specs.declared.marks.Marks.{Marks}
use Rattle.restore.specs.Steps.{Put, Hidden, Hides}
use Rattle.restore.proofs.Lists.{listed_more}

pub put_more : {s : Shape} {j x m : ℕ} {old new : List ℕ} (check : ℕ) → Put s j x m old new → check ≡ check_of s j m → check < length new → Put s j x (m + 1) old (set new check x)
put_more {s} {j} {x} {m} {old} {new} check h is inside = record {
  size = length-set new check x ∙ h.size;
  on = below_more (λ t. at (set new check x) (check_of s j t) ≡ x) m (λ t l. once (check_of s j t) (h.on t l)) (rw (sym is) (get_or-set_same new check x 0 inside));
  off = λ e free. get_or-set_other new check e x 0 (λ same. free m (omega arith) (sym is ∙ sym same)) ∙ h.off e (λ t l. free t (omega arith));
}
  where
    once : (e : ℕ) → at new e ≡ x → at (set new check x) e ≡ x
    once e was =
        elim (ℕ_discrete e check) [
          | yes same ↦ ap (at (set new check x)) same ∙ get_or-set_same new check x 0 inside
          | no other ↦ get_or-set_other new check e x 0 other ∙ was
        ]

-- ---- the tables of a list with one place more
module _ {s : Shape} {j : ℕ} {old new : Marks} (law : Lawful s) (lj : j < word_length s)
    (a : Put s j 0 s.n old.seen new.seen) (b : Put s j 1 s.n old.touched new.touched) where
  -- a check that is not on j
  elsewhere : (t L : ℕ) → t < s.n → L < s.q → (line_of s t j ≡ L → ⊥) → (u : ℕ) → u < s.n → check_of s j u ≡ t * s.q + L → ⊥
  elsewhere t L lt lL ne u lu e =
      let ll = line_lt s law u j lu lj in
      let same : u ≡ t = sym (digits_div u ll) ∙ ap (λ (x : ℕ). x / s.q) e ∙ digits_div t lL in
      ne (ap (λ (x : ℕ). line_of s x j) (sym same) ∙ sym (digits_mod u ll) ∙ ap (λ (x : ℕ). x % s.q) e ∙ digits_mod t lL)

  pub hides : Hides s j old new
  hides word places h = record {
    entry = λ t L lt lL.
        elim (ℕ_discrete (line_of s t j) L) [
          | yes e ↦ inl (ap (λ (l : ℕ). at new.seen (t * s.q + l)) (sym e) ∙ a.on t lt, ap (λ (l : ℕ). at new.touched (t * s.q + l)) (sym e) ∙ b.on t lt)
          | no ne ↦
              let same = a.off (t * s.q + L) (elsewhere t L lt lL ne) in
              ⊎_elim (λ both. inl (same ∙ both.0, b.off (t * s.q + L) (elsewhere t L lt lL ne) ∙ both.1))
              (λ free. inr (same ∙ free.0, λ p e. listed_more places j p ∙ ap₂ (λ (x y : Bool). x || y) (free.1 p e) (ne_eqb j p (λ d. ne (ap (line_of s t) d ∙ e)))))
              (h.entry t L lt lL)
        ];
  }

-- none is listed
pub hidden_none : {s : Shape} {word : List ℕ} {marks : Marks} → Syndromes s word marks.seen → Hidden s word [] marks
unfolding is_listed any
hidden_none y = record { entry = λ t L lt lL. inr (y.entry t L lt lL, λ j e. refl) }
