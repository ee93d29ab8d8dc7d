-- What a codeword near a word tells of the table: no direction has too many lines that are not silent, and what is wrong at a position is guessed there.
use mathlib.Core.Path.{◌≡◌, sym, ap, ◌∙◌}
use mathlib.Core.List.{List}
use mathlib.Core.Logic.Dec
use Prim.Native.Nat.{ℕ, ◌+◌, ◌-◌, ◌*◌, ◌<◌, ◌≤◌}
use native.Mathlib.Decide.{ℕ_discrete}
use native.Mathlib.Omega.{arith}
use lib.Dec.{eqb}
use Rattle.parity.specs.Lists.{Begins}
use Rattle.parity.proofs.Sums.{count_not, count_cong}
use Rattle.gtb.specs.declared.Shape.{Shape}
use Rattle.gtb.specs.Shape.{Lawful, word_length}
use Rattle.gtb.specs.Square.{line_of, at, syndrome, Syndromes}
use Rattle.gtb.proofs.Rows.{syndrome_width}
use Rattle.distance.specs.Distance.{Near}
use Rattle.correction.specs.Error.{on_check, shows}
use Rattle.correction.specs.Steps.{check_in}
use Rattle.correction.specs.Guesses.{ManyNotSilent, guessed}
use Rattle.correction.proofs.Tables.{shown}
use Rattle.correction.proofs.Near.{error_of}
use Rattle.correction.proofs.Showing.{shows_cong, shows_le, first_shown}
use Rattle.correction.proofs.Guessing.{enough, lines_few, guess_is, guessed_lt}
use Rattle.nearest.specs.Steps.{Narrow}

module _ {s : Shape} {w v : List ℕ} {k c : ℕ} (law : Lawful s) (near : Near s k w v c) where
  -- none is wrong
  pub none_wrong : k ≡ 0 → (j : ℕ) → j < word_length s → error_of w v j ≡ 0
  none_wrong z j lj =
      (Dec.not-not (ℕ_discrete (error_of w v j) 0)).0
      (λ nz. absurd (omega (arith, enough law near j lj nz, shows_le s.n (on_check s (at w) j) (error_of w v j))))

  pub few_not_silent : {syn : List ℕ} → Syndromes s w syn → ManyNotSilent s syn k → ⊥
  unfolding shows
  few_not_silent {syn} y many =
      let t : ℕ = many.direction in
      omega (
        arith,
        many.many,
        lines_few law near t many.below,
        count_not s.q (λ L. eqb (syndrome s (at w) t L) 0),
        count_cong s.q (λ L. eqb (at syn (t * s.q + L)) 0) (λ L. eqb (syndrome s (at w) t L) 0) (λ L lL. ap (λ (x : ℕ). eqb x 0) (y.entry t L many.below lL)),
      )

module _ {s : Shape} {syn values : List ℕ} {j : ℕ} (law : Lawful s) (lj : j < word_length s) (g : Begins 8 s.n (check_in s syn j) values) where
  -- a guess is 0 or a check's value
  pub guess_narrow : (least : ℕ) {t : ℕ} → t < s.n → Narrow s syn (guessed s.n (at values) least t)
  guess_narrow least {t} lt = record {
    width = λ w hw y.
        guessed_lt s.n (at values) least t s.b
        (rw (g.entry t lt, shown s law w syn y j t lj lt) (syndrome_width s (at w) s.b t (line_of s t j) (λ i l. hw.width i)));
  }

  -- what is wrong at j is one of them
  pub guess_met : {w v : List ℕ} {k c : ℕ} → k < s.n → Syndromes s w syn → Near s k w v c → (error_of w v j ≡ 0 → ⊥)
      → (t : ℕ) × (t < s.n) × (guessed s.n (at values) (s.n + 1 - k) t ≡ error_of w v j)
  guess_met {w} {v} {k} {c} lk y near nz =
      let x : ℕ = error_of w v j in
      let same = shows_cong s.n (at values) (on_check s (at w) j) x (λ t lt. g.entry t lt ∙ shown s law w syn y j t lj lt) in
      let many : s.n + 1 - k ≤ shows s.n (at values) x = omega (arith, enough law near j lj nz) in
      let (t, lt, here, first) = first_shown s.n (at values) x (omega arith) in
      (t, lt, sym (guess_is s.n (at values) (s.n + 1 - k) t (λ z. nz (sym here ∙ z)) (rw here first) (rw here many)) ∙ here)
