-- Restoring with dead cells and other damage does what the paper asks.
use mathlib.Core.Path.{◌≡◌, sym, ◌∙◌}
use mathlib.Core.List.{List}
use mathlib.Core.Logic.{inl, inr, ⊎_elim}
use Prim.Native.Nat.{ℕ, ◌+◌, ◌^◌}
use Rattle.paper.specs.Paper as paper
use Rattle.paper.specs.Writing.{scratch_left}
use Rattle.gtb.specs.declared.Shape.{Shape}
use Rattle.gtb.specs.declared.Refusal.{Refusal}
use Rattle.std.specs.Prelude.{Result, Err}
use Rattle.gtb.specs.Shape.{of}
use Rattle.gtb.specs.Answer.{refusal_number, answer_number}
use Rattle.gtb.proofs.Stored.{codeword_stored, stored_codeword}
use Rattle.gtb.proofs.Scratches.{scratch_same}
use Rattle.distance.proofs.Within.{changed_same}
use Rattle.erasure.specs.Fill.{is_listed, fill_status}
use Rattle.erasure.proofs.Paper.{place_tests}
use Rattle.restore.specs.Restore.{reach, strays, Reaches, Recovering}

module _ (s : Shape) {word places : List ℕ} where
  reached : {v : List ℕ} → Reaches s word places v → paper.Reached (of s) word places v
  unfolding reach strays is_listed
  reached x = record { stored = codeword_stored s x.codeword; few = x.few }

  reaches : {v : List ℕ} → paper.Reached (of s) word places v → Reaches s word places v
  unfolding reach strays is_listed
  reaches x = record { codeword = stored_codeword s x.stored; few = x.few }

  module _ {scratch word' scratch' : List ℕ} {r : Result ℕ Refusal} (f : Recovering s word places scratch word' scratch' r) where
    turned : (e : Refusal) → fill_status s word places scratch ≡ Err e
        → (answer_number r ≡ 2 ^ 31 + refusal_number e) × (word' ≡ word) × (scratch' ≡ scratch_left (refusal_number e) scratch)
    turned e h = let (answer, number, left, used) = f.tested e h in (number, left, used ∙ scratch_same s e scratch)

    pub restoring : paper.Restoring (of s) word places scratch word' scratch' (answer_number r)
    unfolding scratch_left
    restoring =
        place_tests s word places scratch (λ k. (answer_number r ≡ paper.refusal k) × (word' ≡ word) × (scratch' ≡ scratch_left k scratch)) _ turned
        (λ h.
        let (decision, used) = f.decided h in
        ⊎_elim
        (λ one. inr (
          (λ none. none word' (reached one.reaches)),
          inr
              ((λ two. let (v, w, a, b, ne) = two in ne (one.only v (reaches a) ∙ sym (one.only w (reaches b)))), (reached one.reaches, one.number ∙ changed_same s word word', used)),
        ))
        (⊎_elim (λ none. inl ((λ v a. none.none v (reaches a)), (none.number, none.left, used)))
        (λ several. inr (
          (λ none. none several.one (reached several.reaches)),
          inl ((several.one, several.another, reached several.reaches, reached several.reaches_too, several.different), (several.number, several.left, used)),
        )))
        decision)

    pub restoring_asked : Recovering s word places scratch word' scratch' r × paper.Restoring (of s) word places scratch word' scratch' (answer_number r)
    restoring_asked = (f, restoring)
