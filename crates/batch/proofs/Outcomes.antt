-- The list of outcomes: three values an answer, zeros past them.
use mathlib.Core.Path.{◌≡◌, refl, sym, ap, ap₂, ◌∙◌}
use mathlib.Core.List.{List, [], ◌∷◌, ◌++◌, append-nil, append_assoc}
use Prim.Native.Nat.{ℕ, suc, ◌-◌, ◌*◌, ◌<◌, ◌≤◌}
use native.Mathlib.Omega.{arith}
use lib.ListN.{length, drop, replicate, length-append, length-replicate}
use lib.Seq.{take_at, drop_at}
use borrow.Rule.Slice.PartMut.{put_mid}
use Rattle.session.specs.declared.Outcome.{Outcome}
use Rattle.session.specs.Arrival.{outcome_values}
use Rattle.session.proofs.Joins.{outcome_size}
use Rattle.batch.specs.Batch.{all_values, values_of}

pub all_values_size : (answers : List Outcome) → length (all_values answers) ≡ 3 * length answers
unfolding all_values
all_values_size [] = refl
all_values_size (answer ∷ rest) = omega (arith, length-append (outcome_values answer) (all_values rest), outcome_size answer, all_values_size rest)

pub all_values_join : (answers others : List Outcome) → all_values (answers ++ others) ≡ all_values answers ++ all_values others
unfolding all_values
all_values_join [] others = refl
all_values_join (first ∷ rest) others =
    ap (λ (xs : List ℕ). outcome_values first ++ xs) (all_values_join rest others) ∙ sym (append_assoc (outcome_values first) (all_values rest) (all_values others))

all_values_more : (answers : List Outcome) (answer : Outcome) → all_values (answers ++ (answer ∷ [])) ≡ all_values answers ++ outcome_values answer
unfolding all_values
all_values_more answers answer = all_values_join answers (answer ∷ []) ∙ ap (λ (xs : List ℕ). all_values answers ++ xs) (append-nil (outcome_values answer))

-- 192 values, whatever the answers to at most 64 words
pub values_size : (answers : List Outcome) → length answers ≤ 64 → length (values_of answers) ≡ 192
unfolding values_of
values_size answers few =
    omega (
      arith,
      length-append (all_values answers) (replicate (192 - 3 * length answers) 0),
      all_values_size answers,
      length-replicate {A = ℕ} (192 - 3 * length answers) 0,
    )

-- before the first word
pub values_none : (outcomes : List ℕ) {outcomes' : List ℕ} → length outcomes ≡ 192 → outcomes' ≡ replicate (length outcomes) 0 → outcomes' ≡ values_of []
unfolding values_of all_values
values_none outcomes size cleared = cleared ∙ ap (λ (n : ℕ). replicate n 0) size

-- one answer more
pub values_more : (answers : List Outcome) (answer : Outcome) → length answers < 64
    → put_mid (3 * length answers) 3 (values_of answers) (outcome_values answer) ≡ values_of (answers ++ (answer ∷ []))
unfolding values_of
values_more answers answer few =
    let n = length answers in
    let zeros : List ℕ = replicate (192 - 3 * n) 0 in
    let split : 192 - 3 * n ≡ suc (suc (suc (189 - 3 * n))) = omega arith in
    let left : drop 3 zeros ≡ replicate (189 - 3 * n) 0 = ap (λ (m : ℕ). drop 3 (replicate m 0)) split in
    let size : 189 - 3 * n ≡ 192 - 3 * length (answers ++ (answer ∷ [])) = omega (arith, length-append answers (answer ∷ [])) in
    ap₂ (λ (xs ys : List ℕ). xs ++ (outcome_values answer ++ drop 3 ys)) (take_at (all_values answers) zeros (3 * n) (all_values_size answers)) (drop_at (all_values answers) zeros (3 * n) (all_values_size answers))
    ∙ ap (λ (ys : List ℕ). all_values answers ++ (outcome_values answer ++ ys)) left
    ∙ sym (append_assoc (all_values answers) (outcome_values answer) (replicate (189 - 3 * n) 0))
    ∙ ap₂ (λ (xs : List ℕ) (m : ℕ). xs ++ replicate m 0) (sym (all_values_more answers answer)) size
