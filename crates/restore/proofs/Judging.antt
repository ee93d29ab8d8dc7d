-- What is found is an answer: few places leave no choice, and with many nothing beside them is in reach.
use mathlib.Core.Path.{◌≡◌, refl, sym, ap, ◌∙◌, subst}
use mathlib.Core.Bool.{Bool, ◌||◌}
use mathlib.Core.List.{List}
use mathlib.Core.Logic.{inl, inr}
use Prim.Native.Nat.{ℕ, ◌+◌, ◌*◌, ◌<◌, ◌≤◌}
use native.Mathlib.Omega.{arith}
use lib.ListN.{length}
use Rattle.parity.proofs.Tests.{or_no}
use Rattle.parity.proofs.Sums.{count_or}
use Rattle.gtb.specs.declared.Shape.{Shape}
use Rattle.gtb.specs.declared.Refusal.{Refusal}
use Rattle.gtb.specs.Shape.{Lawful, word_length}
use Rattle.gtb.proofs.Answers.{other_refusal}
use Rattle.distance.specs.Distance.{minimum_distance}
use Rattle.distance.proofs.Distance.{few_unambiguous}
use Rattle.std.specs.Prelude.{Option, Some, None, Result, Ok, Err}
use Rattle.std.specs.Option.{ok_or}
use Rattle.gtb.specs.Answer.{answer_number}
use Rattle.erasure.specs.Fill.{is_listed, Agrees, Decision}
use Rattle.erasure.specs.Steps.{Places}
use Rattle.erasure.proofs.Lists.{listed_count}
use Rattle.erasure.proofs.Filling.{never_both, refused_same}
use Rattle.restore.specs.Restore.{reach, strays, Close, Reaches, Judgement}
use Rattle.restore.specs.Steps.{Sought}
use Rattle.restore.proofs.Straying.{wrong, wrong_not, close_agrees, agrees_close}

-- ---- how far the list reaches
pub reach_none : (s : Shape) (f : ℕ) → 2 * s.n ≤ f → reach s f ≡ 0
unfolding reach
reach_none s f l = omega arith

pub reach_half : (s : Shape) (f : ℕ) → f < 2 * s.n → f + 2 * reach s f < 2 * s.n
unfolding reach
reach_half s f l = omega arith

-- ---- few places
-- two close codewords differ at no more positions than are listed or wrong in one of them
pub close_unique : (s : Shape) → Lawful s → {k : ℕ} {word places v u : List ℕ} → Places (word_length s) places → length places + 2 * k < 2 * s.n
    → Close s k word places v → Close s k word places u → v ≡ u
unfolding strays minimum_distance
close_unique s law {k} {word} {places} {v} {u} h few a b =
    (few_unambiguous s law marked
    (omega (
      arith,
      listed_count h,
      count_or (word_length s) (is_listed places) (λ j. wrong word places v j || wrong word places u j),
      count_or (word_length s) (wrong word places v) (wrong word places u),
      a.few,
      b.few,
    ))
    ).one v u a.codeword b.codeword
    (λ j l off.
    let (un, both) = or_no (is_listed places j) (wrong word places v j || wrong word places u j) off in
    let (x, y) = or_no (wrong word places v j) (wrong word places u j) both in
    wrong_not word places v j x un ∙ sym (wrong_not word places u j y un))
  where
    marked : ℕ → Bool
    marked j = is_listed places j || (wrong word places v j || wrong word places u j)

pub sought_judged : {s : Shape} {word places word' : List ℕ} (r : Option ℕ) → Lawful s → Places (word_length s) places → length places < 2 * s.n
    → Sought s (reach s (length places)) word places word' r (λ v. ⊥) → Judgement s word places word' (ok_or r Refusal.Far)
sought_judged {s} {places = places} (Some c) law list few h =
    inl
    (record {
      reaches = h.close c refl;
      only = λ v a. close_unique s law list (reach_half s (length places) few) a (h.close c refl);
      answer = ap Ok (h.number c refl);
      number = h.number c refl;
    })
sought_judged None law list few h = inr (inl (record { none = h.like refl; answer = refl; number = refl; left = h.left refl }))

-- ---- many places
module _ {s : Shape} {word places : List ℕ} (many : 2 * s.n ≤ length places) where
  pub reaches_agrees : {v : List ℕ} → Reaches s word places v → Agrees s word places v
  reaches_agrees {v} a = close_agrees (subst (λ (k : ℕ). Close s k word places v) (reach_none s (length places) many) a)

  module _ {word' : List ℕ} {r : Result ℕ Refusal} where
    pub judged_one : {c : ℕ} → Decision s word places word' r → r ≡ Ok c → Judgement s word places word' (Ok c)
    judged_one (inl a) h =
        inl (record { reaches = agrees_close _ a.agrees; only = λ v b. a.only v (reaches_agrees b); answer = sym h ∙ a.answer; number = ap answer_number (sym h ∙ a.answer) })
    judged_one (inr (inl a)) h = absurd (never_both _ _ r h a.answer)
    judged_one (inr (inr a)) h = absurd (never_both _ _ r h a.answer)

    pub judged_several : Decision s word places word' r → r ≡ Err Refusal.Ambiguous → Judgement s word places word' (Err Refusal.Ambiguous)
    judged_several (inl a) h = absurd (never_both _ _ r a.answer h)
    judged_several (inr (inl a)) h = absurd (other_refusal Refusal.Unfillable Refusal.Ambiguous refl (refused_same _ _ r a.answer h))
    judged_several (inr (inr a)) h =
        inr
        (inr
        (record {
          one = a.one;
          another = a.another;
          reaches = agrees_close _ a.agrees;
          reaches_too = agrees_close _ a.agrees_too;
          different = a.different;
          answer = refl;
          number = refl;
          left = a.left;
        }))

    pub judged_none : {e : Refusal} → Decision s word places word' r → r ≡ Err e → (e ≡ Refusal.Ambiguous → ⊥) → Judgement s word places word' (Err Refusal.Far)
    judged_none (inl a) h other = absurd (never_both _ _ r a.answer h)
    judged_none (inr (inl a)) h other = inr (inl (record { none = λ v b. a.none v (reaches_agrees b); answer = refl; number = refl; left = a.left }))
    judged_none (inr (inr a)) h other = absurd (other (refused_same _ _ r h a.answer))
