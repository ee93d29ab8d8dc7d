-- What the documents say follows: how far stored words are apart, when 13 and 14 never come, and which proposals get yes (N2, N10, N14).
use mathlib.Core.Path.{◌≡◌, refl, sym, ◌∙◌}
use mathlib.Core.List.{List}
use mathlib.Core.Logic.{inl, inr, ⊎_elim, ◌≢◌}
use Prim.Native.Nat.{ℕ, ◌+◌, ◌*◌, ◌^◌, ◌<◌, ◌≤◌}
use native.Mathlib.Omega.{arith}
use lib.ListN.{length}
use Rattle.parity.specs.Count.{count}
use Rattle.parity.proofs.Sums.{count_bound}
use Rattle.paper.specs.Paper as paper
use Rattle.paper.specs.Square.{changed}
use Rattle.gtb.specs.Shape.{Lawful, word_length}
use Rattle.gtb.proofs.Sizes.{sizes}
use Rattle.distance.specs.Distance.{differences, minimum_distance}
use Rattle.distance.proofs.Distance.{distance, few_unambiguous}
use Rattle.erasure.specs.Fill.{is_listed}
use Rattle.erasure.proofs.Lists.{rising_places, listed_count}
use Rattle.erasure.proofs.Examples.{zeros, zeros_codeword}
use Rattle.gtb.proofs.Judging.{passes, judged_elim}
use Rattle.gtb.proofs.Conditions.{to, lawful_of}
use Rattle.gtb.proofs.Stored.{codeword_stored, stored_codeword}
use Rattle.distance.proofs.Within.{changed_same}
use Rattle.erasure.proofs.Paper.{decides_places, paper_agrees}

module _ (s : paper.Shape) (listed : ¬ (¬ paper.InLists s)) (right : ¬ paper.WrongSlopes s) where
  law : Lawful (to s)
  law = lawful_of (to s) listed right

  -- different stored words differ in at least 2 n digits: four with two directions, six with three
  pub stored_apart : {v w : List ℕ} → paper.Stored s v → paper.Stored s w → v ≢ w → 2 * s.n ≤ paper.changed s w v
  unfolding minimum_distance
  stored_apart {v} {w} hv hw differ =
      let far : 2 * s.n ≤ differences (to s) v w = (distance (to s) law).least v w (stored_codeword (to s) hv) (stored_codeword (to s) hw) differ in
      omega (arith, changed_same (to s) w v)

  -- so fewer places than that leave no choice
  one_agrees : (word places : List ℕ) → length places < 2 * s.n → ¬ paper.WrongPlaces s places → {v w : List ℕ} → paper.Agrees s word places v → paper.Agrees s word places w → v ≡ w
  unfolding minimum_distance
  one_agrees word places few up {v} {w} a b =
      let p = rising_places (passes (decides_places (to s) places) up) in
      let x = paper_agrees (to s) a in
      let y = paper_agrees (to s) b in
      let fewer : count (word_length (to s)) (is_listed places) < 2 * s.n = omega (arith, listed_count p) in
      (few_unambiguous (to s) law (is_listed places) fewer).one v w x.codeword y.codeword (λ j l out. x.same j l out ∙ sym (y.same j l out))

most_changed : (s : paper.Shape) (word w : List ℕ) → paper.changed s word w ≤ paper.N s
unfolding changed
most_changed s word w = count_bound (paper.N s) _

-- the number of digits changed is no refusal
no_refusal : (s : paper.Shape) → ¬ (¬ paper.InLists s) → ¬ paper.WrongSlopes s → (word w : List ℕ) {r : ℕ} (k : ℕ) → r ≡ paper.changed s word w → r ≡ paper.refusal k → ⊥
no_refusal s listed right word w {r} k h e =
    let most : paper.changed s word w ≤ word_length (to s) = most_changed s word w in
    let all = (sizes (to s) (lawful_of (to s) listed right)).word in
    let big : r ≡ 2 ^ 31 + k = e in
    omega arith

other : {r : ℕ} (k m : ℕ) → (k ≡ m → ⊥) → r ≡ paper.refusal k → r ≡ paper.refusal m → ⊥
other k m differ h e = let a : _ ≡ 2 ^ 31 + k = h in let b : _ ≡ 2 ^ 31 + m = e in differ (omega arith)

-- with fewer than 2 n places 14 never comes: n places are (N2), and three or five (N14)
pub never_14 : (s : paper.Shape) (word places scratch : List ℕ) {w x : List ℕ} {r : ℕ} → length places < 2 * s.n → paper.Filling s word places scratch w x r → r ≢ paper.refusal 14
never_14 s word places scratch few (inl (c, p)) e = other 1 14 (λ z. omega arith) p.0 e
never_14 s word places scratch few (inr (listed, inl (c, p))) e = other 18 14 (λ z. omega arith) p.0 e
never_14 s word places scratch few (inr (listed, inr (right, inl (c, p)))) e = other 2 14 (λ z. omega arith) p.0 e
never_14 s word places scratch few (inr (listed, inr (right, inr (size, inl (c, p))))) e = other 3 14 (λ z. omega arith) p.0 e
never_14 s word places scratch few (inr (listed, inr (right, inr (size, inr (slim, inl (c, p)))))) e = other 12 14 (λ z. omega arith) p.0 e
never_14 s word places scratch few (inr (listed, inr (right, inr (size, inr (slim, inr (up, inl (c, p))))))) e = other 13 14 (λ z. omega arith) p.0 e
never_14 s word places scratch few (inr (listed, inr (right, inr (size, inr (slim, inr (up, inr (some, inl (two, p)))))))) e =
    let (v, w, a, b, differ) = two in
    differ (one_agrees s listed right word places few up a b)
never_14 s word places scratch {w} few (inr (listed, inr (right, inr (size, inr (slim, inr (up, inr (some, inr (single, p)))))))) e = no_refusal s listed right word w 14 p.1 e

-- with every place listed 13 never comes: the zero word agrees
pub never_13 : (s : paper.Shape) (word places scratch : List ℕ) {w x : List ℕ} {r : ℕ} → ((j : ℕ) → j < paper.N s → paper.◌∈◌ j places) → paper.Filling s word places scratch w x r → r ≢ paper.refusal 13
never_13 s word places scratch every (inl (c, p)) e = other 1 13 (λ z. omega arith) p.0 e
never_13 s word places scratch every (inr (listed, inl (c, p))) e = other 18 13 (λ z. omega arith) p.0 e
never_13 s word places scratch every (inr (listed, inr (right, inl (c, p)))) e = other 2 13 (λ z. omega arith) p.0 e
never_13 s word places scratch every (inr (listed, inr (right, inr (size, inl (c, p))))) e = other 3 13 (λ z. omega arith) p.0 e
never_13 s word places scratch every (inr (listed, inr (right, inr (size, inr (slim, inl (c, p)))))) e = other 12 13 (λ z. omega arith) p.0 e
never_13 s word places scratch every (inr (listed, inr (right, inr (size, inr (slim, inr (up, inl (none, p))))))) e =
    none (zeros (to s)) (record { stored = codeword_stored (to s) (zeros_codeword (to s)); same = λ j l out. absurd (out (every j l)) })
never_13 s word places scratch every (inr (listed, inr (right, inr (size, inr (slim, inr (up, inr (some, inl (two, p)))))))) e = other 14 13 (λ z. omega arith) p.0 e
never_13 s word places scratch {w} every (inr (listed, inr (right, inr (size, inr (slim, inr (up, inr (some, inr (single, p)))))))) e = no_refusal s listed right word w 13 p.1 e

-- ---- yes exactly for the word that clean reading gives (N10)
module _ (s : paper.Shape) (word proposal : List ℕ) where
  pub yes_read : paper.Checking s word proposal 1 → paper.Reading s 0 word proposal (paper.changed s word proposal)
  yes_read x =
      judged_elim (paper.check_tests s word proposal) (λ k. 1 ≡ paper.refusal k) _ (paper.Reading s 0 word proposal (paper.changed s word proposal))
      (λ k h. absurd (let big : 1 ≡ 2 ^ 31 + k = h in omega arith))
      (λ passed y.
      let (listed, (right, (size, (slim, others)))) = passed in
      ⊎_elim
      (λ yes. inr (listed, inr (right, inr ((λ two. let z : 0 ≡ 2 = two.0 in omega arith), inr ((λ long. size (inl long)), inr ((λ wide. slim (inl wide)), inr ((λ none. none proposal yes.0), (yes.0, refl))))))))
      (λ none. absurd (let z : 1 ≡ 0 = none.1 in omega arith))
      y)
      x

  pub read_yes : {r : ℕ} → r < 2 ^ 31 → paper.Reading s 0 word proposal r → paper.Checking s word proposal 1
  read_yes {r} small x =
      judged_elim (paper.read_tests s 0 word) (λ k. (r ≡ paper.refusal k) × (proposal ≡ word)) _ (paper.Checking s word proposal 1)
      (λ k h. absurd (let big : r ≡ 2 ^ 31 + k = h.0 in omega arith))
      (λ passed y.
      let (listed, (right, (enough, (size, (slim, others))))) = passed in
      let stored = y.0.damaged.stored in
      inr (
        listed,
        inr (
          right,
          inr (
            ⊎_elim size (λ short. short stored.digits.number),
            inr (
              ⊎_elim slim (λ wide. let (j, l, large) = wide in let low = stored.digits.below j (rw stored.digits.number at l) in omega arith),
              inl (y.0, refl),
            ),
          ),
        ),
      ))
      x
