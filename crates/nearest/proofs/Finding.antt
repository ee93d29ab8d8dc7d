-- One number of wrong symbols after the other: the first that is found is theirs.
use Rattle.std.specs.Prelude.{Some, None}
use mathlib.Core.Path.{◌≡◌, refl, ◌∙◌}
use mathlib.Core.Bool.{true, false}
use mathlib.Core.List.{List}
use mathlib.Core.Logic.{⊎_elim}
use Prim.Native.Nat.{ℕ, ◌+◌, ◌-◌, ◌<◌, ◌≤◌}
use native.Mathlib.Decide.{dec_lt}
use native.Mathlib.Omega.{arith}
use Rattle.parity.proofs.Tests.{either}
use Rattle.gtb.specs.declared.Shape.{Shape}
use Rattle.gtb.specs.Shape.{Lawful}
use Rattle.gtb.specs.Square.{Syndromes}
use Rattle.gtb.proofs.Bounds.{bounds}
use Rattle.distance.specs.Distance.{Near}
use Rattle.distance.proofs.Near.{near_within}
use Rattle.correction.specs.Reading.{accepted_by}
use Rattle.correction.specs.Steps.{Found}
use Rattle.correction.proofs.Readings.{found_none, found_few}
use Rattle.nearest.specs.Nearest.{nearest}
use Rattle.nearest.specs.Steps.{Restored, Far}
use Rattle.nearest.proofs.Meaning.{nearest_meant}

-- no codeword differs from a word with these syndromes at fewer than k positions
pub record Beyond (s : Shape) (syn : List ℕ) (k : ℕ) : Type 0 where
  pub beyond : (w v : List ℕ) (l c : ℕ) → Syndromes s w syn → Near s l w v c → k ≤ c

module _ {s : Shape} {k : ℕ} {syn now : List ℕ} (same : now ≡ syn) where
  pub beyond_more : Far s k now → Beyond s syn k → Beyond s syn (k + 1)
  beyond_more far b = record {
    beyond = λ w v m c y near.
        elim (dec_lt k c) [
          | yes d ↦ omega arith
          | no d ↦ absurd (far w v c (rw same y) (near_within near (omega arith)))
        ];
  }

  pub found_nearest : {places errors : List ℕ} {r : ℕ} → Restored s k now places errors r → Lawful s → k < s.n → Beyond s syn k → Found nearest s true syn places errors (Some r)
  found_nearest {places} {errors} {r} h law lk b =
      let given : Restored s k syn places errors r = rw same at h in
      found_few given.within
      (λ w hw y.
      let a = given.restores w hw y in
      let g = nearest_meant.gives s law refl w _ a.changed (near_within a.near (omega (arith, given.few, a.near.few))) in
      record {
        error = a.error;
        listed = a.listed;
        accepted = g.accepted;
        changed = g.changed ∙ omega (arith, given.few, a.near.few, b.beyond w _ r a.changed y a.near);
        word = g.word;
      })

pub found_far : {s : Shape} {syn places errors : List ℕ} → Lawful s → Beyond s syn s.n → Found nearest s true syn places errors None
found_far {s} {syn} law b =
    found_none
    (λ every w hw y.
    ⊎_elim
    (λ (ok : accepted_by nearest s w ≡ true).
    let near = nearest_meant.shows s law refl w hw ok in
    absurd (omega (arith, near.few, b.beyond w _ (s.n - 1) _ y near, (bounds s law).n2)))
    (λ (h : accepted_by nearest s w ≡ false). h)
    (either (accepted_by nearest s w)))
