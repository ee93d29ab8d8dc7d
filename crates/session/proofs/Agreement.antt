-- The ways of reading agree: a word that two of them accept they restore to the same word, with the same number.
use mathlib.Core.Path.{◌≡◌, refl, sym, ◌∙◌}
use mathlib.Core.Bool.{true}
use mathlib.Core.List.{List}
use mathlib.Core.Logic.{◌⊎◌, inl, inr}
use Prim.Native.Nat.{ℕ, zero, suc, ◌-◌}
use native.Mathlib.Omega.{arith}
use borrow.Author.Tests.{leb-true}
use Rattle.gtb.specs.declared.Shape.{Shape}
use Rattle.gtb.specs.Shape.{Lawful}
use Rattle.gtb.proofs.Bounds.{bounds}
use Rattle.distance.specs.Distance.{Near}
use Rattle.distance.proofs.Near.{near_within, near_unique}
use Rattle.std.specs.Prelude.{Result, Ok}
use Rattle.gtb.specs.declared.Refusal.{Refusal}
use Rattle.correction.proofs.Readings.{read_accepted}
use Rattle.decoder.specs.Decode.{Decoding}
use Rattle.decoder.proofs.Meaning.{explains_near, decode_meets}
use Rattle.majority.specs.Majority.{Voting}
use Rattle.majority.proofs.Meaning.{majority_meets}
use Rattle.double.specs.Double.{ReadingTwo}
use Rattle.double.specs.Double as double
use Rattle.double.proofs.Meaning.{two_meets}
use Rattle.session.specs.Arrival.{is_way, way_of}

-- what the readers ensure: the word and the answer of one of the three
abbrev pub Read : Shape → List ℕ → List ℕ → Result ℕ Refusal → Type 0
Read s w w' r = Decoding s w w' r ⊎ (Voting s w w' r ⊎ ReadingTwo s w w' r)

-- what is accepted is within n - 1 symbols; two wrong symbols are read with three directions or more
pub read_near : (s : Shape) → Lawful s → {w w' : List ℕ} {r : Result ℕ Refusal} {k : ℕ} → Read s w w' r → r ≡ Ok k → Near s (s.n - 1) w w' k
read_near s law {w} {w'} {k = k} (inl read) h = explains_near s w w' k (read.accepted k h)
read_near s law {k = k} (inr (inl read)) h = let x = read.accepted k h in near_within x (omega (arith, x.few, (bounds s law).n2))
read_near s law {w} {k = k} (inr (inr read)) h =
    let x = read.accepted k h in
    near_within x (omega (arith, x.few, leb-true 3 s.n (read_accepted double.two s w k (sym read.answer ∙ h)).suits))

-- the same received word, whichever readers accept it
pub readers_agree : (s : Shape) → Lawful s → {w v v' : List ℕ} {r r' : Result ℕ Refusal} {k l : ℕ} → Read s w v r → Read s w v' r' → r ≡ Ok k
    → r' ≡ Ok l → (v ≡ v') × (k ≡ l)
readers_agree s law {w} {v} {v'} {k = k} {l = l} a b h g =
    near_unique s law (s.n - 1) (omega (arith, (bounds s law).n2)) w v v' k l (read_near s law a h) (read_near s law b g)

-- the same by the ways that an arrival may name
pub way_read : (way : ℕ) (s : Shape) (w : List ℕ) (k : ℕ) → (way_of way).answer s w ≡ Ok k → Read s w ((way_of way).word s w) (Ok k)
unfolding way_of
way_read zero s w k h = inl (rw h at (decode_meets s w))
way_read (suc zero) s w k h = inr (inl (rw h at (majority_meets s w)))
way_read (suc (suc way)) s w k h = inr (inr (rw h at (two_meets s w)))

pub readings_agree : (s : Shape) → Lawful s → (a b : ℕ) → is_way a ≡ true → is_way b ≡ true → (w : List ℕ) (k l : ℕ)
    → (way_of a).answer s w ≡ Ok k → (way_of b).answer s w ≡ Ok l → ((way_of a).word s w ≡ (way_of b).word s w) × (k ≡ l)
readings_agree s law a b ka kb w k l ha hb = readers_agree s law (way_read a s w k ha) (way_read b s w l hb) refl refl
