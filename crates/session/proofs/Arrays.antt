-- What owning an array field tells: how many elements it has, and of u32 that each is below 2^32.
use mathlib.Core.Path.{◌≡◌}
use mathlib.Core.List.{List, [], ◌∷◌}
use Prim.Native.Nat.{ℕ, zero, suc, ◌^◌, ◌<◌}
use lib.Dec.{lit<}
use lib.ListN.{length, get_or}
use mir.Syntax.{w32}
use mir.Val.{Val}
use denote.Array.{Array, each}
use denote.Laws.{Is}
use denote.Plain.{UInt}
use denote.RattleType.{RattleType}
use denote.Shadow.{shadow}
use Rattle.session.specs.Steps.{Counts}

below : (xs : List ℕ) (us : List Val) → shadow (each ℕ (UInt w32).own_val xs us) → (i : ℕ) → get_or xs i 0 < 2 ^ 32
below [] us h i = lit< tt
below (x ∷ xs) [] h i = absurd h
below (x ∷ xs) (u ∷ us) h zero = h.0.1
below (x ∷ xs) (u ∷ us) h (suc i) = below xs us h.1 i

-- how many elements there are, whatever they are
pub sized : (R : RattleType) (n : ℕ) (xs : List R.Denot) (vs : List Val) → Is (Array R n) xs vs → length xs ≡ n
sized R n xs vs h = h.1.0.1

pub counts : (xs : List ℕ) (vs : List Val) → Is (Array (UInt w32) 256) xs vs → Counts xs
counts xs vs h = record { size = sized (UInt w32) 256 xs vs h; below = below xs h.0 h.1.1 }
