-- A slice copied, one symbol after the other.
use mathlib.Core.Path.{◌≡◌, ◌∙◌}
use mathlib.Core.List.{List, ◌++◌, append-nil}
use Prim.Native.Nat.{ℕ, suc, ◌+◌, ◌<◌}
use native.Mathlib.Numerals.{add-one}
use native.Mathlib.Omega.{arith}
use lib.ListN.{length, get_or, take, drop, set, drop_of_length-le}
use lib.Seq.{drop-cons, set_at, take-suc, append_snoc, take-length, length-take-le}

-- i symbols are copied, and one more is
pub copied : (from old : List ℕ) (i : ℕ) {now : List ℕ} → now ≡ take i from ++ drop i old → i < length from → i < length old →
    set now i (get_or from i 0) ≡ take (i + 1) from ++ drop (i + 1) old
copied from old i e l m =
    rw (e, add-one i, drop-cons old i 0 m, take-suc from i 0 l, append_snoc)
    (set_at (take i from) (get_or old i 0) (drop (suc i) old) (get_or from i 0) i (length-take-le i from (omega arith)))

-- a copy of the whole
pub whole_copy : (from to : List ℕ) → length from ≡ length to → from ++ drop (length from) to ≡ from
whole_copy from to size = rw (drop_of_length-le to {i = length from} (omega arith)) (append-nil from)

pub all_copied : (from old : List ℕ) (i : ℕ) {now : List ℕ} → now ≡ take i from ++ drop i old → i ≡ length from →
    now ≡ from ++ drop (length from) old
all_copied from old i e l = e ∙ rw (l, take-length)
