-- Parts of the symbols, as the code lends them, and the lists that the page writer makes on its way.
use mathlib.Core.Path.{◌≡◌, ap, ◌∙◌}
use mathlib.Core.List.{List, [], ◌∷◌, ◌++◌, append-nil}
use Prim.Native.Nat.{ℕ, ◌+◌, ◌-◌, ◌≤◌}
use native.Mathlib.Nat.{le_of_eq}
use native.Mathlib.Omega.{arith}
use lib.ListN.{length, take, drop, set, replicate, length-append, length-drop, drop_of_length-le}
use lib.Seq.{take_all, take_at}
use borrow.Rule.Slice.PartMut.{mid_of, put_mid}

-- the part from a to the end
pub rest_part : (a : ℕ) (xs : List ℕ) → take (length xs - a) (drop a xs) ≡ drop a xs
rest_part a xs = take_all (length xs - a) (drop a xs) (le_of_eq (length-drop a xs))

-- the part from 2 to 2 + c
pub marks_part : (c : ℕ) (xs : List ℕ) → take (2 + c - 2) (drop 2 xs) ≡ take c (drop 2 xs)
marks_part c xs = let e : 2 + c - 2 ≡ c = omega arith in rw e

-- the part from a to the end comes back as ys
pub put_rest : (a : ℕ) (xs ys : List ℕ) → put_mid a (length xs - a) xs ys ≡ take a xs ++ ys
put_rest a xs ys = ap (λ (zs : List ℕ). take a xs ++ (ys ++ zs)) (drop_of_length-le (drop a xs) (le_of_eq (length-drop a xs)))
    ∙ ap (λ (zs : List ℕ). take a xs ++ zs) (append-nil ys)

-- page number, number of marks and marks are written, and the rest is cleared
abbrev headed : ℕ → List ℕ → List ℕ → List ℕ
headed number marks old = set (set old 0 number) 1 (length marks)

abbrev begun : ℕ → List ℕ → List ℕ → List ℕ → List ℕ
begun number marks old part = put_mid 2 (2 + length marks - 2) (headed number marks old) part

cleared : (a : ℕ) (xs rest : List ℕ) {now tail : List ℕ} → length xs ≡ a → now ≡ xs ++ rest → tail ≡ replicate (length (mid_of a (length now - a) now)) 0
    → put_mid a (length now - a) now tail ≡ xs ++ replicate (length rest) 0
cleared a xs rest {now} {tail} same e t =
    let head : take a now ≡ xs = rw e (take_at xs rest a same) in
    let left : length (mid_of a (length now - a) now) ≡ length rest = rw (rest_part a now, length-drop, e, length-append) (omega arith) in
    put_rest a now tail ∙ rw (head, t, left)

pub filled : (number : ℕ) (marks old : List ℕ) {part tail : List ℕ} → 2 + length marks ≤ length old → part ≡ marks →
    tail ≡ replicate (length (mid_of (2 + length marks) (length (begun number marks old part) - (2 + length marks)) (begun number marks old part))) 0 →
    put_mid (2 + length marks) (length (begun number marks old part) - (2 + length marks)) (begun number marks old part) tail
    ≡ number ∷ length marks ∷ (marks ++ replicate (length old - 2 - length marks) 0)
filled number marks [] fits same t = absurd (omega arith)
filled number marks (x ∷ []) fits same t = absurd (omega arith)
filled number marks (x ∷ y ∷ old) {part} fits same t =
    let c : 2 + length marks - 2 ≡ length marks = omega arith in
    let now : begun number marks (x ∷ y ∷ old) part ≡ number ∷ length marks ∷ (marks ++ drop (length marks) old) = rw (same, c) in
    let left : length (drop (length marks) old) ≡ length (x ∷ y ∷ old) - 2 - length marks = rw length-drop (omega arith) in
    cleared (2 + length marks) (number ∷ length marks ∷ marks) (drop (length marks) old) (omega arith) now t ∙ rw left
