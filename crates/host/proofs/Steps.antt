-- Loading and storing, one symbol after the other.
use mathlib.Core.Path.{◌≡◌, refl, sym, ap, ◌∙◌}
use mathlib.Core.List.{List, [], ◌∷◌, ◌++◌, append_assoc, append-nil}
use Prim.Native.Nat.{ℕ, ◌+◌, ◌-◌, ◌*◌, ◌<◌, ◌≤◌}
use native.Mathlib.Nat.{add-zero}
use native.Mathlib.Numerals.{add-one}
use native.Mathlib.Omega.{arith}
use lib.ListN.{length, get_or, take, drop, set, length-drop}
use lib.Seq.{drop-cons, drop-drop, drop-length, get_or-drop, take-suc-set, take-length, take-paste, append_snoc}
use borrow.Rule.Slice.PartMut.{put_mid}
use Rattle.host.specs.Bytes.{symbols_of, bytes_of, symbol_at, with_symbol}

-- the first symbol of four or more bytes
first_symbol : (bytes : List ℕ) → 4 ≤ length bytes → symbols_of bytes ≡ symbol_at bytes 0 ∷ symbols_of (drop 4 bytes)
unfolding symbols_of
first_symbol [] h = absurd (omega arith)
first_symbol (b0 ∷ []) h = absurd (omega arith)
first_symbol (b0 ∷ b1 ∷ []) h = absurd (omega arith)
first_symbol (b0 ∷ b1 ∷ b2 ∷ []) h = absurd (omega arith)
first_symbol (b0 ∷ b1 ∷ b2 ∷ b3 ∷ rest) h = refl

-- and the next, from a place on
next_symbol : (bytes : List ℕ) (at : ℕ) → at + 4 ≤ length bytes → symbols_of (drop at bytes) ≡ symbol_at bytes at ∷ symbols_of (drop (at + 4) bytes)
next_symbol bytes at h = simp (get_or-drop, drop-drop, add-zero) at (first_symbol (drop at bytes) (simp length-drop (omega arith)))

-- i symbols are loaded, and one more is
pub loaded : (bytes now : List ℕ) (i : ℕ) {x : ℕ} → x ≡ symbol_at bytes (4 * i) → take i now ++ symbols_of (drop (4 * i) bytes) ≡ symbols_of bytes →
    i < length now → 4 * i + 4 ≤ length bytes → take (i + 1) (set now i x) ++ symbols_of (drop (4 * (i + 1)) bytes) ≡ symbols_of bytes
loaded bytes now i is e l room =
    let four : 4 * (i + 1) ≡ 4 * i + 4 = omega arith in
    rw (is, four, add-one i, take-suc-set now i _ l, append_snoc, ← next_symbol bytes (4 * i) room) e

pub all_loaded : (bytes now : List ℕ) (i : ℕ) → take i now ++ symbols_of (drop (4 * i) bytes) ≡ symbols_of bytes → i ≡ length now → 4 * i ≡ length bytes →
    now ≡ symbols_of bytes
unfolding symbols_of
all_loaded bytes now i e l m = sym (ap (λ k. take k now) l ∙ take-length now) ∙ sym (rw (m, drop-length, append-nil)) ∙ e

-- a symbol's bytes laid over four
pub put : (bytes : List ℕ) (at x : ℕ) {four : List ℕ} → four ≡ bytes_of (x ∷ []) → put_mid at (at + 4 - at) bytes four ≡ with_symbol bytes at x
unfolding with_symbol
put bytes at x is =
    let gap : at + 4 - at ≡ 4 = omega arith in
    rw (is, gap, drop-drop 4 at bytes, ← append_assoc (take at bytes) (bytes_of (x ∷ [])) (drop (at + 4) bytes))

-- i symbols are stored, and one more is
pub stored : (symbols now : List ℕ) (i : ℕ) {new : List ℕ} → new ≡ with_symbol now (4 * i) (get_or symbols i 0) → take (4 * i) now ++ bytes_of (drop i symbols) ≡ bytes_of symbols →
    i < length symbols → 4 * i + 4 ≤ length now → take (4 * (i + 1)) new ++ bytes_of (drop (i + 1) symbols) ≡ bytes_of symbols
unfolding bytes_of with_symbol
stored symbols now i is e l room =
    let four : 4 * (i + 1) ≡ 4 * i + 4 = omega arith in
    rw (is, four, add-one i, take-paste now (4 * i) (bytes_of (get_or symbols i 0 ∷ [])) 4 (omega arith) (omega arith), append_assoc) (rw (drop-cons symbols i 0 l) at e)

pub all_stored : (symbols now : List ℕ) (i : ℕ) → take (4 * i) now ++ bytes_of (drop i symbols) ≡ bytes_of symbols → i ≡ length symbols → 4 * i ≡ length now →
    now ≡ bytes_of symbols
unfolding bytes_of
all_stored symbols now i e l m = sym (ap (λ k. take k now) m ∙ take-length now) ∙ sym (rw (l, drop-length, append-nil)) ∙ e
