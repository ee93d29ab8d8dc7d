-- Symbols and bytes: of symbols below 2^32, and of whole fours of bytes, each list tells the other.
use mathlib.Core.Path.{◌≡◌, refl}
use mathlib.Core.List.{List, [], ◌∷◌}
use Prim.Native.Nat.{ℕ, suc, ◌+◌, ◌*◌, ◌/◌, ◌%◌, ◌^◌, ◌<◌}
use native.Mathlib.Omega.{arith}
use lib.ListN.{length, get_or}
use Rattle.host.specs.Bytes.{symbols_of, bytes_of}

-- the four bytes of a number put together
together : (x : ℕ) → x < 2 ^ 32 → x % 256 + 256 * (x / 256 % 256) + 65536 * (x / 65536 % 256) + 16777216 * (x / 16777216 % 256) ≡ x
together x h =
    let two : x / 65536 ≡ x / 256 / 256 = omega arith in
    let three : x / 16777216 ≡ x / 256 / 256 / 256 = omega arith in
    let last : x / 16777216 % 256 ≡ x / 16777216 = omega arith in
    rw (last, two, three) (omega arith)

pub symbols_bytes : (w : List ℕ) → ((j : ℕ) → get_or w j 0 < 2 ^ 32) → symbols_of (bytes_of w) ≡ w
unfolding symbols_of bytes_of
symbols_bytes [] below = refl
symbols_bytes (x ∷ w) below = λ i. together x (below 0) i ∷ symbols_bytes w (λ j. below (suc j)) i

pub bytes_symbols : (bytes : List ℕ) → ((j : ℕ) → get_or bytes j 0 < 256) → length bytes % 4 ≡ 0 → bytes_of (symbols_of bytes) ≡ bytes
unfolding symbols_of bytes_of
bytes_symbols [] below fours = refl
bytes_symbols (b0 ∷ []) below fours = absurd (omega arith)
bytes_symbols (b0 ∷ b1 ∷ []) below fours = absurd (omega arith)
bytes_symbols (b0 ∷ b1 ∷ b2 ∷ []) below fours = absurd (omega arith)
bytes_symbols (b0 ∷ b1 ∷ b2 ∷ b3 ∷ rest) below fours =
    let l0 : b0 < 256 = below 0 in
    let l1 : b1 < 256 = below 1 in
    let l2 : b2 < 256 = below 2 in
    let l3 : b3 < 256 = below 3 in
    let x : ℕ = b0 + 256 * b1 + 65536 * b2 + 16777216 * b3 in
    let e0 : x % 256 ≡ b0 = omega arith in
    let q1 : x / 256 ≡ b1 + 256 * b2 + 65536 * b3 = omega arith in
    let q2 : x / 65536 ≡ b2 + 256 * b3 = omega arith in
    let q3 : x / 16777216 ≡ b3 = omega arith in
    let e1 : x / 256 % 256 ≡ b1 = rw q1 (omega arith) in
    let e2 : x / 65536 % 256 ≡ b2 = rw q2 (omega arith) in
    let e3 : x / 16777216 % 256 ≡ b3 = rw q3 (omega arith) in
    λ i. e0 i ∷ e1 i ∷ e2 i ∷ e3 i ∷ bytes_symbols rest (λ j. below (suc (suc (suc (suc j))))) (omega arith) i
