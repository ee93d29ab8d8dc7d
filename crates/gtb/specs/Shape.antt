-- Shapes: order q, directions n, width b and slopes (RULES 1).
use Rattle.std.specs.Prelude.{Bool, true, not, cond, ◌&&◌, List, [], ◌∷◌, ◌≡◌, ℕ, ◌+◌, ◌-◌, ◌*◌, ◌/◌, ◌%◌, leb, ltb, eqb, get_or}
use Rattle.parity.specs.Count.{any, all}
use Rattle.paper.specs.Square as paper
use Rattle.gtb.specs.declared.Shape.{Shape}
use Rattle.gtb.specs.declared.Refusal.{Refusal}

-- a shape in the paper's numbers
abbrev pub of : Shape → paper.Shape
of s = record { q = s.q; n = s.n; b = s.b; slopes = s.slopes }

-- the slopes 0, 1, 2, ..
abbrev pub standard_slopes : List ℕ
standard_slopes = 0 ∷ 1 ∷ 2 ∷ 3 ∷ 4 ∷ 5 ∷ 6 ∷ []

-- the shape of three numbers: its slopes are 0 to n - 2
abbrev pub standard : ℕ → ℕ → ℕ → Shape
standard q n b = record { q = q; n = n; b = b; slopes = standard_slopes }

-- the ten orders
unfoldable pub orders : List ℕ
orders = 3 ∷ 5 ∷ 7 ∷ 11 ∷ 13 ∷ 17 ∷ 19 ∷ 23 ∷ 29 ∷ 31 ∷ []

-- q is one of them
unfoldable pub is_order : ℕ → Bool
is_order q = any 10 (λ k. eqb (get_or orders k 0) q)

-- the table's rule: odd, above 2, and no number from 2 to q - 1 divides it
unfoldable pub odd_prime : ℕ → Bool
odd_prime q = eqb (q % 2) 1 && leb 3 q && all (q - 2) (λ d. not (eqb (q % (d + 2)) 0))

-- test 1: q is an order, n goes from 2 to the smaller of q and 8, b from 1 to 32
unfoldable pub regular : Shape → Bool
regular s = is_order s.q && leb 2 s.n && leb s.n s.q && leb s.n 8 && leb 1 s.b && leb s.b 32

-- the slope at place t of the list is below q and stands at no place before t
unfoldable pub fits_slope : ℕ → List ℕ → ℕ → Bool
fits_slope q slopes t = ltb (get_or slopes t 0) q && all t (λ u. not (eqb (get_or slopes u 0) (get_or slopes t 0)))

-- test 18: so it is with the first n - 1; the others are not looked at
unfoldable pub sloped : Shape → Bool
sloped s = all (s.n - 1) (fits_slope s.q s.slopes)

unfoldable pub lawful : Shape → Bool
lawful s = regular s && sloped s

-- which of the two tests turns a shape down
unfoldable pub shape_refusal : Shape → Refusal
shape_refusal s = cond (regular s) Refusal.Slope Refusal.Shape

abbrev pub Lawful : Shape → Type 0
Lawful s = lawful s ≡ true

-- N: the symbols of a word
abbrev pub word_length : Shape → ℕ
word_length s = s.q * s.q

-- K: the information symbols of a word
abbrev pub info_length : Shape → ℕ
info_length s = (s.q - 1) * (s.q + 1 - s.n)

-- the checks that are kept, n × q - n + 1: in each direction but the first one follows from the others (N7)
unfoldable pub kept_checks : Shape → ℕ
kept_checks s = s.n * s.q - s.n + 1

-- the scratch: one row of N bits a kept check, 32 to a value
unfoldable pub scratch_length : Shape → ℕ
scratch_length s = kept_checks s * ((s.q * s.q + 31) / 32)

-- the slope of direction t, from 1 on: number t of the list
unfoldable pub slope_of : Shape → ℕ → ℕ
slope_of s t = get_or s.slopes (t - 1) 0
