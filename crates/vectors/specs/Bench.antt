-- P1 to P10 (RULES 8), and the shapes and marks beside them, in one table.
use Rattle.std.specs.Prelude.{◌≡◌, ◌↔◌, Bool, true, false, List, [], ◌∷◌, ℕ, ◌<◌, eqb, length, get_or, Ok, Err}
use Rattle.parity.specs.Count.{any}
use Rattle.gtb.specs.declared.Shape.{Shape}
use Rattle.gtb.specs.declared.Refusal.{Refusal}
use Rattle.gtb.specs.Shape.{standard, lawful, Lawful, shape_refusal}
use Rattle.gtb.specs.Positions.{Dependent, Encodes}
use Rattle.correction.specs.Error.{damaged}
use Rattle.decoder.specs.Decode.{decode_of, restored}
use Rattle.page.specs.Page.{page_of, page_symbols}

abbrev pub among : List ℕ → ℕ → Bool
among places j = any (length places) (λ i. eqb (get_or places i 0) j)

-- the data places of the nine are these
pub record Places (s : Shape) (places : List ℕ) : Type 0 where
  pub exactly : (j : ℕ) → j < 9 → (among places j ≡ true) ↔ Dependent s j

-- P4's word, and what comes of 7 on digit 3 and x on digit 4
abbrev pub stored : List ℕ
stored = 3 ∷ 6 ∷ 5 ∷ 5 ∷ 3 ∷ 6 ∷ 6 ∷ 5 ∷ 3 ∷ []

abbrev pub received : ℕ → List ℕ
received x = damaged stored (0 ∷ 0 ∷ 0 ∷ 7 ∷ x ∷ 0 ∷ 0 ∷ 0 ∷ 0 ∷ [])

-- the shape is refused, with 1
abbrev pub Refused1 : Shape → Type 0
Refused1 s = (lawful s ≡ false) × (shape_refusal s ≡ Refusal.Shape)

pub record Bench : Type 0 where
  pub p1 : (b : ℕ) → Lawful (standard 3 2 b) → Places (standard 3 2 b) (4 ∷ 5 ∷ 7 ∷ 8 ∷ [])
  pub p2 : (b : ℕ) → Lawful (standard 3 3 b) → Places (standard 3 3 b) (7 ∷ 8 ∷ [])
  pub p3 : Encodes (standard 3 2 3) (3 ∷ 5 ∷ 6 ∷ 7 ∷ []) (7 ∷ 5 ∷ 2 ∷ 6 ∷ 3 ∷ 5 ∷ 1 ∷ 6 ∷ 7 ∷ [])
  pub p4 : Encodes (standard 3 3 3) (5 ∷ 3 ∷ []) stored
  pub p5 : (decode_of (standard 3 3 3) (received 1) ≡ Ok 2) × (restored (standard 3 3 3) (received 1) ≡ stored)
  pub p6 : decode_of (standard 3 3 3) (received 7) ≡ Err Refusal.Uncorrectable
  pub p7 : Encodes (standard 3 2 8) (page_symbols (standard 3 2 8) 1 (3 ∷ 5 ∷ [])) (5 ∷ 2 ∷ 7 ∷ 3 ∷ 1 ∷ 2 ∷ 6 ∷ 3 ∷ 5 ∷ [])
  pub p8 : page_of (standard 3 2 8) (1 ∷ 3 ∷ 0 ∷ 0 ∷ []) ≡ Err Refusal.Count
  pub p9 : page_of (standard 3 2 8) (0 ∷ 1 ∷ 4 ∷ 9 ∷ []) ≡ Err Refusal.Tail
  pub p10 : page_of (standard 3 2 11) (1023 ∷ 0 ∷ 0 ∷ 0 ∷ []) ≡ Ok (1023, 0)
  pub p10_past : page_of (standard 3 2 11) (1024 ∷ 0 ∷ 0 ∷ 0 ∷ []) ≡ Err Refusal.Page
  pub accepted : (lawful (standard 31 8 32) ≡ true) × (lawful (standard 3 3 1) ≡ true)
  -- these give 1
  pub refused : Refused1 (standard 3 4 8) × Refused1 (standard 31 9 8) × Refused1 (standard 9 2 8) × Refused1 (standard 3 2 0) × Refused1 (standard 3 2 33)
  pub mark : page_of (standard 3 2 9) (0 ∷ 1 ∷ 255 ∷ 0 ∷ []) ≡ Ok (0, 1)
  pub mark_past : page_of (standard 3 2 9) (0 ∷ 1 ∷ 256 ∷ 0 ∷ []) ≡ Err Refusal.Function
