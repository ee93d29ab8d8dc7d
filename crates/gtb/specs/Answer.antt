-- The numbers of the refusals and of the answers (RULES 6).
use Rattle.std.specs.Prelude.{Bool, true, false, cond, List, ℕ, ◌+◌, ◌^◌, length, replicate, Result, Ok, Err}
use Rattle.gtb.specs.declared.Refusal.{Refusal}

abbrev pub refusal_number : Refusal → ℕ
refusal_number Refusal.Shape = 1
refusal_number Refusal.Length = 2
refusal_number Refusal.Width = 3
refusal_number Refusal.Uncorrectable = 4
refusal_number Refusal.Page = 5
refusal_number Refusal.Count = 6
refusal_number Refusal.Function = 7
refusal_number Refusal.Tail = 8
refusal_number Refusal.Overflow = 9
refusal_number Refusal.Syntax = 10
refusal_number Refusal.Figures = 11
refusal_number Refusal.Places = 12
refusal_number Refusal.Unfillable = 13
refusal_number Refusal.Ambiguous = 14
refusal_number Refusal.NoMajority = 15
refusal_number Refusal.Directions = 16
refusal_number Refusal.BeyondTwo = 17
refusal_number Refusal.Slope = 18
refusal_number Refusal.Bill = 19
refusal_number Refusal.Far = 20

-- as one number: the number that is carried, or 2^31 plus the refusal's
abbrev pub answer_number : Result ℕ Refusal → ℕ
answer_number (Ok k) = k
answer_number (Err e) = 2 ^ 31 + refusal_number e

-- 0, or 2^31 plus the refusal's
abbrev pub status_number : Result (Unit {0}) Refusal → ℕ
status_number (Ok tt) = 0
status_number (Err e) = 2 ^ 31 + refusal_number e

-- the test decides: go on, or give this answer
abbrev pub unless : {A : Type 0} → Bool → A → A → A
unless true refusal next = next
unless false refusal next = refusal

-- refusals that are tested before the scratch is touched
abbrev pub is_early : Refusal → Bool
is_early Refusal.Shape = true
is_early Refusal.Length = true
is_early Refusal.Width = false
is_early Refusal.Uncorrectable = false
is_early Refusal.Page = false
is_early Refusal.Count = false
is_early Refusal.Function = false
is_early Refusal.Tail = false
is_early Refusal.Overflow = false
is_early Refusal.Syntax = false
is_early Refusal.Figures = true
is_early Refusal.Places = false
is_early Refusal.Unfillable = false
is_early Refusal.Ambiguous = false
is_early Refusal.NoMajority = false
is_early Refusal.Directions = true
is_early Refusal.BeyondTwo = false
is_early Refusal.Slope = true
is_early Refusal.Bill = false
is_early Refusal.Far = false

-- the scratch after a refusal: as lent after an early one, zeros after every other
unfoldable pub scratch_after : Refusal → List ℕ → List ℕ
scratch_after e scratch = cond (is_early e) scratch (replicate (length scratch) 0)
