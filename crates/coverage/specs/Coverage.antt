-- The coverage viewer (RULES 5.2).
use Rattle.std.specs.Prelude.{◌≡◌, Bool, ◌&&◌, List, ◌↔◌, ℕ, ◌+◌, ◌^◌, ◌<◌, eqb, ltb, length, get_or, Result, Ok, Err}
use Rattle.parity.specs.Count.{bit, any, count}
use Rattle.parity.specs.Lists.{tabulate}
use Rattle.gtb.specs.declared.Refusal.{Refusal}
use Rattle.gtb.specs.Answer.{refusal_number, unless}
use Rattle.session.specs.declared.Session.{Session}
use Rattle.session.specs.Session.{session_status, past}
use Rattle.session.specs.Recording.{Sheet, sheet_at}

-- function f has a count above zero
abbrev pub is_called : List ℕ → ℕ → Bool
is_called calls f = ltb 0 (get_or calls f 0)

-- its byte: 1 for yes, 0 for no
abbrev pub cover_byte : List ℕ → ℕ → ℕ
cover_byte calls f = bit (is_called calls f)

-- all 256
unfoldable pub cover_bytes : List ℕ → List ℕ
cover_bytes calls = tabulate 256 (cover_byte calls)

-- how many of them are yes
unfoldable pub cover_count : List ℕ → ℕ
cover_count calls = count 256 (is_called calls)

-- the viewer tests 1, 18, 11, then 2
unfoldable pub cover_of : Session → List ℕ → Result ℕ Refusal
cover_of σ bytes =
    past (session_status σ) Err
    (unless (eqb (length bytes) 256) (Err Refusal.Length) (Ok (cover_count σ.calls)))

-- a refusal leaves the slice as it was
abbrev pub bytes_after : Session → List ℕ → Result ℕ Refusal → List ℕ
bytes_after σ bytes (Ok k) = cover_bytes σ.calls
bytes_after σ bytes (Err e) = bytes

-- what the viewer answers and leaves
pub record Covering (σ : Session) (bytes bytes' : List ℕ) (r : Result ℕ Refusal) : Type 0 where
  pub answer : r ≡ cover_of σ bytes
  pub left : bytes' ≡ bytes_after σ bytes r

-- ---- over a recording

-- some page has a mark for function f
pub record Marked (pages : List Sheet) (f : ℕ) : Type 0 where
  pub page : ℕ
  pub below : page < length pages
  pub mark : ℕ
  pub within : mark < length (sheet_at pages page).marks
  pub is : get_or (sheet_at pages page).marks mark 0 ≡ f

-- the same as a test; function 0 never passes
unfoldable pub is_marked : List Sheet → ℕ → Bool
is_marked pages f =
    ltb 0 f && any (length pages) (λ i. any (length (sheet_at pages i).marks) (λ j. eqb (get_or (sheet_at pages i).marks j 0) f))

-- what the viewer must show of a session that holds the recording's tally
pub record Viewed (pages : List Sheet) (bytes : List ℕ) (r : Result ℕ Refusal) : Type 0 where
  pub size : length bytes ≡ 256
  -- yes exactly for the functions from 1 on that some page has a mark for
  pub yes : (f : ℕ) → f < 256 → (get_or bytes f 0 ≡ 1) ↔ ((0 < f) × Marked pages f)
  pub no : (f : ℕ) → f < 256 → ((0 < f) × Marked pages f → ⊥) → get_or bytes f 0 ≡ 0
  -- and how many these are
  pub number : r ≡ Ok (count 256 (is_marked pages))
