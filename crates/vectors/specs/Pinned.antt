-- Definitions on examples (RULES 1 to 7): what a definition would get wrong if it and the code were wrong alike.
use Rattle.std.specs.Prelude.{◌≡◌, true, false, List, [], ◌∷◌, map, ℕ, eqb, length, get_or, take, drop, replicate, Result, Ok, Err}
use Rattle.parity.specs.Count.{any}
use Rattle.parity.specs.Lists.{tabulate}
use Rattle.gtb.specs.declared.Shape.{Shape}
use Rattle.gtb.specs.declared.Refusal.{Refusal}
use Rattle.gtb.specs.Shape.{standard, lawful, shape_refusal, scratch_length}
use Rattle.gtb.specs.Answer.{refusal_number, is_early, scratch_after}
use Rattle.encoder.specs.Contract.{Extraction}
use Rattle.decoder.specs.Decode.{clean, decode_of}
use Rattle.decoder.specs.Looking.{looking_of}
use Rattle.majority.specs.Majority.{vote, majority_of}
use Rattle.double.specs.Double.{two}
use Rattle.nearest.specs.Nearest.{nearest}
use Rattle.erasure.specs.Fill.{fill_status}
use Rattle.restore.specs.Restore.{reach}
use Rattle.page.specs.Page.{page_of, write_status}
use Rattle.session.specs.declared.Session.{Session}
use Rattle.session.specs.declared.Outcome.TheVariants as outcome
use Rattle.session.specs.Session.{session_status, counted_of}
use Rattle.session.specs.Arrival.{the_ways, Page, arrival_status, outcome_of}
use Rattle.energy.specs.Energy.{millis, bill_of}
use Rattle.coverage.specs.Coverage.{cover_of}
use Rattle.batch.specs.Batch.{whole_run, batch_status, values_of}
use Rattle.verify.specs.Verify.{verdict_of}
use Rattle.lines.specs.Text.{ascii}
use Rattle.lines.specs.Content.{Spelled, Unreadable, content_of}
use Rattle.host.specs.Bytes.{symbols_of, bytes_of}
use Rattle.host.specs.Crossing.{shape_in, shape_values, is_yes, session_of}
use Rattle.host.specs.Entries.{fresh_in, session_in}
use Rattle.capture.specs.Judge.{line_content}
use Rattle.capture.specs.Feed.{read_limit, output_of}

-- the smallest shape, of eight bits, and one of eleven
abbrev pub small : Shape
small = standard 3 2 8

abbrev pub wide : Shape
wide = standard 3 2 11

-- a shape with these slopes
abbrev pub sloping : List ℕ → Shape
sloping slopes = record { q = 3; n = 3; b = 1; slopes = slopes }

-- nine symbols, the first too wide for eight bits
abbrev pub too_wide : List ℕ
too_wide = 256 ∷ replicate 8 0

-- a session of that shape with no page and one page counted
abbrev pub miscounted : Shape → Session
miscounted s = record { shape = s; taken = replicate 1024 false; calls = replicate 256 0; pages = 1; lowest = 0 }

-- one with page 0 taken, and all counts at their largest
abbrev pub worn : Session
worn = record { shape = small; taken = true ∷ replicate 1023 false; calls = replicate 256 4294967295; pages = 1; lowest = 1 }

-- one with all counts one below that
abbrev pub nearly_worn : Session
nearly_worn = record { shape = small; taken = true ∷ replicate 1023 false; calls = replicate 256 4294967294; pages = 1; lowest = 1 }

-- what is printed for a capture whose first three lines have a fault
abbrev pub faulty : List ℕ
faulty = ascii "outcome page fixed\nrefused 10 0\n"

-- the refusal that comes first where more than one test fails
pub record Orders : Type 0 where
  pub one_eighteen : shape_refusal (record { q = 9; n = 3; b = 1; slopes = replicate 7 0 }) ≡ Refusal.Shape
  pub eighteen : shape_refusal (sloping (replicate 7 0)) ≡ Refusal.Slope
  pub eighteen_eleven : session_status (miscounted (sloping (replicate 7 0))) ≡ Err Refusal.Slope
  pub eleven_seven : counted_of (miscounted small) 256 ≡ Err Refusal.Figures
  pub eleven_two_bill : bill_of (miscounted small) [] ≡ Err Refusal.Figures
  pub eleven_two_cover : cover_of (miscounted small) [] ≡ Err Refusal.Figures
  pub eleven_sixteen : arrival_status the_ways (miscounted small) 2 ≡ Err Refusal.Figures
  pub eleven_two_bundle : batch_status (miscounted small) 0 [] [] [] ≡ Err Refusal.Figures
  pub one_eleven : arrival_status the_ways (miscounted small) 3 ≡ Err Refusal.Shape
  pub two_three : looking_of small too_wide [] ≡ Err Refusal.Length
  pub three_four : decode_of small too_wide ≡ Err Refusal.Width
  pub three_twelve : fill_status small too_wide (9 ∷ []) (replicate 5 0) ≡ Err Refusal.Width
  pub twelve : fill_status small (replicate 9 0) (9 ∷ []) (replicate 5 0) ≡ Err Refusal.Places
  pub three_no : verdict_of small too_wide (1 ∷ replicate 8 0) ≡ Err Refusal.Width
  pub three_five : page_of wide (2048 ∷ 0 ∷ 0 ∷ 0 ∷ []) ≡ Err Refusal.Width
  pub five_six : page_of wide (1024 ∷ 3 ∷ 0 ∷ 0 ∷ []) ≡ Err Refusal.Page
  pub six_seven : page_of wide (0 ∷ 3 ∷ 256 ∷ 0 ∷ []) ≡ Err Refusal.Count
  pub seven_eight : page_of wide (0 ∷ 1 ∷ 256 ∷ 9 ∷ []) ≡ Err Refusal.Function
  pub five_three : write_status small 1024 [] (replicate 4 0) ≡ Err Refusal.Page
  pub again_nine : outcome_of worn (Page 0 (1 ∷ []) 0) ≡ outcome.Again 0 0
  pub nine : outcome_of worn (Page 1 (1 ∷ []) 0) ≡ outcome.Refused Refusal.Overflow

-- the last value on either side of a limit, and what stands where
pub record Limits : Type 0 where
  pub falling_slopes : lawful (sloping (2 ∷ 0 ∷ 0 ∷ 0 ∷ 0 ∷ 0 ∷ 0 ∷ [])) ≡ true
  pub full_page : page_of (standard 17 4 9) (0 ∷ 222 ∷ replicate 222 255) ≡ Ok (0, 222)
  pub last_function : counted_of (record { shape = small; taken = replicate 1024 false; calls = replicate 256 0; pages = 0; lowest = 0 }) 255 ≡ Ok 0
  pub last_count : outcome_of nearly_worn (Page 1 (1 ∷ []) 0) ≡ outcome.Taken 1 0
  pub each_billed : millis (λ f. f) (tabulate 256 (λ f. f)) ≡ 5559680
  pub words_none : whole_run small [] ≡ false
  pub words_64 : whole_run small (replicate 576 0) ≡ true
  pub words_65 : whole_run small (replicate 585 0) ≡ false
  pub bundle_values : values_of (outcome.Taken 5 1 ∷ outcome.Refused Refusal.Page ∷ []) ≡ 0 ∷ 5 ∷ 1 ∷ 2 ∷ 5 ∷ 0 ∷ replicate 186 0
  pub shipped_scratch : scratch_length (standard 17 4 32) ≡ 650
  pub shipped_reach : map (reach (standard 17 4 32)) (0 ∷ 1 ∷ 2 ∷ 3 ∷ 4 ∷ 5 ∷ 6 ∷ 7 ∷ 289 ∷ []) ≡ 3 ∷ 3 ∷ 2 ∷ 2 ∷ 1 ∷ 1 ∷ 0 ∷ 0 ∷ 0 ∷ []
  pub half_of_two : majority_of small (12 ∷ 2 ∷ 7 ∷ 3 ∷ 1 ∷ 2 ∷ 6 ∷ 3 ∷ 5 ∷ []) ≡ Ok 1
  -- what was lent for the answer may hold anything
  pub extraction : {scratch' symbols' : List ℕ} {r : Result (Unit {0}) Refusal}
      → Extraction small (replicate 9 0) (replicate 5 0) (256 ∷ 256 ∷ 256 ∷ 256 ∷ []) scratch' symbols' r → r ≡ Ok tt
  pub symbols : symbols_of (1 ∷ 2 ∷ 3 ∷ 4 ∷ []) ≡ 67305985 ∷ []
  pub bytes : bytes_of (67305985 ∷ []) ≡ 1 ∷ 2 ∷ 3 ∷ 4 ∷ []
  pub largest : content_of (ascii "4294967295") ≡ Spelled (4294967295 ∷ [])
  pub too_large : content_of (ascii "4294967296") ≡ Unreadable
  -- 16,384 bytes with the newline
  pub longest : (line : List ℕ) → length line ≡ 16383 → line_content line ≡ content_of line
  pub too_long : (line : List ℕ) → length line ≡ 16384 → line_content line ≡ Unreadable
  pub all_read : read_limit ≡ 4294967295
  pub no_line : output_of [] ≡ faulty
  pub other_names : output_of (ascii "q n\n") ≡ faulty
  pub two_values : output_of (ascii "q n b\n3 2\n") ≡ faulty
  pub other_words : output_of (ascii "q n b\n3 2 8\nwords\n") ≡ faulty

-- after which refusals the scratch is as lent: 1, 2, 11, 16, 18; after every other it is zeros
pub record Scratch : Type 0 where
  pub kept : (is_early Refusal.Shape ≡ true) × (is_early Refusal.Length ≡ true) × (is_early Refusal.Figures ≡ true) × (is_early Refusal.Directions ≡ true) × (is_early Refusal.Slope ≡ true)
  pub others : (e : Refusal) → is_early e ≡ true → any 5 (λ i. eqb (get_or (1 ∷ 2 ∷ 11 ∷ 16 ∷ 18 ∷ []) i 0) (refusal_number e)) ≡ true
  pub zeros : (e : Refusal) (scratch : List ℕ) → is_early e ≡ false → scratch_after e scratch ≡ replicate (length scratch) 0

-- the refusal of each reader
pub record Refusals : Type 0 where
  pub clean : clean.refusal ≡ Refusal.Uncorrectable
  pub vote : vote.refusal ≡ Refusal.NoMajority
  pub two : two.refusal ≡ Refusal.BeyondTwo
  pub nearest : nearest.refusal ≡ Refusal.Far

-- how shapes and sessions cross to C (RULES 7.3): q, n, b and the slopes; pages taken and the lowest not taken; 1,024 marks, of which any but 0 is yes; 256 counts
pub record Layout : Type 0 where
  pub shape : shape_in (17 ∷ 4 ∷ 32 ∷ 0 ∷ 1 ∷ 2 ∷ 3 ∷ 4 ∷ 5 ∷ 6 ∷ []) ≡ standard 17 4 32
  pub values : shape_values (standard 17 4 32) ≡ 17 ∷ 4 ∷ 32 ∷ 0 ∷ 1 ∷ 2 ∷ 3 ∷ 4 ∷ 5 ∷ 6 ∷ []
  pub held : (v : List ℕ) → (session_of v).shape ≡ shape_in (take 10 v)
  pub pages : (v : List ℕ) → (session_of v).pages ≡ get_or v 10 0
  pub lowest : (v : List ℕ) → (session_of v).lowest ≡ get_or v 11 0
  pub taken : (v : List ℕ) → (session_of v).taken ≡ map is_yes (take 1024 (drop 12 v))
  pub calls : (v : List ℕ) → (session_of v).calls ≡ drop 1036 v
  pub yes : (is_yes 0 ≡ false) × (is_yes 1 ≡ true) × (is_yes 2 ≡ true)
  -- what is not taken leaves the values as they were, and so does a fresh session that is refused
  pub again : (v : List ℕ) (σ : Session) (p k : ℕ) → session_in v σ (outcome.Again p k) ≡ v
  pub refused : (v : List ℕ) (σ : Session) (e : Refusal) → session_in v σ (outcome.Refused e) ≡ v
  pub unmade : (s : Shape) (v : List ℕ) (e : Refusal) → fresh_in s v (Err e) ≡ v
