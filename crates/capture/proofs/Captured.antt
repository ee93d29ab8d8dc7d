-- The example of the rules (RULES 7) as a case of what is printed: one page, brought twice, and a word that is turned down.
use mathlib.Core.Path.{◌≡◌, refl, ap, ◌∙◌, subst}
use mathlib.Core.List.{List, [], ◌∷◌}
use mathlib.Core.Logic.{◌⊎◌, inl, inr}
use Prim.Native.Nat.{ℕ, zero, suc, ◌<◌, ◌≤◌}
use native.Mathlib.Omega.{arith}
use lib.ListN.{length, length-replicate}
use Rattle.parity.specs.Xor.{◌⊕◌, xor_sum, when}
use Rattle.parity.specs.Count.{bit, sum, count, any, all, first_value}
use Rattle.parity.specs.Lists.{tabulate}
use Rattle.gtb.specs.declared.Shape.{Shape}
use Rattle.gtb.specs.declared.Refusal.{Refusal}
use Rattle.std.specs.Prelude.{Ok}
use Rattle.gtb.specs.Shape.{orders, is_order, standard, lawful, slope_of, kept_checks, scratch_length, regular, sloped, fits_slope}
use Rattle.gtb.specs.Square.{line_of, narrow, syndrome, silent_test}
use Rattle.gtb.specs.Positions.{info_position, extract_of}
use Rattle.correction.specs.Error.{mended}
use Rattle.correction.specs.Reading.{changes_by, restored_by, accepted_by, read_of}
use Rattle.correction.proofs.Readings.{read_means}
use Rattle.decoder.specs.Decode.{located, alone, error_at, restored, decode_of}
use Rattle.decoder.proofs.Meaning.{clean_meant}
use Rattle.page.specs.Page.{functions, write_status, page_symbols}
use Rattle.lines.specs.Text.{ascii, decimal, spell, same_bytes}
use Rattle.lines.specs.Content.{values_in, small, content_of}
use Rattle.session.specs.Arrival.{is_way, way_of, the_ways, opened}
use Rattle.session.specs.Recording.{Sheet, sheet_at, symbols_of, Recording, Arrival, arrival_at, TurnedDown, Brings, Fits}
use Rattle.capture.specs.Judge.{kept_of}
use Rattle.capture.specs.Feed.{read_limit, output_of}
use Rattle.capture.specs.Print.{Unbroken, line_at, lines_text, capture_text, arrival_of, arrivals_in, Prints}
use Rattle.capture.proofs.Examples.{example}
use Rattle.capture.proofs.Printed.{printed}

-- a word that reading accepts, with the page's data digits, brings the page
accepted_brings : (s : Shape) (p : Sheet) (xs : List ℕ) (k : ℕ) → decode_of s xs ≡ Ok k → extract_of s (restored s xs) ≡ symbols_of s p
    → Brings the_ways s (arrival_of s xs) p k
unfolding is_way way_of
accepted_brings s p xs k h info =
    let x = read_means clean_meant s xs k h in
    record {
      known = refl;
      stored = restored s xs;
      encodes = record { codeword = x.codeword; information = info };
      error = x.error;
      damage = x.word;
      allowed = (x.unmasked, rw x.changed x.few);
      changed = x.changed;
      word = x.received;
      scratch = length-replicate (scratch_length s) 0;
    }

abbrev shape : Shape
shape = standard 3 2 8

abbrev sheet : Sheet
sheet = record { number = 1; marks = 3 ∷ 5 ∷ [] }

abbrev stored : List ℕ
stored = 5 ∷ 2 ∷ 7 ∷ 3 ∷ 1 ∷ 2 ∷ 6 ∷ 3 ∷ 5 ∷ []

-- with its first digit wrong
abbrev damaged : List ℕ
damaged = 12 ∷ 2 ∷ 7 ∷ 3 ∷ 1 ∷ 2 ∷ 6 ∷ 3 ∷ 5 ∷ []

abbrev spoiled : List ℕ
spoiled = 1 ∷ 0 ∷ 0 ∷ 0 ∷ 1 ∷ 0 ∷ 0 ∷ 0 ∷ 0 ∷ []

abbrev lines : List (List ℕ)
lines = ascii "5 2 7 3 1 2 6 3 5" ∷ ascii "12 2 7 3 1 2 6 3 5" ∷ ascii "1 0 0 0 1 0 0 0 0" ∷ []

-- the page writer takes the page
accepted : (i : ℕ) → i < 1 → write_status shape (sheet_at (sheet ∷ []) i).number (sheet_at (sheet ∷ []) i).marks (symbols_of shape (sheet_at (sheet ∷ []) i)) ≡ Ok tt
unfolding lawful regular sloped fits_slope is_order orders all any write_status functions narrow page_symbols
accepted zero l = refl
accepted (suc i) l = absurd (omega arith)

recording : Recording shape (sheet ∷ [])
unfolding lawful regular sloped fits_slope is_order orders all any
recording = record { lawful = refl; accepted = accepted; different = λ i j li lj e. omega arith }

comes : Brings the_ways shape (arrival_of shape stored) sheet 0
unfolding changes_by restored_by accepted_by read_of silent_test mended error_at first_value alone located extract_of info_position syndrome narrow line_of slope_of lawful regular sloped fits_slope is_order orders tabulate all any count sum bit when xor_sum ◌⊕◌ page_symbols
comes = accepted_brings shape sheet stored 0 refl refl

comes_damaged : Brings the_ways shape (arrival_of shape damaged) sheet 1
unfolding changes_by restored_by accepted_by read_of silent_test mended error_at first_value alone located extract_of info_position syndrome narrow line_of slope_of lawful regular sloped fits_slope is_order orders tabulate all any count sum bit when xor_sum ◌⊕◌ page_symbols
comes_damaged = accepted_brings shape sheet damaged 1 refl refl

turned_down : TurnedDown the_ways shape (arrival_of shape spoiled) Refusal.Uncorrectable
unfolding opened is_way way_of changes_by restored_by accepted_by read_of silent_test mended error_at first_value alone located extract_of info_position syndrome narrow line_of slope_of lawful regular sloped fits_slope is_order orders scratch_length kept_checks tabulate all any count sum bit when xor_sum ◌⊕◌
turned_down = record { by = refl }

the_arrivals : arrivals_in shape lines ≡ arrival_of shape stored ∷ arrival_of shape damaged ∷ arrival_of shape spoiled ∷ []
unfolding arrivals_in kept_of content_of small values_in same_bytes spell decimal all
the_arrivals = refl

abbrev arrivals : List Arrival
arrivals = arrival_of shape stored ∷ arrival_of shape damaged ∷ arrival_of shape spoiled ∷ []

each : (j : ℕ) → j < 3
    → ((e : Refusal) × TurnedDown the_ways shape (arrival_at arrivals j) e)
    ⊎ ((i : ℕ) × (i < 1) × (k : ℕ) × Brings the_ways shape (arrival_at arrivals j) (sheet_at (sheet ∷ []) i) k)
each zero l = inr (0, omega arith, 0, comes)
each (suc zero) l = inr (0, omega arith, 1, comes_damaged)
each (suc (suc zero)) l = inl (Refusal.Uncorrectable, turned_down)
each (suc (suc (suc j))) l = absurd (omega arith)

every : (i : ℕ) → i < 1 → (j : ℕ) × (j < 3) × (k : ℕ) × Brings the_ways shape (arrival_at arrivals j) (sheet_at (sheet ∷ []) i) k
every zero l = (0, omega arith, 0, comes)
every (suc i) l = absurd (omega arith)

fits : Fits the_ways shape (sheet ∷ []) (arrivals_in shape lines)
fits = rw the_arrivals (record { each = each; every = every })

unbroken : (i : ℕ) → i < 3 → Unbroken (line_at lines i)
unbroken zero l = refl
unbroken (suc zero) l = refl
unbroken (suc (suc zero)) l = refl
unbroken (suc (suc (suc i))) l = absurd (omega arith)

the_text : capture_text 3 2 8 lines [] ≡ ascii "q n b\n3 2 8\nword\n5 2 7 3 1 2 6 3 5\n12 2 7 3 1 2 6 3 5\n1 0 0 0 1 0 0 0 0\n"
unfolding capture_text lines_text spell decimal
the_text = refl

short : length (capture_text 3 2 8 lines []) ≤ read_limit
short = rw the_text (omega arith)

pub example_printed : Prints shape (sheet ∷ []) lines [] (ascii "outcome page fixed\ntaken 1 0\nagain 1 1\nrefused 4 0\nfunction calls\n3 1\n5 1\n")
example_printed =
    subst (Prints shape (sheet ∷ []) lines []) (ap output_of the_text ∙ example)
    (printed 3 2 8 (sheet ∷ []) lines [] recording unbroken refl fits short)
