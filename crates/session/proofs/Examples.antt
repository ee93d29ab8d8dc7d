-- Damage as in the bench value P6, on a page: the ways of reading compared, computed from the definitions.
use mathlib.Core.Path.{◌≡◌, refl}
use mathlib.Core.List.{List, [], ◌∷◌}
use Prim.Native.Nat.{ℕ}
use lib.ListN.{replicate}
use Rattle.parity.specs.Xor.{◌⊕◌, xor_sum, when}
use Rattle.parity.specs.Count.{bit, sum, count, any, all, first_value}
use Rattle.parity.specs.Lists.{tabulate}
use Rattle.gtb.specs.declared.Refusal.{Refusal}
use Rattle.gtb.specs.Shape.{orders, is_order, standard, regular, fits_slope, sloped, lawful, slope_of, kept_checks, scratch_length}
use Rattle.gtb.specs.Square.{line_of, narrow, syndrome, silent_test}
use Rattle.gtb.specs.Positions.{info_position, extract_of}
use Rattle.correction.specs.Error.{shows, mended, off}
use Rattle.correction.specs.Reading.{changes_by, restored_by, accepted_by, read_of}
use Rattle.decoder.specs.Decode.{located, alone, error_at}
use Rattle.majority.specs.Majority.{majority, voted_at}
use Rattle.double.specs.Double.{single, two_at}
use Rattle.page.specs.Page.{functions, zeros, page_of, marks_of}
use Rattle.session.specs.Arrival.{is_way, way_of, the_ways, Opened, Page, Bad, opened}

-- page 5 with no marks, and 7 XORed onto digits 3 and 4, which share a row
abbrev received : List ℕ
received = 0 ∷ 5 ∷ 5 ∷ (5 ⊕ 7) ∷ (0 ⊕ 7) ∷ 5 ∷ 5 ∷ 5 ∷ 0 ∷ []

-- as an arrival that names a way
abbrev by_way : ℕ → Opened
by_way way = opened the_ways (standard 3 3 3) way received (replicate 7 0)

pub masked_clean : by_way 0 ≡ Bad Refusal.Uncorrectable
unfolding ◌⊕◌ xor_sum when bit sum count any all first_value tabulate orders is_order regular fits_slope sloped lawful slope_of kept_checks scratch_length line_of narrow syndrome silent_test mended located alone error_at changes_by restored_by accepted_by read_of is_way way_of opened
masked_clean = refl

pub masked_vote : by_way 1 ≡ Bad Refusal.NoMajority
unfolding ◌⊕◌ xor_sum when bit sum count any all first_value tabulate orders is_order regular fits_slope sloped lawful slope_of kept_checks scratch_length line_of narrow syndrome silent_test mended shows majority voted_at changes_by restored_by accepted_by read_of is_way way_of opened
masked_vote = refl

pub masked_two : by_way 2 ≡ Page 5 [] 2
unfolding ◌⊕◌ xor_sum when bit sum count any all first_value tabulate orders is_order regular fits_slope sloped lawful slope_of kept_checks scratch_length line_of narrow syndrome silent_test mended off single two_at changes_by restored_by accepted_by read_of info_position extract_of functions zeros page_of marks_of is_way way_of opened
masked_two = refl
