-- Each line is computed from the definitions.
use mathlib.Core.Path.{◌≡◌, refl}
use mathlib.Core.Bool.{true}
use mathlib.Core.List.{[], ◌∷◌}
use native.Mathlib.Omega.{arith}
use lib.Dec.{eqb}
use lib.ListN.{length, get_or}
use borrow.Author.Tests.{lt-ltb, le-ltb}
use Rattle.parity.specs.Xor.{◌⊕◌, xor_sum, when}
use Rattle.parity.specs.Count.{bit, sum, count, any, all, first_value, lowest_not}
use Rattle.parity.specs.Lists.{tabulate}
use Rattle.parity.proofs.Tests.{clash}
use Rattle.gtb.specs.declared.Refusal.{Refusal}
use Rattle.gtb.specs.Answer.{refusal_number, is_early, scratch_after}
use Rattle.gtb.specs.Shape.{orders, is_order, lawful, regular, sloped, fits_slope, shape_refusal, slope_of, kept_checks, scratch_length}
use Rattle.gtb.specs.Square.{line_of, narrow, syndrome, silent_test}
use Rattle.encoder.specs.Contract.{status_of}
use Rattle.correction.specs.Error.{shows, mended}
use Rattle.correction.specs.Reading.{changes_by, restored_by, accepted_by, read_of}
use Rattle.decoder.specs.Looking.{looking_of}
use Rattle.majority.specs.Majority.{majority, voted_at}
use Rattle.erasure.specs.Fill.{rising, fill_status}
use Rattle.restore.specs.Restore.{reach}
use Rattle.page.specs.Page.{functions, zeros, page_of, write_status}
use Rattle.session.specs.Session.{pages_of, lowest_of, consistent, fresh_of, fresh_status, count_of, overflows, session_status, counted_of}
use Rattle.session.specs.Arrival.{is_way, way_of, arrival_status, outcome_of}
use Rattle.energy.specs.Energy.{millis, bill_of}
use Rattle.coverage.specs.Coverage.{cover_of}
use Rattle.batch.specs.Batch.{whole_run, batch_status, all_values, values_of}
use Rattle.verify.specs.Verify.{verdict_of}
use Rattle.lines.specs.Text.{decimal, spell, same_bytes, outcome_name, outcome_text}
use Rattle.lines.specs.Content.{values_in, content_of}
use Rattle.lines.specs.Content as content
use Rattle.host.specs.Bytes.{symbols_of, bytes_of}
use Rattle.host.specs.Crossing.{shape_in, shape_values, session_of}
use Rattle.capture.specs.Judge.{kept_of, line_content, passed, fault, judged_of, start}
use Rattle.capture.specs.Output.{outcome_line, answers_text}
use Rattle.capture.specs.Feed.{feed, closing, output_of}
use Rattle.vectors.specs.Pinned.{Orders, Limits, Scratch, Refusals, Layout}

pub orders_of_tests : Orders
unfolding shape_refusal lawful regular sloped fits_slope is_order orders any all session_status consistent pages_of lowest_of bit sum count lowest_not counted_of bill_of cover_of arrival_status is_way way_of batch_status looking_of read_of narrow fill_status rising scratch_length kept_checks verdict_of page_of functions zeros write_status outcome_of overflows count_of
orders_of_tests = record {
  one_eighteen = refl;
  eighteen = refl;
  eighteen_eleven = refl;
  eleven_seven = refl;
  eleven_two_bill = refl;
  eleven_two_cover = refl;
  eleven_sixteen = refl;
  eleven_two_bundle = refl;
  one_eleven = refl;
  two_three = refl;
  three_four = refl;
  three_twelve = refl;
  twelve = refl;
  three_no = refl;
  three_five = refl;
  five_six = refl;
  six_seven = refl;
  seven_eight = refl;
  five_three = refl;
  again_nine = refl;
  nine = refl;
}

pub limits : Limits
unfolding outcome_of overflows count_of values_of all_values lawful regular sloped fits_slope is_order orders any all page_of narrow functions zeros counted_of session_status consistent pages_of lowest_of bit sum count lowest_not millis tabulate whole_run read_of accepted_by changes_by restored_by voted_at majority shows first_value mended silent_test syndrome xor_sum when line_of slope_of ◌⊕◌ status_of scratch_length kept_checks reach symbols_of bytes_of content_of values_in content.small same_bytes spell decimal kept_of output_of closing answers_text feed start judged_of outcome_line outcome_text outcome_name fresh_status fresh_of shape_refusal
limits = record {
  falling_slopes = refl;
  full_page = refl;
  last_function = refl;
  last_count = refl;
  each_billed = refl;
  words_none = refl;
  words_64 = refl;
  words_65 = refl;
  bundle_values = refl;
  shipped_scratch = refl;
  shipped_reach = refl;
  half_of_two = refl;
  extraction = λ e. e.answer;
  symbols = refl;
  bytes = refl;
  largest = refl;
  too_large = refl;
  longest = λ line h. rw (lt-ltb (length line) 16384 (omega arith)) refl;
  too_long = λ line h. rw (le-ltb (length line) 16384 (omega arith)) refl;
  all_read = refl;
  no_line = refl;
  other_names = refl;
  two_values = refl;
  other_words = refl;
}

others : (e : Refusal) → is_early e ≡ true → any 5 (λ i. eqb (get_or (1 ∷ 2 ∷ 11 ∷ 16 ∷ 18 ∷ []) i 0) (refusal_number e)) ≡ true
unfolding any
others Refusal.Shape h = refl
others Refusal.Length h = refl
others Refusal.Width h = absurd (clash h refl)
others Refusal.Uncorrectable h = absurd (clash h refl)
others Refusal.Page h = absurd (clash h refl)
others Refusal.Count h = absurd (clash h refl)
others Refusal.Function h = absurd (clash h refl)
others Refusal.Tail h = absurd (clash h refl)
others Refusal.Overflow h = absurd (clash h refl)
others Refusal.Syntax h = absurd (clash h refl)
others Refusal.Figures h = refl
others Refusal.Places h = absurd (clash h refl)
others Refusal.Unfillable h = absurd (clash h refl)
others Refusal.Ambiguous h = absurd (clash h refl)
others Refusal.NoMajority h = absurd (clash h refl)
others Refusal.Directions h = refl
others Refusal.BeyondTwo h = absurd (clash h refl)
others Refusal.Slope h = refl
others Refusal.Bill h = absurd (clash h refl)
others Refusal.Far h = absurd (clash h refl)

pub scratch : Scratch
unfolding scratch_after
scratch = record { kept = (refl, refl, refl, refl, refl); others = others; zeros = λ e xs h. rw h refl }

pub refusals : Refusals
refusals = record { clean = refl; vote = refl; two = refl; nearest = refl }

pub layout : Layout
unfolding shape_in shape_values session_of
layout = record {
  shape = refl;
  values = refl;
  held = λ v. refl;
  pages = λ v. refl;
  lowest = λ v. refl;
  taken = λ v. refl;
  calls = λ v. refl;
  yes = (refl, refl, refl);
  again = λ v σ p k. refl;
  refused = λ v σ e. refl;
  unmade = λ s v e. refl;
}
