-- The examples of the rules (RULES 7), computed from the definitions.
use mathlib.Core.Path.{◌≡◌, refl}
use Rattle.parity.specs.Xor.{◌⊕◌, xor_sum, when}
use Rattle.parity.specs.Count.{bit, sum, count, any, all, first_value}
use Rattle.parity.specs.Lists.{tabulate}
use Rattle.gtb.specs.Shape.{orders, is_order, lawful, slope_of, kept_checks, scratch_length, regular, sloped, shape_refusal, fits_slope}
use Rattle.gtb.specs.Square.{line_of, narrow, syndrome, silent_test}
use Rattle.correction.specs.Error.{mended}
use Rattle.gtb.specs.Positions.{info_position, extract_of}
use Rattle.correction.specs.Reading.{changes_by, restored_by, accepted_by, read_of}
use Rattle.decoder.specs.Decode.{located, alone, error_at}
use Rattle.page.specs.Page.{functions, zeros, page_of, marks_of}
use Rattle.session.specs.Session.{fresh_of, fresh_status, count_of, added, overflows, recorded}
use Rattle.session.specs.Arrival.{is_way, way_of, opened, outcome_of, session_after}
use Rattle.lines.specs.Text.{ascii, decimal, spell, same_bytes, outcome_name, count_text, outcome_text}
use Rattle.lines.specs.Content.{values_in, small, content_of}
use Rattle.capture.specs.Output.{outcome_line, answers_text, calls_from, calls_text}
use Rattle.capture.specs.Judge.{kept_of, judged_of, start}
use Rattle.capture.specs.Feed.{feed, closing, output_of}

pub example : output_of (ascii "q n b\n3 2 8\nword\n5 2 7 3 1 2 6 3 5\n12 2 7 3 1 2 6 3 5\n1 0 0 0 1 0 0 0 0\n")
    ≡ ascii "outcome page fixed\ntaken 1 0\nagain 1 1\nrefused 4 0\nfunction calls\n3 1\n5 1\n"
unfolding output_of closing answers_text feed start judged_of kept_of calls_text calls_from outcome_line content_of small values_in outcome_text count_text outcome_name same_bytes spell decimal session_after outcome_of opened is_way way_of recorded overflows added count_of fresh_status fresh_of marks_of page_of zeros functions changes_by restored_by accepted_by read_of silent_test mended error_at first_value alone located extract_of info_position syndrome narrow line_of slope_of lawful regular sloped fits_slope is_order orders scratch_length kept_checks tabulate all any count sum bit when xor_sum ◌⊕◌
example = refl

-- idle marks count for nothing: page 2 has the marks 0 and 5, page 4 nothing but idle
pub idle_example : output_of (ascii "q n b\n3 2 8\nword\n5 2 7 0 2 2 5 0 5\n6 4 2 6 4 2 0 0 0\n")
    ≡ ascii "outcome page fixed\ntaken 2 0\ntaken 4 0\nfunction calls\n5 1\n"
unfolding output_of closing answers_text feed start judged_of kept_of calls_text calls_from outcome_line content_of small values_in outcome_text count_text outcome_name same_bytes spell decimal session_after outcome_of opened is_way way_of recorded overflows added count_of fresh_status fresh_of marks_of page_of zeros functions changes_by restored_by accepted_by read_of silent_test mended error_at first_value alone located extract_of info_position syndrome narrow line_of slope_of lawful regular sloped fits_slope is_order orders scratch_length kept_checks tabulate all any count sum bit when xor_sum ◌⊕◌
idle_example = refl

-- one fault alone: a shape outside its lists, before the third line is looked at
pub fault_example : output_of (ascii "q n b\n3 4 8\nwords\n") ≡ ascii "outcome page fixed\nrefused 1 0\n"
unfolding output_of closing answers_text feed start judged_of kept_of outcome_line content_of small values_in outcome_text outcome_name same_bytes spell decimal fresh_status lawful regular shape_refusal is_order orders all any
fault_example = refl
