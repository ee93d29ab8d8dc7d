-- Documents 01 and 02 as they are in force, by sections: every name of theirs.
pub use Rattle.paper.specs.Answers.{Test, Judged, refusal, at, ◌∈◌, zeros}
pub use Rattle.paper.specs.Square.{Shape, standard, InLists, WrongSlopes, N, row, column, line, value, Digits, Stored, Wide, changed}
pub use Rattle.paper.specs.Writing.{entry, DataPlace, DataDigits, K, scratch_length, scratch_left, write_tests, Writing, Extraction}
pub use Rattle.paper.specs.Reading.{Clean, nonzero, Damaged, Explained, Within, Read, unread, TooFew, read_tests, Reading, votes, Voted, Looked, look_tests, Looking, check_tests, Checking}
pub use Rattle.paper.specs.DeadCells.{WrongPlaces, Agrees, fill_tests, Filling}
pub use Rattle.paper.specs.Page.{NoFunction, marks_in, contents, page_tests, PageReading, Marks, Page, writable, page_write_tests, PageWriting}
pub use Rattle.paper.specs.Session.{Session, is_yes, Lowest, WrongFigures, fresh, fresh_tests, Beginning, count_tests, Counting, marks_for, Worn, Recorded, Arrival, Arrived, word_tests, arrival_tests, Refusing, Accepting, Settling, Arriving}
pub use Rattle.paper.specs.Recording.{Sheet, sheet_at, arrival_at, Recording, tally_of, Allowed, Brings, Came, beside_tests, TurnedDown, Fits, Run, EveryList, Same, Demand3}
pub use Rattle.paper.specs.Requests.{cost, RoundedUp, bill_tests, Billing, cover_tests, Covering}
pub use Rattle.paper.specs.Bundle.{word_at, RunOf, bundle_tests, Delivered, Bundling, arrivals_from, Bundles}
pub use Rattle.paper.specs.Beyond.{nearest_tests, Nearest, reach, is_listed, Reached, restore_tests, Restoring}
pub use Rattle.paper.specs.Program.{ascii, decimal, spell, Line, joined, Unbroken, line_at, Input, outcome_name, answer_line, refused_line, table, WordLine, WordLines, Named, ThreeValues, shape_of, head_tests, cut_line, Prints}
pub use Rattle.paper.specs.Boundary.{Bytes, ReadingBytes, PageBytes, shape_in, session_in, Written, LengthOf, MarksCopied, FreshValues, Returned, ArrivingValues, BundlingValues, Calls}
