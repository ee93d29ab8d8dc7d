-- What the program's arguments mean (RULES 7.5).
use Rattle.std.specs.Prelude.{cond, ◌||◌, List, ℕ, eqb, ltb, get_or}
use Rattle.lines.specs.Text.{ascii, same_bytes}
use Rattle.program.specs.declared.argument.Choice.{Choice}
use Rattle.program.specs.declared.argument.Choice.TheVariants.{Standard, File, Help, Version, Unknown, TooMany}

abbrev pub dash : ℕ
dash = 45

-- one argument: `-` is standard input, `--help` and `-h` ask for help, `--version` for the version; what else begins with a dash is no option, all other text a file's name
unfoldable pub meaning_of : List ℕ → Choice
meaning_of argument =
    cond (same_bytes argument (ascii "-")) Standard
    (cond (same_bytes argument (ascii "--help") || same_bytes argument (ascii "-h")) Help
    (cond (same_bytes argument (ascii "--version")) Version
    (cond (eqb (get_or argument 0 0) dash) Unknown File)))

-- the program's own name is counted; without a further argument it is standard input, and more than one is too many
unfoldable pub choice_of : ℕ → List ℕ → Choice
choice_of count first = cond (ltb count 2) Standard (cond (ltb 2 count) TooMany (meaning_of first))
