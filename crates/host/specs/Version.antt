-- The library's version, 0.1.0, as one number: two decimal digits each for the last two.
use Rattle.std.specs.Prelude.{ℕ, ◌+◌, ◌*◌}

abbrev pub major : ℕ
major = 0

abbrev pub minor : ℕ
minor = 1

abbrev pub patch : ℕ
patch = 0

abbrev pub version_number : ℕ
version_number = major * 10000 + minor * 100 + patch
