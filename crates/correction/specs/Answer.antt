-- The answer of every way of reading, and the word that it leaves.
use Rattle.std.specs.Prelude.{List, ℕ, Result, Ok, Err}
use Rattle.gtb.specs.declared.Refusal.{Refusal}

-- an accepted word is the codeword found, a refused one is left as it came
abbrev pub decoded_word : List ℕ → List ℕ → Result ℕ Refusal → List ℕ
decoded_word came found (Ok k) = found
decoded_word came found (Err e) = came
