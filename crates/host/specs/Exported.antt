-- What the exported pair answers and leaves. The tests on the shape and on the number of bytes come first, then reading the symbols.
use Rattle.std.specs.Prelude.{◌≡◌, List, ℕ, ◌*◌, eqb, length, Result, Ok, Err}
use Rattle.gtb.specs.declared.Shape.{Shape}
use Rattle.gtb.specs.declared.Refusal.{Refusal}
use Rattle.gtb.specs.Shape.{lawful, shape_refusal, word_length, info_length}
use Rattle.decoder.specs.Decode.{decode_of, restored}
use Rattle.gtb.specs.Answer.{answer_number, unless}
use Rattle.page.specs.Page.{page_of}
use Rattle.host.specs.Bytes.{symbols_of, bytes_of}

-- word reading over bytes
unfoldable pub word_of : Shape → List ℕ → Result ℕ Refusal
word_of s bytes =
    unless (lawful s) (Err (shape_refusal s))
    (unless (eqb (length bytes) (4 * word_length s)) (Err Refusal.Length) (decode_of s (symbols_of bytes)))

-- the stored word as bytes, or the bytes as they came
abbrev pub bytes_after : Shape → List ℕ → Result ℕ Refusal → List ℕ
bytes_after s bytes (Ok k) = bytes_of (restored s (symbols_of bytes))
bytes_after s bytes (Err e) = bytes

pub record ReadingWord (s : Shape) (bytes bytes' : List ℕ) (r : ℕ) : Type 0 where
  pub answer : r ≡ answer_number (word_of s bytes)
  pub left : bytes' ≡ bytes_after s bytes (word_of s bytes)

-- page reading over bytes
unfoldable pub page_in : Shape → List ℕ → Result (ℕ × ℕ) Refusal
page_in s bytes =
    unless (lawful s) (Err (shape_refusal s))
    (unless (eqb (length bytes) (4 * info_length s)) (Err Refusal.Length) (page_of s (symbols_of bytes)))
