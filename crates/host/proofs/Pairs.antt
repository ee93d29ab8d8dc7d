-- The exported pair: its two tests, then reading the symbols.
use mathlib.Core.Path.{◌≡◌, sym, ap, ◌∙◌}
use mathlib.Core.Bool.{false}
use mathlib.Core.List.{List}
use Prim.Native.Nat.{ℕ, ◌+◌, ◌*◌, ◌^◌}
use lib.ListN.{length}
use borrow.Author.Tests.{eq-eqb, ne_eqb}
use Rattle.gtb.specs.declared.Shape.{Shape}
use Rattle.gtb.specs.declared.Refusal.{Refusal}
use Rattle.gtb.specs.Shape.{shape_refusal, lawful, Lawful, word_length, info_length}
use Rattle.gtb.specs.Answer.{refusal_number, answer_number}
use Rattle.std.specs.Prelude.{Result, Ok, Err}
use Rattle.decoder.specs.Decode.{decode_of, Decoding, restored}
use Rattle.correction.specs.Answer.{decoded_word}
use Rattle.page.specs.Page.{page_of}
use Rattle.host.specs.Bytes.{symbols_of, bytes_of}
use Rattle.host.specs.Exported.{word_of, bytes_after, page_in, ReadingWord}

module _ (s : Shape) (bytes : List ℕ) where
  -- tests 1 and 18
  pub word_shape : lawful s ≡ false → word_of s bytes ≡ Err (shape_refusal s)
  unfolding word_of
  word_shape h = rw h

  pub page_shape : lawful s ≡ false → page_in s bytes ≡ Err (shape_refusal s)
  unfolding page_in
  page_shape h = rw h

  -- test 2
  pub word_length_lem : Lawful s → (length bytes ≡ 4 * word_length s → ⊥) → word_of s bytes ≡ Err Refusal.Length
  unfolding word_of
  word_length_lem h l = rw (h, ne_eqb _ _ l)

  pub page_length : Lawful s → (length bytes ≡ 4 * info_length s → ⊥) → page_in s bytes ≡ Err Refusal.Length
  unfolding page_in
  page_length h l = rw (h, ne_eqb _ _ l)

  -- past both
  word_past : Lawful s → length bytes ≡ 4 * word_length s → word_of s bytes ≡ decode_of s (symbols_of bytes)
  unfolding word_of
  word_past h l = rw (h, eq-eqb _ _ l)

  pub page_past : Lawful s → length bytes ≡ 4 * info_length s → page_in s bytes ≡ page_of s (symbols_of bytes)
  unfolding page_in
  page_past h l = rw (h, eq-eqb _ _ l)

  -- a refusal leaves the bytes
  pub word_refused : {e : Refusal} {r : ℕ} → word_of s bytes ≡ Err e → r ≡ 2 ^ 31 + refusal_number e → ReadingWord s bytes bytes r
  word_refused h is = record { answer = rw h is; left = rw h }

  -- the bytes after the answer are as they should be
  pub word_read : {symbols symbols' bytes' : List ℕ} {a : Result ℕ Refusal} {r : ℕ} → Lawful s → length bytes ≡ 4 * word_length s → symbols ≡ symbols_of bytes →
      Decoding s symbols symbols' a → r ≡ answer_number a → bytes' ≡ bytes_after s bytes a → ReadingWord s bytes bytes' r
  word_read h l loaded d is after =
      let e : decode_of s (symbols_of bytes) ≡ _ = ap (decode_of s) (sym loaded) ∙ sym d.answer in
      record { answer = rw (word_past h l, e) is; left = rw (word_past h l, e) after }

  pub put_back : {symbols symbols' bytes' : List ℕ} {a : Result ℕ Refusal} (k : ℕ) → a ≡ Ok k → symbols ≡ symbols_of bytes →
      symbols' ≡ decoded_word symbols (restored s symbols) a → bytes' ≡ bytes_of symbols' → bytes' ≡ bytes_after s bytes a
  put_back k h loaded word stored = rw h (stored ∙ ap bytes_of (word ∙ rw (h, loaded)))

  pub left_alone : {bytes' : List ℕ} {a : Result ℕ Refusal} (e : Refusal) → a ≡ Err e → bytes' ≡ bytes → bytes' ≡ bytes_after s bytes a
  left_alone e h same = rw h same
