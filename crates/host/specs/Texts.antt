-- The refusals' texts, as a program shows them to a person: the word of the trade, and what is turned down.
use Rattle.std.specs.Prelude.{◌≡◌, List, [], ◌∷◌, ◌++◌, ℕ, zero, suc, ◌+◌, ◌-◌, ◌^◌, length, get_or, replicate}
use Rattle.lines.specs.Text.{ascii}

-- by number, from 1 on
unfoldable pub refusal_texts : List (List ℕ)
refusal_texts =
    ascii "shape: q, n, b or the way of reading is outside its list" ∷
    ascii "length: a list does not have its length" ∷
    ascii "width: a digit is 2^b or more" ∷
    ascii "damage: no clean damage to at most n - 1 digits explains the word" ∷
    ascii "page: the page number is 1024 or more" ∷
    ascii "count: there are more marks than a page holds" ∷
    ascii "function: a function number is above 255" ∷
    ascii "tail: a digit after the last mark is not zero" ∷
    ascii "worn: a count would pass 2^32 - 1" ∷
    ascii "text: a line is malformed" ∷
    ascii "figures: the session's two figures are not what its page numbers say" ∷
    ascii "places: they are not strictly rising, or one is outside the word" ∷
    ascii "unfillable: no stored word has the digits at the other places" ∷
    ascii "ambiguous: more than one stored word has the digits at the other places" ∷
    ascii "no majority: no stored word differs in at most n / 2 digits" ∷
    ascii "directions: two are too few to tell two wrong digits" ∷
    ascii "beyond two: no stored word differs in at most two digits" ∷
    ascii "slope: a slope is not below q, or stands twice" ∷
    ascii "bill: the sum is above 2^64 - 1 thousandths of a picojoule" ∷
    ascii "far: no stored word is within reach" ∷
    []

-- a number that is no refusal has no text
unfoldable pub refusal_text : ℕ → List ℕ
refusal_text zero = []
refusal_text (suc k) = get_or refusal_texts k []

-- a text on 96 bytes, with zeros behind it
abbrev pub padded : List ℕ → List ℕ
padded text = text ++ replicate (96 - length text) 0

pub record Texted (refusal : ℕ) (text' : List ℕ) (r : ℕ) : Type 0 where
  pub size : r ≡ length (refusal_text refusal)
  pub bytes : text' ≡ padded (refusal_text refusal)

-- a list that has not 96 bytes is turned down
pub record TextCrossing (refusal : ℕ) (text text' : List ℕ) (r : ℕ) : Type 0 where
  pub right : length text ≡ 96 → Texted refusal text' r
  pub wrong : (length text ≡ 96 → ⊥) → (r ≡ 2 ^ 31 + 2) × (text' ≡ text)

-- the texts one behind the other, and where each starts
unfoldable pub joined : List (List ℕ) → List ℕ
joined [] = []
joined (t ∷ ts) = t ++ joined ts

unfoldable pub starts_from : ℕ → List (List ℕ) → List ℕ
starts_from at [] = at ∷ []
starts_from at (t ∷ ts) = at ∷ starts_from (at + length t) ts

unfoldable pub all_texts : List ℕ
all_texts = joined refusal_texts

-- by number, from 0 on
unfoldable pub text_starts : List ℕ
text_starts = 0 ∷ starts_from 0 refusal_texts
