-- The page (RULES 4).
use Rattle.std.specs.Prelude.{◌≡◌, Bool, List, [], ◌∷◌, ◌++◌, ℕ, ◌+◌, ◌-◌, ◌*◌, ◌^◌, eqb, leb, ltb, length, get_or, take, drop, replicate, Result, Ok, Err}
use Rattle.std.specs.Borrow.{Bor}
use Rattle.parity.specs.Count.{all}
use Rattle.gtb.specs.declared.Shape.{Shape}
use Rattle.gtb.specs.declared.Refusal.{Refusal}
use Rattle.gtb.specs.Shape.{lawful, shape_refusal, info_length}
use Rattle.gtb.specs.Square.{narrow}
use Rattle.gtb.specs.Answer.{refusal_number, unless}

-- function numbers are 0 to 255
unfoldable pub functions : List ℕ → Bool
functions marks = all (length marks) (λ i. ltb (get_or marks i 0) 256)

unfoldable pub zeros : List ℕ → Bool
zeros xs = all (length xs) (λ i. eqb (get_or xs i 0) 0)

-- at most K - 2 marks
abbrev pub most : Shape → ℕ
most s = info_length s - 2

-- as one number: 1024 × page number + c, or 2^31 plus the refusal's number
abbrev pub read_number : Result (ℕ × ℕ) Refusal → ℕ
read_number (Ok (number, c)) = 1024 * number + c
read_number (Err e) = 2 ^ 31 + refusal_number e

-- symbol 0 is the page number, symbol 1 the number c of marks, the next c are marks, the rest zeros; tests 1, 18, 2, 3, 5, 6, 7, 8
unfoldable pub page_of : Shape → List ℕ → Result (ℕ × ℕ) Refusal
page_of s symbols =
    unless (lawful s) (Err (shape_refusal s))
    (unless (eqb (length symbols) (info_length s)) (Err Refusal.Length)
    (unless (narrow s.b symbols) (Err Refusal.Width)
    (unless (ltb (get_or symbols 0 0) 1024) (Err Refusal.Page)
    (unless (leb (get_or symbols 1 0) (most s)) (Err Refusal.Count)
    (unless (functions (take (get_or symbols 1 0) (drop 2 symbols))) (Err Refusal.Function)
    (unless (zeros (drop (2 + get_or symbols 1 0) symbols)) (Err Refusal.Tail)
    (Ok (get_or symbols 0 0, get_or symbols 1 0))))))))

-- the marks: the part of the symbols that starts at place 2, c long; empty where the page reader refuses
abbrev pub marks_in : List ℕ → Result (ℕ × ℕ) Refusal → List ℕ
marks_in symbols (Ok (number, c)) = take c (drop 2 symbols)
marks_in symbols (Err e) = []

unfoldable pub marks_of : Shape → List ℕ → List ℕ
marks_of s symbols = marks_in symbols (page_of s symbols)

-- they are lent where they stand: the part that begins with symbol 2, four bytes a symbol
pub record MarksPart (s : Shape) (symbols part : Bor (List ℕ)) : Type 0 where
  pub marks : part.now ≡ marks_of s symbols.now
  pub place : (number c : ℕ) → page_of s symbols.now ≡ Ok (number, c) → part.ref_ptr ≡ (symbols.ref_ptr.0, symbols.ref_ptr.1 + 2 * 4)

-- the page writer tests 1, 18, 2, 5, 6, 7, then 3 over page number, c and marks
unfoldable pub write_status : Shape → ℕ → List ℕ → List ℕ → Result (Unit {0}) Refusal
write_status s number marks symbols =
    unless (lawful s) (Err (shape_refusal s))
    (unless (eqb (length symbols) (info_length s)) (Err Refusal.Length)
    (unless (ltb number 1024) (Err Refusal.Page)
    (unless (leb (length marks) (most s)) (Err Refusal.Count)
    (unless (functions marks) (Err Refusal.Function)
    (unless (narrow s.b (number ∷ length marks ∷ marks)) (Err Refusal.Width) (Ok tt))))))

-- the information symbols of a page
unfoldable pub page_symbols : Shape → ℕ → List ℕ → List ℕ
page_symbols s number marks = number ∷ length marks ∷ (marks ++ replicate (most s - length marks) 0)

-- a refusal leaves the lent list as it was
abbrev pub symbols_after : Shape → ℕ → List ℕ → List ℕ → Result (Unit {0}) Refusal → List ℕ
symbols_after s number marks symbols (Ok tt) = page_symbols s number marks
symbols_after s number marks symbols (Err e) = symbols

-- the page writer: its answer, and what then stands in the lent list
pub record Writing (s : Shape) (page : ℕ) (marks symbols symbols' : List ℕ) (r : Result (Unit {0}) Refusal) : Type 0 where
  pub answer : r ≡ write_status s page marks symbols
  pub written : symbols' ≡ symbols_after s page marks symbols r
