-- Pages look at the first n - 1 slopes alone.
use mathlib.Core.Path.{◌≡◌, refl, ap}
use mathlib.Core.List.{List, ◌∷◌}
use Prim.Native.Nat.{ℕ, ◌+◌}
use lib.Dec.{eqb, leb, ltb}
use lib.ListN.{length, get_or, take, drop}
use Rattle.gtb.specs.declared.Shape.{Shape}
use Rattle.gtb.specs.declared.Refusal.{Refusal}
use Rattle.std.specs.Prelude.{Ok, Err}
use Rattle.gtb.specs.Shape.{info_length}
use Rattle.gtb.specs.Square.{narrow}
use Rattle.gtb.specs.Answer.{unless}
use Rattle.gtb.specs.Alike.{reslope, Alike}
use Rattle.gtb.proofs.Alikes.{lawful_alike, refusal_alike}
use Rattle.page.specs.Page.{functions, zeros, most, page_of, marks_in, marks_of, write_status, page_symbols}

module _ (s : Shape) (slopes : List ℕ) (alike : Alike s slopes) where
  pub page_alike : (symbols : List ℕ) → page_of (reslope s slopes) symbols ≡ page_of s symbols
  unfolding page_of
  page_alike symbols = λ i.
      unless (lawful_alike s slopes alike i) (Err (refusal_alike s slopes alike i))
      (unless (eqb (length symbols) (info_length s)) (Err Refusal.Length)
      (unless (narrow s.b symbols) (Err Refusal.Width)
      (unless (ltb (get_or symbols 0 0) 1024) (Err Refusal.Page)
      (unless (leb (get_or symbols 1 0) (most s)) (Err Refusal.Count)
      (unless (functions (take (get_or symbols 1 0) (drop 2 symbols))) (Err Refusal.Function)
      (unless (zeros (drop (2 + get_or symbols 1 0) symbols)) (Err Refusal.Tail) (Ok (get_or symbols 0 0, get_or symbols 1 0))))))))

  pub marks_alike : (symbols : List ℕ) → marks_of (reslope s slopes) symbols ≡ marks_of s symbols
  unfolding marks_of
  marks_alike symbols = ap (marks_in symbols) (page_alike symbols)

  pub write_alike : (number : ℕ) (marks symbols : List ℕ) → write_status (reslope s slopes) number marks symbols ≡ write_status s number marks symbols
  unfolding write_status
  write_alike number marks symbols = λ i.
      unless (lawful_alike s slopes alike i) (Err (refusal_alike s slopes alike i))
      (unless (eqb (length symbols) (info_length s)) (Err Refusal.Length)
      (unless (ltb number 1024) (Err Refusal.Page)
      (unless (leb (length marks) (most s)) (Err Refusal.Count)
      (unless (functions marks) (Err Refusal.Function)
      (unless (narrow s.b (number ∷ length marks ∷ marks)) (Err Refusal.Width) (Ok tt))))))

  pub symbols_alike : (number : ℕ) (marks : List ℕ) → page_symbols (reslope s slopes) number marks ≡ page_symbols s number marks
  unfolding page_symbols
  symbols_alike number marks = refl
