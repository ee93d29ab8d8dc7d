-- Texts that are put together piece by piece, and texts that come.
use mathlib.Core.Path.{◌≡◌, sym, ap, ◌∙◌}
use mathlib.Core.Bool.{Bool, true, false, ◌&&◌}
use mathlib.Core.List.{List, [], ◌∷◌, ◌++◌}
use mathlib.Core.Logic.{⊎_elim}
use Prim.Native.Nat.{ℕ, ◌+◌, ◌≤◌}
use native.Mathlib.Omega.{arith}
use borrow.Author.Tests.{ne_eqb, eqb-true, eqb-false}
use lib.Dec.{eqb}
use lib.ListN.{length, get_or, take}
use lib.Seq.{length-take-le}
use Rattle.std.specs.Str.{bytes_eq}
use Rattle.parity.proofs.Tests.{either}
use Rattle.lines.specs.Text.{Put}
use Rattle.capture.proofs.Texts.{put_appended}
use Rattle.program.specs.Choice.{dash}

-- a text is put after the first bytes
pub put_after : {old text new before : List ℕ} {at r : ℕ} → take at old ≡ before → at ≤ length old → length before + length text ≤ length old → Put old at text new r → take r new ≡ before ++ text
put_after {old} {text} {before = before} {at = at} is low fits p =
    let size : at ≡ length before = sym (length-take-le at old low) ∙ ap length is in
    (put_appended (omega (arith, size)) p).front ∙ ap (λ (x : List ℕ). x ++ text) is

-- a text begins with a dash, or it does not
pub dashed_is : {r : Bool} (argument : List ℕ) → r ≡ bytes_eq (dash ∷ []) (take 1 argument) → r ≡ eqb (get_or argument 0 0) dash
dashed_is [] h = h
dashed_is (b ∷ rest) h =
    ⊎_elim
    (λ (t : eqb b dash ≡ true). rw t (h ∙ ap (λ (n : ℕ). bytes_eq (dash ∷ []) (n ∷ [])) (eqb-true b dash t)))
    (λ (f : eqb b dash ≡ false). rw f (h ∙ ap (λ (x : Bool). x && true) (ne_eqb dash b (λ e. eqb-false b dash f (sym e)))))
    (either (eqb b dash))
