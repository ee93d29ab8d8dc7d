-- The exported pair has the standard slopes: it never refuses with 18.
use mathlib.Core.Path.{◌≡◌}
use mathlib.Core.List.{List}
use Prim.Native.Nat.{ℕ, ◌*◌}
use lib.Dec.{eqb}
use lib.ListN.{length}
use Rattle.gtb.specs.declared.Refusal.{Refusal}
use Rattle.gtb.specs.Shape.{standard, lawful, shape_refusal, word_length, info_length}
use Rattle.gtb.proofs.Answers.{unless_never}
use Rattle.gtb.proofs.Standard.{slope_foreign}
use Rattle.std.specs.Prelude.{Err}
use Rattle.decoder.proofs.Meaning.{decode_never}
use Rattle.page.proofs.Refusals.{page_never}
use Rattle.host.specs.Bytes.{symbols_of}
use Rattle.host.specs.Exported.{word_of, page_in}

pub word_never_slope : (q n b : ℕ) (bytes : List ℕ) → word_of (standard q n b) bytes ≡ Err Refusal.Slope → ⊥
unfolding word_of
word_never_slope q n b bytes =
    let f = slope_foreign q n b in
    let s = standard q n b in
    unless_never (lawful s) (Err (shape_refusal s)) _ (λ no h. f.shape no (cc))
    (unless_never (eqb (length bytes) (4 * word_length s)) (Err Refusal.Length) _ (λ _ h. f.length (cc)) (decode_never s (symbols_of bytes) Refusal.Slope f))

pub page_never_slope : (q n b : ℕ) (bytes : List ℕ) → page_in (standard q n b) bytes ≡ Err Refusal.Slope → ⊥
unfolding page_in
page_never_slope q n b bytes =
    let f = slope_foreign q n b in
    let s = standard q n b in
    unless_never (lawful s) (Err (shape_refusal s)) _ (λ no h. f.shape no (cc))
    (unless_never (eqb (length bytes) (4 * info_length s)) (Err Refusal.Length) _ (λ _ h. f.length (cc)) (page_never s (symbols_of bytes) Refusal.Slope f))
