-- `host::crossing::store` meets its contract: each part is laid down behind those before it.
use mathlib.Core.Path.{◌≡◌, refl, ◌∙◌}
use mathlib.Core.List.{List, [], ◌∷◌, ◌++◌, map}
use Prim.Native.Nat.{ℕ}
use native.Mathlib.Omega.{arith}
use lib.ListN.{length, set, length-map}
use mir.Syntax.{w32}
use denote.Plain.{UInt, Boolean}
use borrow.Rule.Slice.PartMut.{put_mid}
use Rattle.parity.specs.Count.{bit}
use Rattle.session.proofs.Arrays.{sized}
use Rattle.host.proofs.Crossings.{Laid, laid_value, laid_part, stored}
use Rattle.host.proofs.crossing.store.Goals as goal

pub returns : goal.returns
returns c =
    let σ = c.args.session in
    let s = σ.shape in
    let v = c.args.values.now in
    let seven : length s.slopes ≡ 7 = sized (UInt w32) 7 s.slopes _ c.well_formed.0.1.1.0.1.1.1.1.1.0 in
    let many : length σ.taken ≡ 1024 = sized Boolean 1024 σ.taken _ c.well_formed.0.1.1.1.0 in
    let counts : length σ.calls ≡ 256 = sized (UInt w32) 256 σ.calls _ c.well_formed.0.1.1.1.1.0 in
    -- the values with the shape's numbers, its slopes, the figures, the marks and the counts
    let v3 : List ℕ = set (set (set v 0 s.q) 1 s.n) 2 s.b in
    let v12 : List ℕ = set (set (put_mid 3 7 v3 c.copy_from_slice.new.self) 10 σ.pages) 11 σ.lowest in
    let v1036 : List ℕ = put_mid 12 1024 v12 c.store_taken.new.values in
    let none : Laid v [] 0 = record { first = refl; size = c.requires } in
    let three : Laid v3 (s.q ∷ s.n ∷ s.b ∷ []) 3 = laid_value (laid_value (laid_value none s.q (omega arith)) s.n (omega arith)) s.b (omega arith) in
    let sloped : Laid (put_mid 3 7 v3 c.copy_from_slice.new.self) ((s.q ∷ s.n ∷ s.b ∷ []) ++ s.slopes) 10 =
    laid_part three 10 s.slopes (omega arith) (omega arith) seven c.copy_from_slice.ensures.after in
    let figured : Laid v12 ((((s.q ∷ s.n ∷ s.b ∷ []) ++ s.slopes) ++ (σ.pages ∷ [])) ++ (σ.lowest ∷ [])) 12 = laid_value (laid_value sloped σ.pages (omega arith)) σ.lowest (omega arith) in
    let marked : Laid v1036 (((((s.q ∷ s.n ∷ s.b ∷ []) ++ s.slopes) ++ (σ.pages ∷ [])) ++ (σ.lowest ∷ [])) ++ map bit σ.taken) 1036 =
    laid_part figured 1036 (map bit σ.taken) (omega arith) (omega arith) (length-map σ.taken bit ∙ many) c.store_taken.ensures in
    stored σ (laid_part marked 1292 σ.calls (omega arith) (omega arith) counts c.copy_from_slice-2.ensures.after)
