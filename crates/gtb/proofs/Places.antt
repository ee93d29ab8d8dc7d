-- Data places, and the data digits of a word, are the paper's.
use mathlib.Core.Path.{◌≡◌, sym, ap, ◌∙◌}
use mathlib.Core.List.{List}
use Prim.Native.Nat.{ℕ, ◌<◌}
use native.Mathlib.Nat.{lt_trans}
use lib.Dec.{eqb}
use lib.ListN.{length}
use Rattle.parity.specs.Xor.{when}
use Rattle.parity.specs.Count.{bit}
use Rattle.parity.specs.Lists.{tabulate}
use Rattle.parity.proofs.XorSums as xors
use Rattle.parity.proofs.Lists.{length_tabulate, at_tabulate}
use Rattle.paper.specs.Paper as paper
use Rattle.gtb.specs.declared.Shape.{Shape}
use Rattle.gtb.specs.Shape.{of, Lawful, info_length}
use Rattle.gtb.specs.Square.{line_of, at}
use Rattle.gtb.specs.Positions.{Dependent, info_position, extract_of}
use Rattle.gtb.proofs.Positions.{information_positions}
use Rattle.gtb.proofs.Stored.{line_same}

module _ (s : Shape) where
  entry_same : (t L j : ℕ) → bit (eqb (paper.line (of s) t j) L) ≡ bit (eqb (line_of s t j) L)
  entry_same t L j = ap (λ (x : ℕ). bit (eqb x L)) (sym (line_same s t j))

  pub dependent_place : {j : ℕ} → Dependent s j → paper.DataPlace (of s) j
  dependent_place {j} d = record {
    chosen = d.chosen;
    sum = λ t L lt lL. entry_same t L j ∙ d.sum t L lt lL ∙ xors.cong j _ _ (λ i l. ap (when (d.chosen i)) (sym (entry_same t L i)));
  }

  pub place_dependent : {j : ℕ} → paper.DataPlace (of s) j → Dependent s j
  place_dependent {j} d = record {
    chosen = d.chosen;
    sum = λ t L lt lL. sym (entry_same t L j) ∙ d.sum t L lt lL ∙ xors.cong j _ _ (λ i l. ap (when (d.chosen i)) (entry_same t L i));
  }

  pub extracted : Lawful s → (w : List ℕ) → paper.DataDigits (of s) w (extract_of s w)
  unfolding extract_of
  extracted law w =
      let p = information_positions s law in
      let K : ℕ = info_length s in
      let size = length_tabulate K (info_position s) in
      let in-places : (i : ℕ) → i < length (tabulate K (info_position s)) → i < K = λ i l. rw size at l in
      record {
        places = tabulate K (info_position s);
        rising = λ i k l lk. let lk' = in-places k lk in rw (at_tabulate K (info_position s) i (lt_trans l lk'), at_tabulate K (info_position s) k lk') (p.rising i k l lk');
        each = λ i l. let l' = in-places i l in rw (at_tabulate K (info_position s) i l') (p.lower i l', dependent_place (p.dependent i l'));
        every = λ j l d. let (k, lk, e) = p.complete j l (place_dependent d) in (k, rw size lk, at_tabulate K (info_position s) k lk ∙ e);
        number = length_tabulate K _ ∙ sym size;
        same = λ i l. let l' = in-places i l in at_tabulate K _ i l' ∙ ap (at w) (sym (at_tabulate K (info_position s) i l'));
      }
