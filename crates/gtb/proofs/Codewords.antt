-- Information symbols determine a codeword, and every choice of them has one.
use mathlib.Core.Path.{◌≡◌, sym, ap, ap₂, ◌∙◌}
use mathlib.Core.List.{List}
use Prim.Native.Nat.{ℕ, ◌+◌, ◌-◌, ◌*◌, ◌^◌, ◌<◌, ◌≤◌}
use lib.Arith.{digits_lt}
use lib.ListN.{length, get_or}
use lib.Seq.{ext_get_or}
use Rattle.parity.specs.Xor.{◌⊕◌}
use Rattle.parity.specs.Lists.{tabulate}
use Rattle.parity.proofs.Xors.{self, eq_of_zero}
use Rattle.parity.proofs.Lists.{at_tabulate, is_tabulate}
use Rattle.gtb.specs.declared.Shape.{Shape}
use Rattle.gtb.specs.Shape.{Lawful, word_length, info_length}
use Rattle.gtb.specs.Square.{at, Silent}
use Rattle.gtb.specs.Positions.{info_position, extract_of, Encodes}
use Rattle.gtb.proofs.Rows.{syndrome_cong, syndrome_linear}
use Rattle.gtb.proofs.Words.{tabulate_word}
use Rattle.gtb.proofs.Information.{info_index, is_information_lem, by_cell, info_lt, info_is, info_index_lem, info_complete}
use Rattle.gtb.proofs.Silence.{silent_zero, silent_exists}

-- two words with the same information symbols have them on the same positions
agree : (s : Shape) (symbols w v : List ℕ) → Encodes s symbols w → Encodes s symbols v
    → (k : ℕ) → k < info_length s → at w (info_position s k) ≡ at v (info_position s k)
unfolding extract_of
agree s symbols w v ew ev k l =
    sym (at_tabulate _ (λ k. at w (info_position s k)) k l)
    ∙ ap (λ (xs : List ℕ). at xs k) (ew.information ∙ sym ev.information)
    ∙ at_tabulate _ (λ k. at v (info_position s k)) k l

-- at most one codeword has these information symbols
pub codeword_unique : (s : Shape) → Lawful s → (symbols w v : List ℕ) → Encodes s symbols w → Encodes s symbols v → w ≡ v
codeword_unique s h symbols w v ew ev =
    ext_get_or 0 w v (size_w ∙ sym ev.codeword.word.size)
    (λ j l. eq_of_zero (at w j) (at v j) (silent_zero s h (λ j. at w j ⊕ at v j) quiet zeros j (rw size_w at l)))
  where
    size_w : length w ≡ word_length s
    size_w = ew.codeword.word.size

    quiet : Silent s (λ j. at w j ⊕ at v j)
    quiet = record {
      silent = λ t L lt l.
          syndrome_linear s (at w) (at v) t L
          ∙ ap₂ (λ (x y : ℕ). x ⊕ y) (ew.codeword.checks.silent t L lt l) (ev.codeword.checks.silent t L lt l) ∙ self 0;
    }

    zeros : (r c : ℕ) → s.n - 1 ≤ r → r < s.q → 1 ≤ c → c < s.q → at w (r * s.q + c) ⊕ at v (r * s.q + c) ≡ 0
    zeros r c lr l pos lc =
        let (k, lk, e) = info_complete s h (r * s.q + c) (digits_lt l lc) (is_information_lem s h r c lr pos lc) in
        ap (λ (j : ℕ). at w j ⊕ at v j) (sym e)
        ∙ ap (λ (x : ℕ). x ⊕ at v (info_position s k)) (agree s symbols w v ew ev k lk) ∙ self (at v (info_position s k))

-- each list of K symbols is that of some codeword
pub codeword_exists : (s : Shape) → Lawful s → (symbols : List ℕ) → length symbols ≡ info_length s
    → ((k : ℕ) → get_or symbols k 0 < 2 ^ s.b) → (w : List ℕ) × Encodes s symbols w
unfolding extract_of
codeword_exists s h symbols size small =
    let g : ℕ → ℕ = λ j. at symbols (info_index s j) in
    let (f, quiet, same, narrow) = silent_exists s h s.b g (λ j. small (info_index s j)) in
    let entry = at_tabulate (word_length s) f in (
      tabulate (word_length s) f,
      record {
        codeword = record {
          word = tabulate_word s f (λ j l. narrow j);
          checks = record { silent = λ t L lt l. syndrome_cong s (at (tabulate (word_length s) f)) f t L entry ∙ quiet.silent t L lt l };
        };
        information =
            sym
            (is_tabulate (info_length s) (λ k. at (tabulate (word_length s) f) (info_position s k)) symbols size
            (λ k l.
            sym
            (entry (info_position s k) (info_lt s h k l) ∙ by_cell s h f g same (info_position s k) (info_lt s h k l) (info_is s h k l)
            ∙ ap (at symbols) (info_index_lem s h k))));
      },
    )
