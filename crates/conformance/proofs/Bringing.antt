-- A recording and what an arrival brings are the paper's.
use mathlib.Core.Path.{◌≡◌, sym, ap, ◌∙◌, subst}
use mathlib.Core.Bool.{true}
use mathlib.Core.List.{List, ◌∷◌}
use mathlib.Core.Logic.{inl, inr}
use Prim.Native.Nat.{ℕ, zero, suc, ◌+◌, ◌<◌, ◌≤◌}
use native.Mathlib.Decide.{dec_lt}
use native.Mathlib.Omega.{arith}
use lib.Dec.{leb}
use lib.ListN.{length, get_or}
use lib.Seq.{ext_get_or}
use borrow.Author.Tests.{eq-eqb, lt-ltb, ltb-true, leb-true}
use Rattle.parity.specs.Xor.{◌⊕◌}
use Rattle.parity.proofs.Lists.{is_tabulate, length_tabulate}
use Rattle.paper.specs.Paper as paper
use Rattle.paper.specs.Reading.{nonzero}
use Rattle.gtb.specs.declared.Shape.{Shape}
use Rattle.std.specs.Prelude.{Ok}
use Rattle.gtb.specs.Shape.{Lawful, of}
use Rattle.gtb.specs.Square.{at}
use Rattle.gtb.proofs.Sizes.{sizes}
use Rattle.correction.specs.Error.{weight, damaged}
use Rattle.correction.proofs.Errors.{damaged_at}
use Rattle.page.specs.Page.{most, write_status, page_symbols}
use Rattle.page.proofs.Pages.{page_length}
use Rattle.session.specs.Arrival.{is_way, way_of, the_ways}
use Rattle.session.specs.Recording.{Sheet, Arrival, Brings}
use Rattle.gtb.proofs.Judging.{passes, decides_below, decides_upto}
use Rattle.gtb.proofs.Conditions.{decides_width}
use Rattle.gtb.proofs.Stored.{word_digits, digits_word, codeword_stored, stored_codeword}
use Rattle.gtb.proofs.Scratches.{scratch_length_lem}
use Rattle.page.proofs.Paper.{decides_functions, page_digits}
use Rattle.correction.proofs.Paper.{on_check_lem}
use Rattle.gtb.proofs.Places.{extracted}
use Rattle.conformance.proofs.Rising.{data_digits}

-- our page and our arrival of the paper's
abbrev pub to_sheet : paper.Sheet → Sheet
to_sheet p = record { number = p.number; marks = p.marks }

abbrev pub to_arrival : paper.Arrival → Arrival
to_arrival a = record { way = a.way; word = a.word; scratch = a.scratch }

module _ (s : Shape) where
  -- ---- a page that the writer accepts
  pub accepted_page : Lawful s → (page : ℕ) (marks : List ℕ) → paper.Judged (paper.writable (of s) page marks) (λ k. ⊥) (Unit {0})
      → write_status s page marks (page_symbols s page marks) ≡ Ok tt
  unfolding write_status
  accepted_page law page marks (inl (c, none)) = absurd none
  accepted_page law page marks (inr (page-no, inl (c, none))) = absurd none
  accepted_page law page marks (inr (page-no, inr (count_no, inl (c, none)))) = absurd none
  accepted_page law page marks (inr (page-no, inr (count_no, inr (function-no, inl (c, none))))) = absurd none
  accepted_page law page marks (inr (page-no, inr (count_no, inr (function-no, inr (width-no, all))))) =
      let few : leb (length marks) (most s) ≡ true = passes (decides_upto _ _) count_no in
      rw (
        law,
        eq-eqb _ _ (page_length s page marks (sizes s law).least (leb-true _ _ few)),
        passes (decides_below page 1024) page-no,
        few,
        passes (decides_functions s marks) function-no,
        passes (decides_width s (page ∷ length marks ∷ marks)) width-no,
      )

  -- ---- the digits of a page are determined
  pub page_unique : {page : ℕ} {marks d e : List ℕ} → paper.Page (of s) page marks d → paper.Page (of s) page marks e → d ≡ e
  page_unique {page} {marks} {d} {e} x y = ext_get_or 0 d e (x.size ∙ sym y.size) place
    where
      place : (j : ℕ) → j < length d → get_or d j 0 ≡ get_or e j 0
      place zero l = x.first ∙ sym y.first
      place (suc zero) l = x.second ∙ sym y.second
      place (suc (suc i)) l =
          let two : 2 + i ≡ suc (suc i) = omega arith in
          elim (dec_lt i (length marks)) [
            | yes m ↦ ap (at d) (sym two) ∙ x.next i m ∙ sym (y.next i m) ∙ ap (at e) two
            | no m ↦ x.rest _ (omega arith) (omega (arith, x.size)) ∙ sym (y.rest _ (omega arith) (omega (arith, x.size)))
          ]

  -- ---- the damage that a way allows
  allowed_to : (way : ℕ) (e : List ℕ) → paper.Allowed (of s) way e → (way_of way).Allowed s (at e)
  unfolding way_of weight nonzero
  allowed_to zero e (clean, few) = (record { unmasked = λ t j lt lj some none. clean t j lt lj some (sym (on_check_lem s e t j) ∙ none) }, few)
  allowed_to (suc zero) e few = few
  allowed_to (suc (suc way)) e both = both

  allowed_from : (way : ℕ) (e : List ℕ) → (way_of way).Allowed s (at e) → paper.Allowed (of s) way e
  unfolding way_of weight nonzero
  allowed_from zero e (u, few) = ((λ t j lt lj some none. u.unmasked t j lt lj some (on_check_lem s e t j ∙ none)), few)
  allowed_from (suc zero) e few = few
  allowed_from (suc (suc way)) e both = both

  -- ---- what an arrival brings
  module _ (law : Lawful s) {a : paper.Arrival} {p : paper.Sheet} {k : ℕ} (few : length p.marks ≤ most s) where
    pub brings_to : paper.Brings (of s) a p k → Brings the_ways s (to_arrival a) (to_sheet p) k
    unfolding is_way weight nonzero damaged
    brings_to x = record {
      known = lt-ltb a.way 3 (omega (arith, x.known));
      stored = x.v;
      encodes = record {
        codeword = stored_codeword s x.damaged.stored;
        information = sym (data_digits s law x.v x.digits x.has) ∙ page_unique x.are (page_digits s p.number p.marks (sizes s law).least few);
      };
      error = x.damage;
      damage = digits_word s x.damaged.digits;
      allowed = allowed_to a.way x.damage x.allowed;
      changed = x.number;
      word =
          is_tabulate (length x.v) (λ j. at x.v j ⊕ at x.damage j) a.word (x.damaged.number ∙ sym x.damaged.stored.digits.number)
          (λ j l. x.damaged.given j (rw x.damaged.stored.digits.number at l));
      scratch = x.scratch ∙ sym (scratch_length_lem s);
    }

    pub brings_from : Brings the_ways s (to_arrival a) (to_sheet p) k → paper.Brings (of s) a p k
    unfolding is_way weight nonzero damaged
    brings_from x = record {
      known = let l = ltb-true a.way 3 x.known in omega arith;
      v = x.stored;
      digits = page_symbols s p.number p.marks;
      has = subst (paper.DataDigits (of s) x.stored) x.encodes.information (extracted s law x.stored);
      are = page_digits s p.number p.marks (sizes s law).least few;
      damage = x.error;
      damaged = record {
        stored = codeword_stored s x.encodes.codeword;
        digits = word_digits s x.damage;
        number = ap length x.word ∙ length_tabulate (length x.stored) _ ∙ x.encodes.codeword.word.size;
        given = λ j l. ap (λ (u : List ℕ). at u j) x.word ∙ damaged_at s x.stored x.error x.encodes.codeword.word x.damage j l;
      };
      allowed = allowed_from a.way x.error x.allowed;
      number = x.changed;
      scratch = x.scratch ∙ scratch_length_lem s;
    }
