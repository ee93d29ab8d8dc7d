-- Reading a line value by value.
use mathlib.Core.Path.{◌≡◌, sym, ap, ◌∙◌}
use Rattle.std.specs.Prelude.{Option, Some, None}
use mathlib.Core.List.{List, [], ◌∷◌, ◌++◌}
use Prim.Native.Nat.{ℕ, suc, ◌+◌, ◌≤◌, ◌<◌}
use native.Mathlib.Numerals.{add-one}
use native.Mathlib.Omega.{arith}
use borrow.Author.Count.{below_more}
use lib.ListN.{length, get_or, drop, set, length-append, length-set, get_or-append, drop_of_length-le}
use lib.Seq.{drop-cons, get_or-set_same, get_or-set_other, get_or_at}
use Rattle.lines.specs.Text.{space, decimal, Spells}
use Rattle.lines.specs.Parse.{Stored, Parsing}
use Rattle.lines.specs.Scan.{ValueAt, Scanning}
use Rattle.lines.proofs.Spelling.{Left, left_more, left_last, left_missing, left_other}

-- before `from` stand `count` values, each with a space after it; the first 1024 are stored
pub record Progress (line stored : List ℕ) (count from : ℕ) : Type 0 where
  pub done : List ℕ
  pub left : Left line done (drop from line)
  pub counted : length done ≡ count
  pub kept : (i : ℕ) → i < count → i < 1024 → get_or stored i 0 ≡ get_or done i 0
  pub size : length stored ≡ 1024
  pub low : count ≤ from
  pub high : from ≤ length line

-- a refusal
malformed : (line stored : List ℕ) → length stored ≡ 1024 → ((zs : List ℕ) → Spells line zs → ⊥) → Parsing line stored None
malformed line stored size none =
    record { size = size; accepted = λ n e. absurd (cc); refused = λ e. none }

module _ {line stored : List ℕ} {count from : ℕ} (p : Progress line stored count from) where
  -- no value
  pub unread : (r : Option (ℕ × ℕ)) → Scanning line from r → r ≡ None → Parsing line stored None
  unread r h e = malformed line stored p.size (left_missing p.left (h.missing e))

  module _ {v next : ℕ} (a : ValueAt line from v next) where
    new_size : length (set stored count v) ≡ 1024
    new_size = rw length-set p.size

    new_counted : length (p.done ++ (v ∷ [])) ≡ count + 1
    new_counted = rw (length-append, p.counted)

    new_kept : (i : ℕ) → i < count + 1 → i < 1024 → get_or (set stored count v) i 0 ≡ get_or (p.done ++ (v ∷ [])) i 0
    new_kept =
        below_more (λ i. i < 1024 → get_or (set stored count v) i 0 ≡ get_or (p.done ++ (v ∷ [])) i 0) count
        (λ i l m. get_or-set_other stored count i v 0 (omega arith) ∙ p.kept i l m ∙ sym (get_or-append p.done (v ∷ []) 0 i (rw p.counted l)))
        (λ m. get_or-set_same stored count v 0 (rw p.size m) ∙ sym (get_or_at p.done v [] 0 count p.counted))

    -- the line ends after the value
    pub finished : next ≡ length line → Parsing line (set stored count v) (Some (count + 1))
    finished e =
        let s = left_last p.left v a.small (a.text ∙ ap (λ (l : List ℕ). decimal v ++ l) (drop_of_length-le line {i = next} (omega arith))) in
        let h : Stored line (set stored count v) (count + 1) = record { values = p.done ++ (v ∷ []); spelled = s; counted = new_counted; kept = new_kept } in
        record {
          size = new_size;
          accepted = λ n q. let k : count + 1 ≡ n = cc in rw k at h;
          refused = λ q. absurd (cc);
        }

    cut : next < length line → drop from line ≡ decimal v ++ get_or line next 0 ∷ drop (suc next) line
    cut l = a.text ∙ ap (λ (t : List ℕ). decimal v ++ t) (drop-cons line next 0 l)

    -- a space after the value
    pub turn : next < length line → get_or line next 0 ≡ space → Progress line (set stored count v) (count + 1) (next + 1)
    turn l e =
        record {
          done = p.done ++ (v ∷ []);
          left = rw (add-one next) (left_more p.left v (drop (suc next) line) a.small (cut l ∙ ap (λ (b : ℕ). decimal v ++ b ∷ drop (suc next) line) e));
          counted = new_counted;
          kept = new_kept;
          size = new_size;
          low = omega (arith, p.low, a.low);
          high = omega arith;
        }

    -- something else after the value
    pub unparted : next < length line → (get_or line next 0 ≡ space → ⊥) → Parsing line (set stored count v) None
    unparted l ne = malformed line (set stored count v) new_size (left_other p.left v (get_or line next 0) (drop (suc next) line) (rw (drop-cons line next 0 l) at a.stops) ne (cut l))
