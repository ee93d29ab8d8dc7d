-- Lists that cross element by element, and where the parts of a session lie among its values.
use mathlib.Core.Path.{◌≡◌, sym, ap, ◌∙◌}
use mathlib.Core.Bool.{Bool}
use mathlib.Core.List.{List, [], ◌∷◌, ◌++◌, map, append-nil, append_assoc}
use Prim.Native.Nat.{ℕ, ◌+◌, ◌-◌, ◌<◌, ◌≤◌}
use native.Mathlib.Nat.{le_of_eq}
use native.Mathlib.Numerals.{add-one}
use native.Mathlib.Omega.{arith}
use lib.ListN.{length, get_or, take, drop, set, length-set, length-append}
use lib.Seq.{drop-cons, drop-length, length-take-le, take-suc-set, take_all, take-length, append_snoc, take_at}
use borrow.Rule.Slice.PartMut.{mid_of, put_mid, same_len_mid, mid_len}
use Rattle.parity.specs.Count.{bit}
use Rattle.page.proofs.Parts.{rest_part}
use Rattle.session.specs.declared.Session.{Session}
use Rattle.gtb.specs.declared.Shape.{Shape}
use Rattle.host.specs.Crossing.{shape_in, shape_values, is_yes, session_of, values_of}

module _ {A B : Type 0} (f : A → B) (from : List A) (to : List B) (i : ℕ) (e : take i to ++ map f (drop i from) ≡ map f from) where
  -- i elements have crossed, and one more does
  pub crossed : (d : A) {x : B} → x ≡ f (get_or from i d) → i < length from → i < length to → take (i + 1) (set to i x) ++ map f (drop (i + 1) from) ≡ map f from
  crossed d is l room = rw (is, add-one i, take-suc-set to i _ room, append_snoc) (rw (drop-cons from i d l) at e)

  pub all_crossed : i ≡ length from → i ≡ length to → to ≡ map f from
  all_crossed l m = sym (ap (λ k. take k to) m ∙ take-length to) ∙ sym (rw (l, drop-length, append-nil)) ∙ e

-- ---- a shape
pub shape_loaded : (v : List ℕ) {slopes : List ℕ} → slopes ≡ mid_of 3 (length v - 3) v
    → ◌≡◌ {A = Shape} (record { q = get_or v 0 0; n = get_or v 1 0; b = get_or v 2 0; slopes = slopes }) (shape_in v)
unfolding shape_in
shape_loaded v e = rw (e, rest_part 3 v)

-- ---- a session
-- the session, from its parts as the code lends them
pub loaded : (v : List ℕ) {shape : Shape} {taken : List Bool} {calls : List ℕ} → shape ≡ shape_in (take 10 v) → taken ≡ map is_yes (mid_of 12 1024 v)
    → calls ≡ mid_of 1036 (length v - 1036) v
    → ◌≡◌ {A = Session} (record { shape = shape; taken = taken; calls = calls; pages = get_or v 10 0; lowest = get_or v 11 0 }) (session_of v)
unfolding session_of
loaded v s t c = rw (s, t, c, rest_part 1036 v)

-- ---- values laid down one part after the other
pub record Laid (v front : List ℕ) (n : ℕ) : Type 0 where
  pub first : take n v ≡ front
  pub size : length v ≡ 1292

module _ {v front : List ℕ} {n : ℕ} (h : Laid v front n) where
  pub laid_value : (x : ℕ) → n < 1292 → Laid (set v n x) (front ++ (x ∷ [])) (n + 1)
  laid_value x l = record { first = rw (add-one n, take-suc-set v n x (omega (arith, h.size)), h.first); size = length-set v n x ∙ h.size }

  pub laid_part : (e : ℕ) (xs : List ℕ) {part : List ℕ} → n ≤ e → e ≤ 1292 → length xs ≡ e - n → part ≡ xs → Laid (put_mid n (e - n) v part) (front ++ xs) e
  laid_part e xs l room many is =
      let before : length (take n v) ≡ n = length-take-le n v (omega (arith, h.size)) in
      rw is
      (record {
        first = ap (take e) (sym (append_assoc (take n v) xs _)) ∙ take_at (take n v ++ xs) _ e (omega (arith, length-append (take n v) xs)) ∙ ap (λ (ys : List ℕ). ys ++ xs) h.first;
        size = same_len_mid n (e - n) v xs (many ∙ sym (mid_len n e v (omega (arith, h.size)))) ∙ h.size;
      })

-- all of them are a session's
pub stored : (σ : Session) {v : List ℕ} → Laid v ((((((σ.shape.q ∷ σ.shape.n ∷ σ.shape.b ∷ []) ++ σ.shape.slopes) ++ (σ.pages ∷ [])) ++ (σ.lowest ∷ [])) ++ map bit σ.taken) ++ σ.calls) 1292 → v ≡ values_of σ
unfolding values_of shape_values
stored σ {v} h = sym (take_all 1292 v (le_of_eq h.size)) ∙ h.first ∙ simp append_assoc
