-- Every recording has a list of arrivals that fits it, whichever ways that can be used with the shape these are to name: its stored words as they are, one for each page.
use mathlib.Core.Path.{◌≡◌, refl, ap}
use mathlib.Core.Bool.{true}
use mathlib.Core.List.{List, [], ◌∷◌}
use mathlib.Core.Logic.{inr}
use Prim.Native.Nat.{ℕ, zero, suc, ◌<◌, suc-le-suc, zero-le}
use native.Mathlib.Nat.{not-suc-le-zero, le_of_suc-le-suc}
use lib.ListN.{length, replicate, length-replicate}
use Rattle.gtb.specs.declared.Shape.{Shape}
use Rattle.std.specs.Prelude.{Ok}
use Rattle.gtb.specs.Shape.{Lawful, scratch_length}
use Rattle.gtb.proofs.Words.{narrow_at}
use Rattle.gtb.proofs.Codewords.{codeword_exists}
use Rattle.page.specs.Page.{write_status}
use Rattle.page.proofs.Pages.{write_read, page_facts}
use Rattle.session.specs.Arrival.{is_way, way_of, the_ways}
use Rattle.session.specs.Recording.{Sheet, sheet_at, symbols_of, Recording, Arrival, arrival_at, Brings, Fits}
use Rattle.session.proofs.NoDamage.{no_damage, no_damage_word, no_damage_weight, no_damage_same}
use Rattle.session.proofs.Ways.{all_read}

-- by the way that is asked for, and brings the page undamaged
pub record Undamaged (s : Shape) (way : ℕ) (p : Sheet) (a : Arrival) : Type 0 where
  pub named : a.way ≡ way
  pub brings : Brings the_ways s a p 0

-- a page that the page writer accepts, brought as it was stored
pub undamaged : (s : Shape) → Lawful s → (way : ℕ) → is_way way ≡ true → (way_of way).suits s ≡ true → (p : Sheet)
    → write_status s p.number p.marks (symbols_of s p) ≡ Ok tt → (a : Arrival) × Undamaged s way p a
undamaged s legal way known suits p accepted =
    let facts = page_facts s (symbols_of s p) p.number (length p.marks) (write_read s p.number p.marks (symbols_of s p) accepted).0 in
    let (stored, encodes) = codeword_exists s legal (symbols_of s p) facts.size (narrow_at s.b (symbols_of s p) facts.width) in (
      record { way = way; word = stored; scratch = replicate (scratch_length s) 0 },
      record {
        named = refl;
        brings = record {
          known = known;
          stored = stored;
          encodes = encodes;
          error = no_damage s;
          damage = no_damage_word s;
          allowed = (all_read way).none s suits;
          changed = no_damage_weight s;
          word = no_damage_same s stored;
          scratch = length-replicate (scratch_length s) 0;
        };
      },
    )

-- an arrival for each of the pages
one_each : (s : Shape) → Lawful s → (way : ℕ → ℕ) → ((i : ℕ) → is_way (way i) ≡ true) → ((i : ℕ) → (way_of (way i)).suits s ≡ true) → (pages : List Sheet)
    → ((i : ℕ) → i < length pages → write_status s (sheet_at pages i).number (sheet_at pages i).marks (symbols_of s (sheet_at pages i)) ≡ Ok tt)
    → (arrivals : List Arrival) × (length arrivals ≡ length pages)
    × ((i : ℕ) → i < length pages → Undamaged s (way i) (sheet_at pages i) (arrival_at arrivals i))
one_each s legal way known suits [] accepted = ([], refl, λ i l. absurd (not-suc-le-zero l))
one_each s legal way known suits (p ∷ pages) accepted =
    let (a, b) = undamaged s legal (way 0) (known 0) (suits 0) p (accepted 0 (suc-le-suc zero-le)) in
    let (rest, long, brings) = one_each s legal (λ i. way (suc i)) (λ i. known (suc i)) (λ i. suits (suc i)) pages (λ i l. accepted (suc i) (suc-le-suc l)) in
    (a ∷ rest, ap suc long, λ i. elim i as (λ k. k < length (p ∷ pages) → Undamaged s (way k) (sheet_at (p ∷ pages) k) (arrival_at (a ∷ rest) k)) [ zero ↦ λ l. b | suc i' ↦ λ l. brings i' (le_of_suc-le-suc l) ])

pub fitting_list : (s : Shape) (pages : List Sheet) → Recording s pages → (way : ℕ → ℕ) → ((i : ℕ) → is_way (way i) ≡ true) → ((i : ℕ) → (way_of (way i)).suits s ≡ true)
    → (arrivals : List Arrival) × Fits the_ways s pages arrivals × ((i : ℕ) → i < length pages → (arrival_at arrivals i).way ≡ way i)
fitting_list s pages r way known suits =
    let (arrivals, long, brings) = one_each s r.lawful way known suits pages r.accepted in (
      arrivals,
      record {
        each = λ j l. let l' : j < length pages = rw long at l in inr (j, l', 0, (brings j l').brings);
        every = λ i l. (i, rw long l, 0, (brings i l).brings);
      },
      λ i l. (brings i l).named,
    )
