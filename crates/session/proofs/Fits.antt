-- What a page of a recording opens to, and that no list fits two recordings that differ in a page.
use mathlib.Core.Path.{◌≡◌, refl, sym, ap, ◌∙◌, subst}
use mathlib.Core.List.{List}
use mathlib.Core.Logic.{⊎_elim}
use Prim.Native.Nat.{ℕ, ◌<◌}
use lib.ListN.{length}
use borrow.Author.Tests.{eq-eqb}
use Rattle.parity.specs.Xor.{◌⊕◌}
use Rattle.parity.proofs.Lists.{length_tabulate}
use Rattle.gtb.specs.declared.Shape.{Shape}
use Rattle.gtb.specs.declared.Refusal.{Refusal}
use Rattle.std.specs.Prelude.{Ok}
use Rattle.gtb.specs.Shape.{Lawful, word_length, scratch_length}
use Rattle.gtb.specs.Square.{at}
use Rattle.gtb.specs.Positions.{extract_of}
use Rattle.correction.specs.Error.{weight, damaged}
use Rattle.page.specs.Page.{write_status}
use Rattle.page.proofs.Pages.{write_read}
use Rattle.session.specs.Arrival.{Ways, AllSound, Opened, Page, Bad, open_word, opened}
use Rattle.session.specs.Recording.{Sheet, sheet_at, symbols_of, Recording, Arrival, arrival_at, opened_at, TurnedDown, Brings, Fits}
use Rattle.session.specs.Claim.{SameSheets}

length_damaged : (v e : List ℕ) → length (damaged v e) ≡ length v
unfolding damaged
length_damaged v e = length_tabulate (length v) (λ j. at v j ⊕ at e j)

-- a page that the page writer accepts, read from its stored word
page_opened : (s : Shape) (p : Sheet) (v : List ℕ) (k : ℕ) → write_status s p.number p.marks (symbols_of s p) ≡ Ok tt
    → extract_of s v ≡ symbols_of s p → open_word s v (Ok k) ≡ Page p.number p.marks k
page_opened s p v k accepted info =
    let (number, marks) = write_read s p.number p.marks (symbols_of s p) accepted in
    rw (info, number) (ap (λ (x : List ℕ). Page p.number x k) marks)

pub brings_opened : (ways : Ways) (s : Shape) → Lawful s → AllSound ways s → (a : Arrival) (p : Sheet) (k : ℕ)
    → write_status s p.number p.marks (symbols_of s p) ≡ Ok tt → Brings ways s a p k
    → opened ways s a.way a.word a.scratch ≡ Page p.number p.marks k
unfolding opened
brings_opened ways s legal sound a p k accepted b =
    let v : List ℕ = b.stored in
    let (answer, word, suits) = (sound.sound a.way b.known).right v b.error b.encodes.codeword b.damage b.allowed in
    let long : length a.word ≡ word_length s = ap length b.word ∙ length_damaged v b.error ∙ b.encodes.codeword.word.size in
    rw (b.known, legal, suits, eq-eqb (length a.word) (word_length s) long, eq-eqb (length a.scratch) (scratch_length s) b.scratch, b.word, word, answer)
    (page_opened s p v (weight s (at b.error)) accepted b.encodes.information ∙ ap (Page p.number p.marks) b.changed)

-- what was brought is one of the pages, if it is a page
abbrev pub From : List Sheet → Opened → Type 0
From pages (Page number marks k) = (i : ℕ) × (i < length pages) × (sheet_at pages i ≡ record { number = number; marks = marks })
From pages (Bad e) = Unit {0}

module _ (ways : Ways) (s : Shape) (sound : AllSound ways s) (arrivals : List Arrival) where
  -- an arrival that brings page i of a recording opens to it
  pub sheet_opened : (pages : List Sheet) → Recording s pages → (j i : ℕ) → i < length pages → (k : ℕ)
      → Brings ways s (arrival_at arrivals j) (sheet_at pages i) k
      → opened_at ways s arrivals j ≡ Page (sheet_at pages i).number (sheet_at pages i).marks k
  sheet_opened pages r j i l k b = brings_opened ways s r.lawful sound (arrival_at arrivals j) (sheet_at pages i) k (r.accepted i l) b

  -- a list that fits brings pages of the recording alone
  pub fits_from : (pages : List Sheet) → Recording s pages → Fits ways s pages arrivals → (j : ℕ) → j < length arrivals
      → From pages (opened_at ways s arrivals j)
  fits_from pages r fits j l =
      ⊎_elim (λ (t : (e : Refusal) × TurnedDown ways s (arrival_at arrivals j) e). rw t.1.by tt)
      (λ (b : (i : ℕ) × (i < length pages) × (k : ℕ) × Brings ways s (arrival_at arrivals j) (sheet_at pages i) k).
      rw (sheet_opened pages r j b.0 b.1 b.2 b.3) (b.0, b.1, refl))
      (fits.each j l)

-- each page of one recording that the list fits is a page of the other; what is brought is the same under both shapes
also_there : (ways : Ways) (s s' : Shape) → AllSound ways s → AllSound ways s' → (arrivals : List Arrival)
    → ((j : ℕ) → opened_at ways s' arrivals j ≡ opened_at ways s arrivals j) → (pages others : List Sheet) → Recording s pages → Recording s' others
    → Fits ways s pages arrivals → Fits ways s' others arrivals → (i : ℕ) → i < length pages → (j : ℕ) × (j < length others) × (sheet_at others j ≡ sheet_at pages i)
also_there ways s s' sound sound' arrivals same pages others r r' fits fits' i l =
    let (j, lj, k, b) = fits.every i l in
    subst (From others) (same j ∙ sheet_opened ways s sound arrivals pages r j i l k b) (fits_from ways s' sound' arrivals others r' fits' j lj)

pub only_recording : (ways : Ways) (s s' : Shape) → AllSound ways s → AllSound ways s' → (arrivals : List Arrival)
    → ((j : ℕ) → opened_at ways s' arrivals j ≡ opened_at ways s arrivals j) → (pages others : List Sheet) → Recording s pages → Recording s' others
    → Fits ways s pages arrivals → Fits ways s' others arrivals → SameSheets pages others
only_recording ways s s' sound sound' arrivals same pages others r r' fits fits' = record {
  there = also_there ways s s' sound sound' arrivals same pages others r r' fits fits';
  back = also_there ways s' s sound' sound arrivals (λ j. sym (same j)) others pages r' r fits' fits;
}
