-- What a page that is read holds; writing and reading undo each other.
use mathlib.Core.Path.{◌≡◌, refl, sym, ap, ◌∙◌}
use mathlib.Core.Bool.{Bool, true, false}
use mathlib.Core.List.{List, [], ◌∷◌, ◌++◌}
use Prim.Native.Nat.{ℕ, ◌+◌, ◌-◌, ◌^◌, ◌≤◌, ◌<◌}
use native.Mathlib.Omega.{arith}
use lib.Dec.{eqb, leb, ltb}
use lib.ListN.{length, get_or, take, drop, replicate, length-append, length-replicate, length-drop, take-append-drop}
use lib.Seq.{length-take-le, take-append_seam, drop-append_seam, drop-drop}
use borrow.Author.Tests.{eq-eqb, eqb-true, lt-ltb, ltb-true, le-leb, lt-leb, leb-true}
use Rattle.gtb.specs.declared.Shape.{Shape}
use Rattle.gtb.specs.declared.Refusal.{Refusal}
use Rattle.std.specs.Prelude.{Result, Ok, Err}
use Rattle.gtb.specs.Shape.{lawful, Lawful, info_length}
use Rattle.gtb.specs.Square.{narrow}
use Rattle.gtb.proofs.Answers.{unless_passed, unless_done, refusal_small}
use Rattle.gtb.proofs.Sizes.{sizes}
use Rattle.page.specs.Page.{functions, zeros, most, page_of, marks_in, marks_of, write_status, page_symbols, symbols_after, read_number, Writing}
use Rattle.gtb.specs.Answer.{unless}
use Rattle.page.specs.Steps.{Sized}
use Rattle.page.proofs.Entries.{narrow_tail, zeros_replicate, zeros_are, function_at}

pub sized : (s : Shape) (symbols : List ℕ) → Lawful s → length symbols ≡ info_length s → Sized s symbols
sized s symbols h size =
    let least = (sizes s h).least in
    let largest = (sizes s h).info in
    record { legal = h; size = size; least = omega arith; largest = omega arith }

-- the code's test on the count, over the number k of symbols, as the specification makes it
pub many_marks : (s : Shape) (c k : ℕ) → k ≡ info_length s → k - 2 < c → leb c (most s) ≡ false
many_marks s c k e l = lt-leb c (most s) (omega arith)

pub few_marks : (s : Shape) (c k : ℕ) → k ≡ info_length s → c ≤ k - 2 → leb c (most s) ≡ true
few_marks s c k e l = le-leb c (most s) (omega arith)

-- an answer that is no refusal passed the test
page_passed : (t : Bool) (e : Refusal) (next : Result (ℕ × ℕ) Refusal) {number c : ℕ} → unless t (Err e) next ≡ Ok (number, c) → (t ≡ true) × (next ≡ Ok (number, c))
page_passed t e next = unless_passed t (Err e) next (λ h. let z : ◌≡◌ {A = ℕ} 0 1 = cc in omega arith)

-- the page reader's tests, all passed
pub record Passed (s : Shape) (symbols : List ℕ) : Type 0 where
  pub legal : Lawful s
  pub size : eqb (length symbols) (info_length s) ≡ true
  pub width : narrow s.b symbols ≡ true
  pub page : ltb (get_or symbols 0 0) 1024 ≡ true
  pub few : leb (get_or symbols 1 0) (most s) ≡ true
  pub calls : functions (take (get_or symbols 1 0) (drop 2 symbols)) ≡ true
  pub tail : zeros (drop (2 + get_or symbols 1 0) symbols) ≡ true

pub passed_read : (s : Shape) (symbols : List ℕ) → Passed s symbols → page_of s symbols ≡ Ok (get_or symbols 0 0, get_or symbols 1 0)
unfolding page_of
passed_read s symbols p = rw (p.legal, p.size, p.width, p.page, p.few, p.calls, p.tail)

read_passed : (s : Shape) (symbols : List ℕ) (number c : ℕ) → page_of s symbols ≡ Ok (number, c) →
    Passed s symbols × (get_or symbols 0 0 ≡ number) × (get_or symbols 1 0 ≡ c)
unfolding page_of
read_passed s symbols number c h =
    let (legal, h1) = page_passed (lawful s) _ _ h in
    let (size, h2) = page_passed (eqb (length symbols) (info_length s)) _ _ h1 in
    let (width, h3) = page_passed (narrow s.b symbols) _ _ h2 in
    let (page, h4) = page_passed (ltb (get_or symbols 0 0) 1024) _ _ h3 in
    let (few, h5) = page_passed (leb (get_or symbols 1 0) (most s)) _ _ h4 in
    let (calls, h6) = page_passed (functions (take (get_or symbols 1 0) (drop 2 symbols))) _ _ h5 in
    let (tail, e) = page_passed (zeros (drop (2 + get_or symbols 1 0) symbols)) _ _ h6 in
    let p : Passed s symbols =
    record { legal = legal; size = size; width = width; page = page; few = few; calls = calls; tail = tail } in
    let read : ◌≡◌ {A = ℕ × ℕ} (get_or symbols 0 0, get_or symbols 1 0) (number, c) = cc in
    (p, ap (λ x. x.0) read, ap (λ x. x.1) read)

-- what the page reader's answer says of the marks
pub marks_of_lem : (s : Shape) (symbols : List ℕ) (number c : ℕ) → page_of s symbols ≡ Ok (number, c) → marks_of s symbols ≡ take c (drop 2 symbols)
unfolding marks_of
marks_of_lem s symbols number c h = ap (marks_in symbols) h

pub no_page : {e : Refusal} {number c : ℕ} → ◌≡◌ {A = Result (ℕ × ℕ) Refusal} (Err e) (Ok (number, c)) → ⊥
no_page h = let z : ◌≡◌ {A = ℕ} 0 1 = cc in omega arith

pub no_marks : (s : Shape) (symbols : List ℕ) (e : Refusal) → page_of s symbols ≡ Err e → marks_of s symbols ≡ []
unfolding marks_of
no_marks s symbols e h = ap (marks_in symbols) h

pub record PageFacts (s : Shape) (symbols : List ℕ) (n c : ℕ) : Type 0 where
  pub lawful : Lawful s
  pub size : length symbols ≡ info_length s
  pub width : narrow s.b symbols ≡ true
  pub page : n < 1024
  pub few : c ≤ most s
  pub number : get_or symbols 0 0 ≡ n
  pub count : get_or symbols 1 0 ≡ c
  pub marks : (i : ℕ) → i < c → get_or (marks_of s symbols) i 0 < 256
  pub length : length (marks_of s symbols) ≡ c

pub page_facts : (s : Shape) (symbols : List ℕ) (number c : ℕ) → page_of s symbols ≡ Ok (number, c) → PageFacts s symbols number c
page_facts s symbols number c h =
    let (p, e₀, e₁) = read_passed s symbols number c h in
    let size : length symbols ≡ info_length s = eqb-true _ _ p.size in
    let page : number < 1024 = omega (arith, ltb-true (get_or symbols 0 0) 1024 p.page) in
    let few : c ≤ most s = omega (arith, leb-true (get_or symbols 1 0) (most s) p.few) in
    let two = (sizes s p.legal).least in
    let m : marks_of s symbols ≡ take c (drop 2 symbols) = marks_of_lem s symbols number c h in
    let long : length (marks_of s symbols) ≡ c = rw m (length-take-le c (drop 2 symbols) (rw length-drop (omega arith))) in
    let calls : functions (marks_of s symbols) ≡ true = rw m (rw e₁ at p.calls) in
    record {
      lawful = p.legal;
      size = size;
      width = p.width;
      page = page;
      few = few;
      number = e₀;
      count = e₁;
      marks = λ i l. function_at (marks_of s symbols) calls i (rw long l);
      length = long;
    }

-- the marks lie within the symbols
pub marks_within : (s : Shape) (symbols : List ℕ) (number c : ℕ) → page_of s symbols ≡ Ok (number, c) → 2 + c ≤ length symbols
marks_within s symbols number c h =
    let f = page_facts s symbols number c h in
    let two = (sizes s f.lawful).least in
    omega arith

-- they are few
marks_fit : (s : Shape) (symbols : List ℕ) (r : Result (ℕ × ℕ) Refusal) → page_of s symbols ≡ r → (length (marks_in symbols r) ≤ length symbols) × (length (marks_in symbols r) ≤ 898)
marks_fit s symbols (Ok (number, c)) h =
    let f = page_facts s symbols number c h in
    let size : length (take c (drop 2 symbols)) ≡ c = ap length (sym (marks_of_lem s symbols number c h)) ∙ f.length in
    let within = marks_within s symbols number c h in
    let most = (sizes s f.lawful).info in
    (omega (arith, f.size), omega (arith, f.size))
marks_fit s symbols (Err e) h = (omega arith, omega arith)

pub marks_few : (s : Shape) (symbols : List ℕ) → (length (marks_of s symbols) ≤ length symbols) × (length (marks_of s symbols) ≤ 898)
unfolding marks_of
marks_few s symbols = marks_fit s symbols (page_of s symbols) refl

-- a page is K symbols long
pub page_length : (s : Shape) (number : ℕ) (marks : List ℕ) → 2 ≤ info_length s → length marks ≤ most s → length (page_symbols s number marks) ≡ info_length s
unfolding page_symbols
page_length s number marks two few = simp (length-append, length-replicate) (omega arith)

-- the page writer's tests, all passed
pub record Writable (s : Shape) (number : ℕ) (marks : List ℕ) : Type 0 where
  pub legal : Lawful s
  pub page : ltb number 1024 ≡ true
  pub few : length marks ≤ most s
  pub calls : functions marks ≡ true
  pub width : narrow s.b (number ∷ length marks ∷ marks) ≡ true

pub writable : (s : Shape) (number : ℕ) (marks symbols : List ℕ) → write_status s number marks symbols ≡ Ok tt → Writable s number marks
unfolding write_status
writable s number marks symbols h =
    let (legal, h1) = unless_done (lawful s) _ _ h in
    let (size, h2) = unless_done (eqb (length symbols) (info_length s)) _ _ h1 in
    let (page, h3) = unless_done (ltb number 1024) _ _ h2 in
    let (few, h4) = unless_done (leb (length marks) (most s)) _ _ h3 in
    let (calls, h5) = unless_done (functions marks) _ _ h4 in
    let (width, e) = unless_done (narrow s.b (number ∷ length marks ∷ marks)) _ _ h5 in
    record { legal = legal; page = page; few = leb-true (length marks) (most s) few; calls = calls; width = width }

-- the page reader on what the page writer writes
written_passed : (s : Shape) (number : ℕ) (marks : List ℕ) → Writable s number marks → Passed s (page_symbols s number marks)
unfolding page_symbols
written_passed s number marks w =
    let k : ℕ = most s - length marks in
    record {
      legal = w.legal;
      size = eq-eqb _ _ (page_length s number marks (sizes s w.legal).least w.few);
      width = narrow_tail s.b (number ∷ length marks ∷ marks) k ∙ w.width;
      page = w.page;
      few = le-leb _ _ w.few;
      calls = ap functions (take-append_seam marks (replicate k 0)) ∙ w.calls;
      tail =
          ap zeros (sym (drop-drop (length marks) 2 (number ∷ length marks ∷ (marks ++ replicate k 0))) ∙ drop-append_seam marks (replicate k 0))
          ∙ zeros_replicate k;
    }

pub write_read : (s : Shape) (number : ℕ) (marks symbols : List ℕ) → write_status s number marks symbols ≡ Ok tt →
    (page_of s (page_symbols s number marks) ≡ Ok (number, length marks)) × (marks_of s (page_symbols s number marks) ≡ marks)
unfolding page_symbols
write_read s number marks symbols h =
    let e : page_of s (page_symbols s number marks) ≡ Ok (number, length marks) =
    passed_read s (page_symbols s number marks) (written_passed s number marks (writable s number marks symbols h)) in
    (e, marks_of_lem s (page_symbols s number marks) number (length marks) e ∙ take-append_seam marks (replicate (most s - length marks) 0))

-- the first two symbols apart
two_first : (xs : List ℕ) → 2 ≤ length xs → get_or xs 0 0 ∷ get_or xs 1 0 ∷ drop 2 xs ≡ xs
two_first [] h = absurd (omega arith)
two_first (x ∷ []) h = absurd (omega arith)
two_first (x ∷ y ∷ xs) h = refl

-- a page that is read holds its number, its marks and nothing else
page_whole : (s : Shape) (symbols : List ℕ) (number c : ℕ) → page_of s symbols ≡ Ok (number, c) → page_symbols s number (marks_of s symbols) ≡ symbols
unfolding page_symbols
page_whole s symbols number c h =
    let f = page_facts s symbols number c h in
    let two = (sizes s f.lawful).least in
    let e : drop c (drop 2 symbols) ≡ drop (2 + c) symbols = drop-drop c 2 symbols in
    let tail : zeros (drop (2 + c) symbols) ≡ true = rw f.count at (read_passed s symbols number c h).0.tail in
    let long : length (drop (2 + c) symbols) ≡ most s - c = rw length-drop (omega arith) in
    let rest : replicate (most s - c) 0 ≡ drop c (drop 2 symbols) = rw (e, ← long) (sym (zeros_are _ tail)) in
    let body : marks_of s symbols ++ replicate (most s - c) 0 ≡ drop 2 symbols =
    rw (rest, marks_of_lem s symbols number c h) (take-append-drop c (drop 2 symbols)) in
    rw (f.length, body, ← f.number, ← f.count) (two_first symbols (omega arith))

pub read_write : (s : Shape) (symbols : List ℕ) (number c : ℕ) → page_of s symbols ≡ Ok (number, c) →
    (write_status s number (marks_of s symbols) symbols ≡ Ok tt) × (page_symbols s number (marks_of s symbols) ≡ symbols)
unfolding write_status page_symbols
read_write s symbols number c h =
    let f = page_facts s symbols number c h in
    let p = (read_passed s symbols number c h).0 in
    let whole = page_whole s symbols number c h in
    let marks : List ℕ = marks_of s symbols in
    let few : leb (length marks) (most s) ≡ true = le-leb (length marks) (most s) (omega arith) in
    let calls : functions marks ≡ true = rw (marks_of_lem s symbols number c h, ← f.count) p.calls in
    let width : narrow s.b (number ∷ length marks ∷ marks) ≡ true =
    sym (narrow_tail s.b (number ∷ length marks ∷ marks) (most s - length marks)) ∙ ap (narrow s.b) whole ∙ f.width in
    (rw (p.legal, p.size, lt-ltb _ _ f.page, few, calls, width), whole)

-- the writer's contract from its two equations
pub writing : {s : Shape} {page : ℕ} {marks symbols symbols' : List ℕ} {r : Result (Unit {0}) Refusal} → r ≡ write_status s page marks symbols
    → symbols' ≡ symbols_after s page marks symbols r → Writing s page marks symbols symbols' r
writing answer written = record { answer = answer; written = written }

-- ---- the answer's number fits 32 bits
read_small : (s : Shape) (symbols : List ℕ) (r : Result (ℕ × ℕ) Refusal) → page_of s symbols ≡ r → read_number r < 2 ^ 32
read_small s symbols (Ok (number, c)) h =
    let f = page_facts s symbols number c h in
    omega (arith, f.page, f.few, (sizes s f.lawful).info)
read_small s symbols (Err e) h = omega (arith, refusal_small e)

-- what the page reader answers: page number and number of marks are small
pub read_fits : (s : Shape) (symbols : List ℕ) → read_number (page_of s symbols) < 2 ^ 32
read_fits s symbols = read_small s symbols (page_of s symbols) refl
