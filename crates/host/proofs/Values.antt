-- A session and its values: each tells the other, where the lists have their lengths.
use mathlib.Core.Path.{◌≡◌, refl, sym, ap, ◌∙◌}
use mathlib.Core.Bool.{Bool, true, false}
use mathlib.Core.List.{List, [], ◌∷◌, ◌++◌, map}
use Prim.Native.Nat.{ℕ}
use native.Mathlib.Omega.{arith}
use lib.ListN.{length, get_or, take, drop, length-map, length-append}
use lib.Seq.{take_at, drop_at, drop-drop, get_or-drop}
use Rattle.parity.specs.Count.{bit}
use Rattle.gtb.specs.declared.Shape.{Shape}
use Rattle.session.specs.declared.Session.{Session}
use Rattle.session.proofs.Growth.{Sized}
use Rattle.host.specs.Crossing.{shape_in, shape_values, is_yes, session_of, values_of}

-- yes crosses as 1, no as 0
marks_back : (taken : List Bool) → map is_yes (map bit taken) ≡ taken
unfolding bit
marks_back [] = refl
marks_back (true ∷ rest) = λ i. true ∷ marks_back rest i
marks_back (false ∷ rest) = λ i. false ∷ marks_back rest i

shape_back : (s : Shape) → shape_in (shape_values s) ≡ s
unfolding shape_in shape_values
shape_back s = refl

module _ (σ : Session) (h : Sized σ) where
  ten : length (shape_values σ.shape) ≡ 10
  unfolding shape_values
  ten = omega (arith, h.slopes)

  front : take 10 (values_of σ) ≡ shape_values σ.shape
  unfolding values_of
  front = take_at (shape_values σ.shape) _ 10 ten

  rest : drop 10 (values_of σ) ≡ σ.pages ∷ σ.lowest ∷ (map bit σ.taken ++ σ.calls)
  unfolding values_of
  rest = drop_at (shape_values σ.shape) _ 10 ten

  pub many : length (map bit σ.taken) ≡ 1024
  many = length-map σ.taken bit ∙ h.taken

  pub lists : drop 12 (values_of σ) ≡ map bit σ.taken ++ σ.calls
  lists = sym (drop-drop 2 10 (values_of σ)) ∙ ap (drop 2) rest

  pub values_back : session_of (values_of σ) ≡ σ
  unfolding session_of
  values_back =
      let shape : shape_in (take 10 (values_of σ)) ≡ σ.shape = ap shape_in front ∙ shape_back σ.shape in
      let taken : map is_yes (take 1024 (drop 12 (values_of σ))) ≡ σ.taken = ap (λ (xs : List ℕ). map is_yes (take 1024 xs)) lists ∙ ap (map is_yes) (take_at (map bit σ.taken) σ.calls 1024 many) ∙ marks_back σ.taken in
      let calls : drop 1036 (values_of σ) ≡ σ.calls = sym (drop-drop 1024 12 (values_of σ)) ∙ ap (drop 1024) lists ∙ drop_at (map bit σ.taken) σ.calls 1024 many in
      let pages : get_or (values_of σ) 10 0 ≡ σ.pages = sym (get_or-drop 10 (values_of σ) 0 0) ∙ ap (λ (xs : List ℕ). get_or xs 0 0) rest in
      let lowest : get_or (values_of σ) 11 0 ≡ σ.lowest = sym (get_or-drop 10 (values_of σ) 1 0) ∙ ap (λ (xs : List ℕ). get_or xs 1 0) rest in
      λ i. record { shape = shape i; taken = taken i; calls = calls i; pages = pages i; lowest = lowest i }

  pub values_size : length (values_of σ) ≡ 1292
  unfolding values_of
  values_size = omega (arith, ten, many, h.calls, length-append (shape_values σ.shape) (σ.pages ∷ σ.lowest ∷ (map bit σ.taken ++ σ.calls)), length-append (map bit σ.taken) σ.calls)
