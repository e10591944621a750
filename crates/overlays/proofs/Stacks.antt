-- One list on another, cut at m.
use Rattle.std.proofs.Common.{◌≡◌, ℕ, zero, suc, ◌+◌, ◌-◌, ◌<◌, ◌≤◌, List, [], ◌∷◌, ◌++◌, map, length, take, refl, Bool, true, false, Option, Decides, sym, ap, ◌∙◌, inl, inr, arith, append_assoc}
use Rattle.std.specs.List.{slice_get, Contains}
use Rattle.std.proofs.lemmas.Bool.{true≢false}
use Rattle.std.proofs.lemmas.List.Elements.{Contains-append_left, Contains-append_right, Contains-append_cases}
use Rattle.std.proofs.Math.Seq.{take-append-add}
use Rattle.std.proofs.lemmas.List.{append-nil, take-map, take_all, length-take, map_push, length_push}
use Rattle.shelves.specs.Rows.{atom_of}
use Rattle.shelves.specs.declared.record.Record.{Record}
use Rattle.atoms.specs.declared.atom.Atom.{Atom}
use Rattle.terms.specs.declared.term.Term.{Term}

module _ {X : Type 0} where
  slice_get_left : (xs ys : List X) (i : ℕ) → i < length xs → slice_get (xs ++ ys) i ≡ slice_get xs i
  slice_get_left [] ys i h = absurd (omega arith)
  slice_get_left (x ∷ xs) ys zero h = refl
  slice_get_left (x ∷ xs) ys (suc i) h = slice_get_left xs ys i (omega arith)

  slice_get_right : (xs ys : List X) (i : ℕ) → length xs ≤ i → slice_get (xs ++ ys) i ≡ slice_get ys (i - length xs)
  slice_get_right [] ys i h = let e : i - 0 ≡ i = omega arith in rw e refl
  slice_get_right (x ∷ xs) ys zero h = absurd (omega arith)
  slice_get_right (x ∷ xs) ys (suc i) h =
      let e : suc i - length (x ∷ xs) ≡ i - length xs = omega arith in
      rw e (slice_get_right xs ys i (omega arith))

  pub get_left : (xs ys zs : List X) (i : ℕ) (r : Option X) → zs ≡ xs ++ ys → i < length xs → r ≡ slice_get xs i → r ≡ slice_get zs i
  get_left xs ys zs i r e h q = q ∙ sym (slice_get_left xs ys i h) ∙ ap (λ l. slice_get l i) (sym e)

  pub get_right : (xs ys zs : List X) (i n : ℕ) (r : Option X) → zs ≡ xs ++ ys → n ≡ length xs → length xs ≤ i → r ≡ slice_get ys (i - n) → r ≡ slice_get zs i
  get_right xs ys zs i n r e l h q =
      q ∙ ap (λ k. slice_get ys (i - k)) l ∙ sym (slice_get_right xs ys i h) ∙ ap (λ l. slice_get l i) (sym e)

  pub has_below : (xs ys zs : List X) (x : X) (r : Bool) → zs ≡ xs ++ ys → Decides r (Contains xs x) → r ≡ true → Decides r (Contains zs x)
  has_below xs ys zs x r e d t = rw e (λ _. Contains-append_left xs ys x (d.0 t), λ _. t)

  pub has_own : (xs ys zs : List X) (x : X) (p q : Bool) → zs ≡ xs ++ ys → Decides p (Contains xs x) → p ≡ false → Decides q (Contains ys x) → Decides q (Contains zs x)
  has_own xs ys zs x p q e d f own =
      rw e (λ t. Contains-append_right xs ys x (own.0 t), λ h. own.1 (elim (Contains-append_cases xs ys x h) [ inl k ↦ absurd (true≢false (sym (d.1 k) ∙ f)) | inr k ↦ k ]))

  pub take_push : (m : ℕ) (xs : List X) (x : X) → length (take m xs) < m → take m (xs ++ x ∷ []) ≡ take m xs ++ x ∷ []
  take_push m xs x h =
      let l : length xs < m = omega (arith, length-take m xs) in
      take_all m (xs ++ x ∷ []) (omega (arith, length_push xs x)) ∙ ap (λ l. l ++ x ∷ []) (sym (take_all m xs (omega arith)))

  pub take_none : (m : ℕ) (xs : List X) → length xs ≤ m → take m (xs ++ []) ≡ xs
  take_none m xs h = ap (take m) (append-nil xs) ∙ take_all m xs h

-- what the cut leaves of the records rs on the list xs
pub stacked_is : (m : ℕ) (xs : List (Atom Term)) (rs : List Record) → length xs ≤ m → take m (xs ++ map atom_of rs) ≡ xs ++ map atom_of (take (m - length xs) rs)
stacked_is m xs rs h =
    let e : m ≡ length xs + (m - length xs) = omega arith in
    ap (λ k. take k (xs ++ map atom_of rs)) e ∙ take-append-add xs (map atom_of rs) (m - length xs) ∙ ap (λ l. xs ++ l) (take-map atom_of (m - length xs) rs)

-- one more record on the stack, where the cut leaves room
pub stacked_push : (m : ℕ) (xs : List (Atom Term)) (rs : List Record) (r : Record) → length (take m (xs ++ map atom_of rs)) < m → take m (xs ++ map atom_of (rs ++ r ∷ [])) ≡ take m (xs ++ map atom_of rs) ++ r.atom ∷ []
stacked_push m xs rs r h =
    ap (λ l. take m (xs ++ l)) (map_push atom_of rs r) ∙ ap (take m) (sym (append_assoc xs (map atom_of rs) (r.atom ∷ []))) ∙ take_push m (xs ++ map atom_of rs) r.atom h
