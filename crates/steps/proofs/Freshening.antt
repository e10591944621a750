-- Fresh nulls, slot by slot.
use Rattle.std.proofs.Common.{◌≡◌, ℕ, zero, suc, ◌+◌, ◌<◌, ◌≤◌, Bool, true, false, cond, eqb, ◌⊎◌, List, [], ◌∷◌, map, length, drop, is_some, Some, None, Option, sym, refl, ap, ◌∙◌, subst, inl, inr, add-one, arith}
use Rattle.std.specs.List.{slice_get}
use Rattle.std.proofs.lemmas.Bool.{both_ways, or_cases, eqb-true, eq-eqb}
use Rattle.semantics.specs.Subject.{Slot, con, var, Binding, in_slots}
use Rattle.semantics.proofs.Fitting.{some_is, none_some}
use Rattle.chase.specs.Chase.{fresh, fresh_slot, fresh_var}
use Rattle.terms.specs.Meaning.{slot_meant}
use Rattle.terms.specs.declared.pattern_term.PatternTerm.{PatternTerm}
use Rattle.fitting.specs.Bindings.{bound}
use Rattle.steps.specs.Heads.{Freshened}
use Rattle.steps.specs.declared.head.Fresh.{Fresh}

-- nulls are never taken back
slot_grows : (b : Binding) (n : ℕ) (s : Slot) → n ≤ (fresh_slot b n s).1
slot_grows b n (con c) = omega arith
slot_grows b n (var i) = go (b i)
  where
    go : (o : Option ℕ) → n ≤ (fresh_var b n i o).1
    go None = omega arith
    go (Some t) = omega arith

pub grows : (b : Binding) (n : ℕ) (ss : List Slot) → n ≤ (fresh b n ss).1
grows b n [] = omega arith
grows b n (s ∷ ss) = omega (arith, slot_grows b n s, grows (fresh_slot b n s).0 (fresh_slot b n s).1 ss)

-- what is left from an index at which something stands
drop_there : {X : Type 0} (xs : List X) (i : ℕ) (x : X) → slice_get xs i ≡ Some x → drop i xs ≡ x ∷ drop (i + 1) xs
drop_there {X = X} xs i x e = let s : suc i ≡ i + 1 = omega arith in subst (λ n. drop i xs ≡ x ∷ drop n xs) s (go xs i e)
  where
    go : (ys : List X) (k : ℕ) → slice_get ys k ≡ Some x → drop k ys ≡ x ∷ drop (suc k) ys
    go [] k q = absurd (none_some q)
    go (y ∷ ys) zero q = ap (λ (z : X). z ∷ ys) (some_is q)
    go (y ∷ ys) (suc k) q = go ys k q

module _ (b : Binding) (n : ℕ) (xs : List PatternTerm) (i : ℕ) (x : PatternTerm) (there : slice_get xs i ≡ Some x) where
  -- one slot, then the others
  one : fresh b n (map slot_meant (drop i xs)) ≡ fresh (fresh_slot b n (slot_meant x)).0 (fresh_slot b n (slot_meant x)).1 (map slot_meant (drop (i + 1) xs))
  one = ap (λ l. fresh b n (map slot_meant l)) (drop_there xs i x there)

  pub slot_more : (f : Fresh) → Freshened b n (slot_meant x ∷ []) (Some f) → fresh (bound f.binding) f.nulls (map slot_meant (drop (i + 1) xs)) ≡ fresh b n (map slot_meant (drop i xs))
  slot_more f h = (λ k. fresh (h.0 k) (h.1 k) (map slot_meant (drop (i + 1) xs))) ∙ sym one

  pub slot_none : Freshened b n (slot_meant x ∷ []) None → 1000000 < (fresh b n (map slot_meant (drop i xs))).1
  slot_none h =
      let e : (fresh b n (map slot_meant (drop i xs))).1 ≡ (fresh (fresh_slot b n (slot_meant x)).0 (fresh_slot b n (slot_meant x)).1 (map slot_meant (drop (i + 1) xs))).1 = ap (λ p. p.1) one in
      let g = grows (fresh_slot b n (slot_meant x)).0 (fresh_slot b n (slot_meant x)).1 (map slot_meant (drop (i + 1) xs)) in
      omega (arith, e, g, h)

pub past_all : (b : Binding) (n : ℕ) (xs : List PatternTerm) (i : ℕ) → length xs ≤ i → fresh b n (map slot_meant (drop i xs)) ≡ (b, n)
past_all b n [] zero h = refl
past_all b n [] (suc i) h = refl
past_all b n (x ∷ xs) zero h = absurd (omega arith)
past_all b n (x ∷ xs) (suc i) h = past_all b n xs i (omega arith)

-- a variable that has a term keeps it
slot_keeps : (b : Binding) (n : ℕ) (s : Slot) (j : ℕ) → is_some (b j) ≡ true → is_some ((fresh_slot b n s).0 j) ≡ true
slot_keeps b n (con c) j h = h
slot_keeps b n (var i) j h = go (b i)
  where
    go : (o : Option ℕ) → is_some ((fresh_var b n i o).0 j) ≡ true
    go None = put_some (eqb i j)
      where
        put_some : (w : Bool) → is_some (cond w (Some (1000000 + n)) (b j)) ≡ true
        put_some true = refl
        put_some false = h
    go (Some t) = h

slot_binds : (b : Binding) (n i : ℕ) → is_some ((fresh_slot b n (var i)).0 i) ≡ true
slot_binds b n i = go (b i) refl
  where
    go : (o : Option ℕ) → b i ≡ o → is_some ((fresh_var b n i o).0 i) ≡ true
    go None q = ap (λ w. is_some (cond w (Some (1000000 + n)) (b i))) (eq-eqb i i refl)
    go (Some t) q = ap is_some q

keeps : (b : Binding) (n : ℕ) (ss : List Slot) (j : ℕ) → is_some (b j) ≡ true → is_some ((fresh b n ss).0 j) ≡ true
keeps b n [] j h = h
keeps b n (s ∷ ss) j h = keeps (fresh_slot b n s).0 (fresh_slot b n s).1 ss j (slot_keeps b n s j h)

-- every variable of the slots has a term then
pub binds : (b : Binding) (n : ℕ) (ss : List Slot) (j : ℕ) → in_slots j ss ≡ true → is_some ((fresh b n ss).0 j) ≡ true
binds b n [] j h = absurd (both_ways false refl h)
binds b n (con c ∷ ss) j h = binds b n ss j h
binds b n (var i ∷ ss) j h =
    elim (or_cases (eqb j i) (in_slots j ss) h) [
      | inl e ↦ keeps (fresh_slot b n (var i)).0 (fresh_slot b n (var i)).1 ss j (subst (λ k. is_some ((fresh_slot b n (var i)).0 k) ≡ true) (sym (eqb-true j i e)) (slot_binds b n i))
      | inr e ↦ binds (fresh_slot b n (var i)).0 (fresh_slot b n (var i)).1 ss j e
    ]
