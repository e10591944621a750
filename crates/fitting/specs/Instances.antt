-- Slots under a binding.
use Rattle.std.specs.Prelude.{ℕ, List, map, Some, None, Ok, Err, Option, Result}
use Rattle.semantics.specs.Subject.{Slot, Binding, Gives, GivesAll}
use Rattle.terms.specs.Meaning.{term_meant}
use Rattle.terms.specs.declared.term.Term.{Term}

-- the term that the slot is, or nothing where it is none
abbrev pub Given : Binding → Slot → Option ℕ → Type 0
Given b s (Some t) = Gives b s t
Given b s None = (t : ℕ) → Gives b s t → ⊥

-- the terms that the slots are, or nothing where they are none
abbrev pub AllGiven : Binding → List Slot → Option (List ℕ) → Type 0
AllGiven b ss (Some ts) = GivesAll b ss ts
AllGiven b ss None = (ts : List ℕ) → GivesAll b ss ts → ⊥

-- the same in the code's terms, and an error where it is none
abbrev pub GivenOr : {E : Type 0} → Binding → Slot → Result Term E → Type 0
GivenOr b s (Ok t) = Given b s (Some (term_meant t))
GivenOr b s (Err e) = Given b s None

abbrev pub AllGivenOr : {E : Type 0} → Binding → List Slot → Result (List Term) E → Type 0
AllGivenOr b ss (Ok ts) = AllGiven b ss (Some (map term_meant ts))
AllGivenOr b ss (Err e) = AllGiven b ss None
