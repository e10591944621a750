-- What a shelf must hold for a check to be opened: facts of the book, each once.
use Rattle.std.specs.Prelude.{◌≡◌, ℕ, ◌<◌, ◌≤◌, List, length, Some, None, Option}
use Rattle.std.specs.List.{slice_get, AllByRecursion}
use Rattle.semantics.specs.Subject.{Atom, numbered}

abbrev pub IsConstant : ℕ → Type 0
IsConstant t = (1 ≤ t) × (t ≤ 999999)

module _ (arities : List ℕ) where
  -- the atom's predicate is declared with so many terms, and each of them is a constant
  abbrev pub FactOf : Atom → Type 0
  FactOf a = (numbered arities a.pred ≡ Some (length a.terms)) × AllByRecursion IsConstant a.terms

  -- the atom at the place is no fact of the book, or equals an earlier one
  pub data UnfitAt (atoms : List Atom) (place : ℕ) : Type 0 where
    no_fact : (a : Atom) → slice_get atoms place ≡ Some a → (FactOf a → ⊥) → UnfitAt atoms place
    repeated : (a : Atom) (earlier : ℕ) → earlier < place → slice_get atoms earlier ≡ Some a → slice_get atoms place ≡ Some a → UnfitAt atoms place

  -- the lowest such place, or none where there is none
  abbrev pub FirstUnfit : List Atom → Option ℕ → Type 0
  FirstUnfit atoms (Some place) = UnfitAt atoms place × ((k : ℕ) → k < place → UnfitAt atoms k → ⊥)
  FirstUnfit atoms None = (k : ℕ) → UnfitAt atoms k → ⊥
