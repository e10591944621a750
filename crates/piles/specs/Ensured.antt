-- What a shelf is when it is to have an atom.
use Rattle.std.specs.Prelude.{◌≡◌, ℕ, ◌+◌, ◌<◌, List, [], ◌∷◌, ◌++◌, Contains}
use Rattle.atoms.specs.declared.atom.Atom.{Atom}
use Rattle.terms.specs.declared.term.Term.{Term}

-- the list xs and the free count f become ys and g, as a shelf is to have the atom a: a new one goes to the end where there is room
abbrev pub Ensured : List (Atom Term) → ℕ → Atom Term → List (Atom Term) → ℕ → Type 0
Ensured xs f a ys g = (Contains xs a → (ys ≡ xs) × (g ≡ f)) × ((Contains xs a → ⊥) → 0 < f → (ys ≡ xs ++ a ∷ []) × (g + 1 ≡ f)) × ((Contains xs a → ⊥) → f ≡ 0 → (ys ≡ xs) × (g ≡ f))
