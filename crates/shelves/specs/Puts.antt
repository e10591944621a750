-- What a shelf does with an atom.
use Rattle.std.specs.Prelude.{◌≡◌, ℕ, ◌+◌, List, [], ◌∷◌, ◌++◌, length, Contains, Ok, Err, Result}
use Rattle.atoms.specs.declared.atom.Atom.{Atom}
use Rattle.terms.specs.declared.term.Term.{Term}
use Rattle.shelves.specs.declared.taken.Full.{Full}
use Rattle.shelves.specs.declared.taken.Taken.{Taken}
use Rattle.shelves.specs.declared.taken.Taken.TheVariants.{Already, At}

-- the list xs and the free count f become ys and g, as the atom a is put and r is answered
abbrev pub Puts : List (Atom Term) → ℕ → Atom Term → Result Taken Full → List (Atom Term) → ℕ → Type 0
Puts xs f a (Ok Already) ys g = Contains xs a × (ys ≡ xs) × (g ≡ f)
Puts xs f a (Ok (At p)) ys g = (Contains xs a → ⊥) × (p ≡ length xs) × (ys ≡ xs ++ a ∷ []) × (g + 1 ≡ f)
Puts xs f a (Err full) ys g = (Contains xs a → ⊥) × (f ≡ 0) × (ys ≡ xs) × (g ≡ f)
