-- A filter: one mark for each of 65,521 slots, among which the atoms are spread.
use Rattle.std.specs.Prelude.{◌≡◌, ℕ, ◌+◌, ◌*◌, ◌%◌, ◌<◌, Bool, true, false, List, [], ◌∷◌, Some, slice_index_or}
use Rattle.std.specs.List.{slice_get}
use Rattle.semantics.specs.Subject.{Atom}

-- the terms, each times its weight
abbrev pub weighed : List ℕ → List ℕ → ℕ
weighed [] ts = 0
weighed (w ∷ ws) [] = 0
weighed (w ∷ ws) (t ∷ ts) = t * w + weighed ws ts

abbrev pub weights : List ℕ
weights = 7649 ∷ 63191 ∷ 24829 ∷ 41221 ∷ []

-- an atom's slot. The number of slots is prime, so that few atoms of a regular catalogue share one
abbrev pub slot_of : Atom → ℕ
slot_of a = (a.pred * 36167 + weighed weights a.terms) % 65521

-- the slot of each atom before the place is marked
abbrev pub Marked : List Bool → List Atom → ℕ → Type 0
Marked seen atoms place = (k : ℕ) (a : Atom) → k < place → slice_get atoms k ≡ Some a → slice_index_or seen (slot_of a) false ≡ true
