-- The first pattern that, so bound, stands nowhere in the pile.
use Rattle.std.specs.Prelude.{◌≡◌, ℕ, List, take, Some, None, Option}
use Rattle.std.specs.List.{slice_get, AllByRecursion}
use Rattle.semantics.specs.Subject.{Pattern, Atom, Binding, On, Holds}

abbrev pub FirstMissing : List Atom → Binding → List Pattern → Option ℕ → Type 0
FirstMissing pile b ps None = AllByRecursion (Holds (On pile) b) ps
FirstMissing pile b ps (Some i) = ((p : Pattern) × (slice_get ps i ≡ Some p) × (Holds (On pile) b p → ⊥)) × AllByRecursion (Holds (On pile) b) (take i ps)
