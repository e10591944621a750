use Rattle.std.proofs.Common.{◌≡◌, ℕ, ◌<◌, Some}
use Rattle.std.specs.List.{slice_get}
use Rattle.semantics.specs.Subject.{Atom, Fittable}
use Rattle.atoms.specs.Meaning.{pattern_meant}
use Rattle.fitting.specs.Bindings.{bound}
use Rattle.matching.specs.Searches.{pile}
use Rattle.refutes.proofs.satisfied.head_there.Given as goal

-- the binding is as it was, and no earlier atom is there for the head
abbrev pub invariant-loop-place : goal.invariant-loop-place
invariant-loop-place g l = (l.binding ≡ l.initial.binding) × ((k : ℕ) → k < l.place → (a : Atom) → slice_get (pile (g.S.Stock.list l.stock)) k ≡ Some a → Fittable (bound l.initial.binding) (pattern_meant l.head) a → ⊥)
