-- When a pile satisfies a rule, as a relation.
use Rattle.std.specs.Prelude.{ℕ, List}
use Rattle.semantics.specs.Subject.{Pattern, Atom, Binding, Rule, Fittable, On}
use Rattle.chase.specs.Firing.{Fires}

-- an atom of the pile is there for the head: the head fits it under an extension of b
abbrev pub HeadThere : List Atom → Pattern → Binding → Type 0
HeadThere pile head b = (a : Atom) × On pile a × Fittable b head a

-- the rule is satisfied at the place: where it may be used there, an atom is there for its head
abbrev pub SatisfiedAt : List Atom → Rule → ℕ → Type 0
SatisfiedAt pile rule place = (b : Binding) → Fires pile rule place b → HeadThere pile rule.head b

-- the rule is satisfied at every place
abbrev pub Satisfied : List Atom → Rule → Type 0
Satisfied pile rule = (place : ℕ) → SatisfiedAt pile rule place
