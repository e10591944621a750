-- Existential variables get the next nulls.
use Rattle.std.specs.Prelude.{◌≡◌, ℕ, ◌<◌, List, Some, None, Option}
use Rattle.semantics.specs.Subject.{Slot, Binding}
use Rattle.fitting.specs.Bindings.{bound}
use Rattle.chase.specs.Chase.{fresh}
use Rattle.steps.specs.declared.head.Fresh.{Fresh}

-- each variable of the slots without a term gets the next null; or nothing where null 999,999 would not be the last
abbrev pub Freshened : Binding → ℕ → List Slot → Option Fresh → Type 0
Freshened b n ss (Some f) = (bound f.binding ≡ (fresh b n ss).0) × (f.nulls ≡ (fresh b n ss).1)
Freshened b n ss None = 1000000 < (fresh b n ss).1
