-- Which terms are constants.
use Rattle.std.specs.Prelude.{Bool, true, false}
use Rattle.terms.specs.declared.term.Term.{Term}
use Rattle.terms.specs.declared.term.Term.TheVariants.{Constant, Null}

abbrev pub is_fixed : Term → Bool
is_fixed (Constant c) = true
is_fixed (Null k) = false
