-- What a binding of the code means to the subject.
use Rattle.std.specs.Prelude.{zero, suc, List, None, Ok, Err, Option, Result, slice_index_or}
use Rattle.std.specs.Option.{option_map}
use Rattle.semantics.specs.Subject.{Binding}
use Rattle.terms.specs.Meaning.{term_meant}
use Rattle.terms.specs.declared.term.Term.{Term}

-- variables count from 1, so what is at index 0 is what v1 is bound to
abbrev pub bound : List (Option Term) → Binding
bound b zero = None
bound b (suc i) = option_map term_meant (slice_index_or b i None)

abbrev pub bound_or : {E : Type 0} → Result (List (Option Term)) E → Result Binding E
bound_or (Ok b) = Ok (bound b)
bound_or (Err e) = Err e
