-- The variables of patterns, as the subject has them.
use Rattle.std.specs.Prelude.{Bool, true, List}
use Rattle.semantics.specs.Subject.{Slot, con, var, in_slots}
use Rattle.atoms.specs.Meaning.{pattern_meant}
use Rattle.atoms.specs.declared.atom.Atom.{Atom}
use Rattle.terms.specs.declared.pattern_term.PatternTerm.{PatternTerm}

abbrev pub slots_meant : Atom PatternTerm → List Slot
slots_meant p = (pattern_meant p).slots

-- a constant, or a variable that stands in q
abbrev pub slot_covered : Slot → List Slot → Bool
slot_covered (con c) q = true
slot_covered (var i) q = in_slots i q
