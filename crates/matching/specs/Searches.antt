-- Lists of the code's atoms and patterns, as the subject has them.
use Rattle.std.specs.Prelude.{List, map}
use Rattle.semantics.specs.Subject as subject
use Rattle.atoms.specs.Meaning.{atom_meant, pattern_meant}
use Rattle.atoms.specs.declared.atom.Atom.{Atom}
use Rattle.terms.specs.declared.pattern_term.PatternTerm.{PatternTerm}
use Rattle.terms.specs.declared.term.Term.{Term}

abbrev pub pile : List (Atom Term) → List subject.Atom
pile = map atom_meant

abbrev pub patterns_meant : List (Atom PatternTerm) → List subject.Pattern
patterns_meant = map pattern_meant
