-- What the code's atoms mean to the subject.
use Rattle.std.specs.Prelude.{map}
use Rattle.semantics.specs.Subject as subject
use Rattle.terms.specs.Meaning.{term_meant, constant_meant, slot_meant}
use Rattle.terms.specs.declared.constant.Constant.{Constant}
use Rattle.terms.specs.declared.term.Term.{Term}
use Rattle.terms.specs.declared.pattern_term.PatternTerm.{PatternTerm}
use Rattle.atoms.specs.declared.atom.Atom.{Atom}

abbrev pub atom_meant : Atom Term → subject.Atom
atom_meant a = record { pred = a.predicate.number; terms = map term_meant a.terms }

abbrev pub fact_meant : Atom Constant → subject.Atom
fact_meant a = record { pred = a.predicate.number; terms = map constant_meant a.terms }

abbrev pub pattern_meant : Atom PatternTerm → subject.Pattern
pattern_meant p = record { pred = p.predicate.number; slots = map slot_meant p.terms }
