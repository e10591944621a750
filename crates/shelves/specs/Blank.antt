-- What a blank record holds.
use Rattle.std.proofs.Common.{lit≤, [], ◌∷◌}
use Rattle.atoms.specs.declared.atom.Atom.{Atom}
use Rattle.terms.specs.declared.predicate.UpTo.{UpTo}
use Rattle.terms.specs.declared.constant.Constant as con
use Rattle.terms.specs.declared.term.Term.{Term}
use Rattle.terms.specs.declared.term.Term.TheVariants.{Constant}

-- predicate 1
abbrev pub first_predicate : UpTo 64
first_predicate = record { number = 1; low = lit≤ tt; high = lit≤ tt }

-- constant 1
abbrev pub first_constant : con.Constant
first_constant = record { number = 1; low = lit≤ tt; high = lit≤ tt }

-- predicate 1 with the one term constant 1
abbrev pub blank_atom : Atom Term
blank_atom = record { predicate = first_predicate; terms = Constant first_constant ∷ [] }
