-- Rows of records.
use Rattle.std.specs.Prelude.{ℕ, List, map, take}
use Rattle.atoms.specs.declared.atom.Atom.{Atom}
use Rattle.terms.specs.declared.term.Term.{Term}
use Rattle.shelves.specs.declared.record.Record.{Record}

-- what a record holds
abbrev pub atom_of : Record → Atom Term
atom_of r = r.atom

-- the atoms of the first n records
abbrev pub front : ℕ → List Record → List (Atom Term)
front n rs = map atom_of (take n rs)
