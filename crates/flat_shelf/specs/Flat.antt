-- What a flat shelf holds.
use Rattle.std.specs.Prelude.{List, ℕ, ◌-◌, ◌≤◌, min, length, slice_set, Ok, Err, Result}
use Rattle.std.proofs.Common.{lit≤}
use Rattle.std.proofs.Math.Nat.{le_trans}
use Rattle.atoms.specs.declared.atom.Atom.{Atom}
use Rattle.terms.specs.declared.term.Term.{Term}
use Rattle.shelves.specs.Rows.{front}
use Rattle.shelves.specs.declared.record.Record.{Record}
use Rattle.shelves.specs.declared.taken.Full.{Full}
use Rattle.shelves.specs.declared.taken.Taken.{Taken}
use Rattle.shelves.specs.declared.taken.Taken.TheVariants.{Already, At}
use Rattle.shelves.proofs.Fronts.{front_short}
use Rattle.flat_shelf.specs.declared.flat.FlatShelf.{FlatShelf}

-- the atoms of the records that are used
abbrev pub rows : FlatShelf → List (Atom Term)
rows s = front s.used s.records.now

-- how many more it can take in
abbrev pub room : FlatShelf → ℕ
room s = min (length s.records.now) 4096 - s.used

pub rows_short : (s : FlatShelf) → length (rows s) ≤ 1000000
rows_short s = le_trans (front_short s.used s.records.now) (le_trans s.few (lit≤ tt))

-- what the lent memory holds after a put: a new atom in its place, and all else as it was
abbrev pub written : Result Taken Full → List Record → Atom Term → List Record
written (Ok Already) rs a = rs
written (Ok (At p)) rs a = slice_set rs p (record { atom = a })
written (Err full) rs a = rs
