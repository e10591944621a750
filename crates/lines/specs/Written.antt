-- What is kept of an atom that is read.
use Rattle.std.proofs.Common.{◌≡◌, ◌≤◌, List, [], ◌∷◌, Some, None, Option, length, refl}
use Rattle.short_rows.specs.Kept.{listed_or_none, row_or_none, IsRow}
use Rattle.reading.specs.declared.raw.RawTerm.{RawTerm}
use Rattle.lines.specs.Atoms.{Said}
use Rattle.lines.specs.declared.atom.WrittenAtom.TheInside.{Inside}

abbrev pub seen : Inside → Said
seen a = record { predicate = a.predicate; terms = listed_or_none a.terms }

-- at most four terms
abbrev pub Kept : Inside → Type 0
Kept a = IsRow a.terms × (length (listed_or_none a.terms) ≤ 4)

abbrev pub unseen : Said → Inside
unseen s = record { predicate = s.predicate; terms = row_or_none s.terms }

row_back : (o : Option (List RawTerm)) → IsRow o → row_or_none (listed_or_none o) ≡ o
row_back None p = refl
row_back (Some []) p = elim p [ ]
row_back (Some (x ∷ xs)) p = refl

pub unseen_seen : (a : Inside) → Kept a → unseen (seen a) ≡ a
unseen_seen a k = λ i. record { predicate = a.predicate; terms = row_back a.terms k.0 i }
