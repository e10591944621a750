-- What an overlay holds, and what it does.
use Rattle.std.specs.Prelude.{◌≡◌, ℕ, ◌-◌, ◌<◌, ◌≤◌, min, List, [], ◌∷◌, ◌++◌, map, length, take, Contains, Ok, Err, Result}
use Rattle.arrayvec.specs.ArrayVec.{ArrayVec}
use Rattle.atoms.specs.declared.atom.Atom.{Atom}
use Rattle.terms.specs.declared.term.Term.{Term}
use Rattle.shelves.specs.Puts.{Puts}
use Rattle.shelves.specs.Rows.{atom_of}
use Rattle.shelves.specs.declared.record.Record.{Record}
use Rattle.shelves.specs.declared.taken.Full.{Full}
use Rattle.shelves.specs.declared.taken.Taken.{Taken}
use Rattle.shelves.specs.declared.taken.Taken.TheVariants.{Already, At}
use Rattle.shelves.proofs.Fronts.{take_short}
use Rattle.overlays.specs.declared.overlay.NotLowered.{NotLowered}
use Rattle.overlays.specs.declared.overlay.NotLowered.TheVariants.{NotEmpty, Full as NoRoom}
use Rattle.overlays.specs.declared.overlay.Overlay.{Overlay}

-- the overlay's own atoms
abbrev pub own_list : {S : Type 0} → Overlay S → List (Atom Term)
own_list o = map atom_of o.own.items

-- an overlay's own atoms o become p, as the atom a is put and r is answered
abbrev pub Owned : ArrayVec Record → Atom Term → Result Taken Full → ArrayVec Record → Type 0
Owned o a (Ok Already) p = p ≡ o
Owned o a (Ok (At _)) p = p.items ≡ o.items ++ (record { atom = a }) ∷ []
Owned o a (Err full) p = p ≡ o

module _ {S : Type 0} (list : S → List (Atom Term)) where
  -- the list below, then the overlay's own, cut at 1,000,000
  abbrev pub stacked : Overlay S → List (Atom Term)
  stacked o = take 1000000 (list o.below ++ own_list o)

  -- how many more it can take in
  abbrev pub spare : Overlay S → ℕ
  spare o = min (256 - length o.own.items) (1000000 - length (stacked o))

  pub stacked_short : (o : Overlay S) → length (stacked o) ≤ 1000000
  stacked_short o = take_short 1000000 (list o.below ++ own_list o)

  -- the overlay o becomes p, as the atom a is to go on the shelf below and r is answered: it goes there while the overlay has none of its own
  abbrev pub Lowers : (S → ℕ) → Overlay S → Atom Term → Result Taken NotLowered → Overlay S → Type 0
  Lowers free o a (Ok r) p = (o.own.items ≡ []) × Puts (list o.below) (free o.below) a (Ok r) (list p.below) (free p.below) × (p.own ≡ o.own)
  Lowers free o a (Err NoRoom) p = (o.own.items ≡ []) × (Contains (list o.below) a → ⊥) × (free o.below ≡ 0) × (p ≡ o)
  Lowers free o a (Err (NotEmpty n)) p = (0 < length o.own.items) × (n ≡ length o.own.items) × (p ≡ o)
