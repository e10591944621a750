-- What is kept of the first four.
use Rattle.std.proofs.Common.{◌≡◌, List, [], ◌∷◌, Some, None, Option, length, min, refl}
use Rattle.short_rows.specs.Firsts.{Firsts}
use Rattle.short_rows.specs.declared.first_four.FirstFour.TheInside.{Inside}

-- a row, or nothing for the empty list
abbrev pub listed_or_none : {T : Type 0} → Option (List T) → List T
listed_or_none None = []
listed_or_none (Some row) = row

abbrev pub row_or_none : {T : Type 0} → List T → Option (List T)
row_or_none [] = None
row_or_none (x ∷ xs) = Some (x ∷ xs)

abbrev pub seen : {T : Type 0} → Inside T → Firsts T
seen a = record { count = a.count; first = listed_or_none a.first }

-- no row is empty
abbrev pub IsRow : {T : Type 0} → Option (List T) → Type 0
IsRow None = Unit {0}
IsRow (Some []) = ⊥
IsRow (Some (x ∷ xs)) = Unit {0}

abbrev pub Kept : {T : Type 0} → Inside T → Type 0
Kept a = (length (listed_or_none a.first) ≡ min a.count 4) × IsRow a.first

abbrev pub unseen : {T : Type 0} → Firsts T → Inside T
unseen f = record { count = f.count; first = row_or_none f.first }

row_back : {T : Type 0} (o : Option (List T)) → IsRow o → row_or_none (listed_or_none o) ≡ o
row_back None p = refl
row_back (Some []) p = elim p [ ]
row_back (Some (x ∷ xs)) p = refl

pub unseen_seen : {T : Type 0} (a : Inside T) → Kept a → unseen (seen a) ≡ a
unseen_seen a k = λ i. record { count = a.count; first = row_back a.first k.1 i }
