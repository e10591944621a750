-- Tables as lists.
use Rattle.std.specs.Prelude.{◌≡◌, ℕ, List, length, Ok, Err, vec_items, Result}
use Rattle.refusals.specs.Refusals.{Is}
use Rattle.refusals.specs.declared.refusal.Refusal.{Refusal}
use Rattle.declarations.specs.Arities.{Added}
use Rattle.book.specs.declared.table.Table.{Table}

abbrev pub entries : {T : Type 0} {N : ℕ} → Table T N → List T
entries t = vec_items t.items

module _ {T : Type 0} (N : ℕ) where
  -- it has N entries, and can take no more
  abbrev pub Full : Table T N → Type 0
  Full t = length (entries t) ≡ N

  -- it is not full; or it is, which is refusal 8
  abbrev pub HasRoom : Table T N → Result (Unit {0}) Refusal → Type 0
  HasRoom t (Ok u) = Full t → ⊥
  HasRoom t (Err e) = Full t × Is e 8 0 0

  -- the entry comes last, and its number is answered; or the table is full, and nothing changes
  abbrev pub Pushes : Table T N → T → Result ℕ Refusal → Table T N → Type 0
  Pushes before x (Ok n) after = Added (entries before) x n (entries after)
  Pushes before x (Err e) after = Full before × Is e 8 0 0 × (after ≡ before)
