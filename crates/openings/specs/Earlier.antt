-- What stands before a place of a list.
use Rattle.std.specs.Prelude.{◌≡◌, ℕ, ◌<◌, List, Some}
use Rattle.std.specs.List.{slice_get}

abbrev pub Before : {A : Type 0} → List A → ℕ → A → Type 0
Before xs place x = (k : ℕ) × (k < place) × (slice_get xs k ≡ Some x)
