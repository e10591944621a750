-- How a shelf's answer is shown.
use Rattle.std.specs.Prelude.{ℕ, List, ◌++◌, codes, decimal}
use Rattle.shelves.specs.declared.taken.Taken.{Taken}
use Rattle.shelves.specs.declared.taken.Taken.TheVariants.{Already, At}

abbrev pub taken_shown : Taken → List ℕ
taken_shown Already = codes "already"
taken_shown (At p) = codes "at " ++ decimal p
