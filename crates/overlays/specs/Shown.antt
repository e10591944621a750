-- How it is shown why nothing went below.
use Rattle.std.specs.Prelude.{ℕ, List, ◌++◌, codes, decimal}
use Rattle.overlays.specs.declared.overlay.NotLowered.{NotLowered}
use Rattle.overlays.specs.declared.overlay.NotLowered.TheVariants.{NotEmpty, Full}

abbrev pub not_lowered_shown : NotLowered → List ℕ
not_lowered_shown (NotEmpty n) = codes "the overlay has " ++ (decimal n ++ codes " of its own")
not_lowered_shown Full = codes "full"
