-- What is printed where nothing was read.
use Rattle.std.specs.Prelude.{ℕ, List, codes}
use Rattle.words.specs.declared.error.ReadError.{ReadError}
use Rattle.words.specs.declared.error.ReadError.TheVariants.{Broken, OutOfMemory}

abbrev pub message : ReadError → List ℕ
message Broken = codes "broken form"
message OutOfMemory = codes "out of memory"
