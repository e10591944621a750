-- How long a row is that is cut at 4,096.
use Rattle.std.specs.Prelude.{◌≡◌, ◌≤◌, min, List, length, take}
use Rattle.std.proofs.Common.{◌∙◌, arith, length-take}
use Rattle.std.proofs.lemmas.List.{length-map}
use Rattle.shelves.specs.Rows.{front, atom_of}
use Rattle.shelves.specs.declared.record.Record.{Record}

pub front_size : (rs : List Record) → length (front 4096 rs) ≡ min 4096 (length rs)
front_size rs = length-map (take 4096 rs) atom_of ∙ length-take 4096 rs

pub rows_short : (rs : List Record) → length (front 4096 rs) ≤ 1000000
rows_short rs = omega (arith, front_size rs)
