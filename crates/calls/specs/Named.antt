-- The places that are named, as a list.
use Rattle.std.specs.Prelude.{List, ℕ}
use Rattle.short_rows.specs.Firsts.{Firsts}

abbrev pub Places : Type 0
Places = Firsts ℕ

-- those that are kept
abbrev pub named : Places → List ℕ
named p = p.first
