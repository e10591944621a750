-- The first of a kind, beside the number of all.
use Rattle.std.specs.Prelude.{ℕ, List}

pub record Firsts (T : Type 0) : Type 0 where
  pub count : ℕ
  pub first : List T
