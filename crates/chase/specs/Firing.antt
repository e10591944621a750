-- The chase rule, as a relation.
use Rattle.std.specs.Prelude.{◌≡◌, ℕ, List, Some}
use Rattle.std.specs.List.{slice_get}
use Rattle.semantics.specs.Subject.{Atom, Binding, Rule, Fits, Match, On, Guards}

-- the rule may be used at the place by b: its guard fits the atom there under b, which is a match of its body in the pile
pub record Fires (pile : List Atom) (rule : Rule) (place : ℕ) (b : Binding) : Type 0 where
  pub index : ℕ
  pub guards : Guards rule.body index
  pub at : Atom
  pub there : slice_get pile place ≡ Some at
  pub fits : Fits b guards.pattern at
  pub matches : Match (On pile) b rule.body
