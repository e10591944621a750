-- Why a rule may not be used at a place, whatever the nulls.
use Rattle.std.specs.Prelude.{◌≡◌, ℕ, List, Some, None}
use Rattle.std.specs.List.{slice_get}
use Rattle.semantics.specs.Subject as subject
use Rattle.semantics.specs.Subject.{Pattern, Atom, Binding, LeastFit, NoFit, Guards}
use Rattle.semantics.specs.Computed.{nothing}
use Rattle.refusals.specs.Refusals.{Is}
use Rattle.refusals.specs.declared.refusal.Refusal.{Refusal}
use Rattle.steps.specs.Sides.{FirstMissing}

pub data Stopped (pile : List Atom) (rule : subject.Rule) (place : ℕ) (e : Refusal) : Type 0 where
  -- 12 (0, place): no atom is at the place
  past : Is e 12 0 place → slice_get pile place ≡ None → Stopped pile rule place e
  -- 13 (0, place): the atom there does not fit the guard
  unfit : (k : ℕ) (g : Guards rule.body k) (a : Atom) → Is e 13 0 place → slice_get pile place ≡ Some a → NoFit nothing g.pattern a → Stopped pile rule place e
  -- 14 (body index): the first body pattern that, bound by the guard, is not on the pile
  missing : (k : ℕ) (g : Guards rule.body k) (a : Atom) (b : Binding) (i : ℕ) → Is e 14 i 0 → slice_get pile place ≡ Some a → LeastFit nothing g.pattern a b → FirstMissing pile b rule.body (Some i) → Stopped pile rule place e
