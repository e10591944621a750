-- What a step answers before anything is taken in.
use Rattle.std.specs.Prelude.{◌≡◌, ℕ, ◌<◌, List, Some, None, Ok, Err, Option, Result}
use Rattle.std.specs.List.{slice_get}
use Rattle.semantics.specs.Subject as subject
use Rattle.semantics.specs.Subject.{Pattern, Atom, Binding, LeastFit, NoFit, Guards}
use Rattle.semantics.specs.Computed.{nothing, atom_of}
use Rattle.chase.specs.Chase.{fresh}
use Rattle.chase.specs.Firing.{Fires}
use Rattle.atoms.specs.Meaning.{atom_meant}
use Rattle.refusals.specs.Refusals.{Is}
use Rattle.refusals.specs.declared.refusal.Refusal.{Refusal}
use Rattle.steps.specs.Sides.{FirstMissing}
use Rattle.steps.specs.declared.step.Head.{Head}

-- the head h under b, its existential variables being the nulls from n on; the last null count is m
abbrev pub Bears : Binding → ℕ → Pattern → Atom → ℕ → Type 0
Bears b n h a m = (a ≡ atom_of (fresh b n h.slots).0 h) × (m ≡ (fresh b n h.slots).1)

-- the head, or nothing where the nulls would not suffice
abbrev pub Borne : Binding → ℕ → Pattern → Option Head → Type 0
Borne b n h (Some x) = Bears b n h (atom_meant x.atom) x.nulls
Borne b n h None = 1000000 < (fresh b n h.slots).1

module _ (pile : List Atom) (rule : subject.Rule) (place nulls : ℕ) where
  -- why the rule does not give its head there
  pub data NotFired (e : Refusal) : Type 0 where
    -- 12 (0, place): no atom is at the place
    past : Is e 12 0 place → slice_get pile place ≡ None → NotFired e
    -- 13 (0, place): the atom there does not fit the guard
    unfit : (k : ℕ) (g : Guards rule.body k) (a : Atom) → Is e 13 0 place → slice_get pile place ≡ Some a → NoFit nothing g.pattern a → NotFired e
    -- 14 (body index): the first body pattern that, bound by the guard, is not on the pile
    missing : (k : ℕ) (g : Guards rule.body k) (a : Atom) (b : Binding) (i : ℕ) → Is e 14 i 0 → slice_get pile place ≡ Some a → LeastFit nothing g.pattern a b → FirstMissing pile b rule.body (Some i) → NotFired e
    -- 15: the rule may be used, and there are not nulls enough
    no_null : (b : Binding) → Is e 15 0 0 → Fires pile rule place b → 1000000 < (fresh b nulls rule.head.slots).1 → NotFired e

  -- the rule's head where the rule may be used; or why not
  abbrev pub Judged : Result Head Refusal → Type 0
  Judged (Ok h) = (b : Binding) × Fires pile rule place b × Bears b nulls rule.head (atom_meant h.atom) h.nulls
  Judged (Err e) = NotFired e
