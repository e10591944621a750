use Rattle.std.proofs.Common.{◌≡◌, map, drop}
use Rattle.chase.specs.Chase.{fresh}
use Rattle.terms.specs.Meaning.{slot_meant}
use Rattle.fitting.specs.Bindings.{bound}
use Rattle.steps.proofs.head.with_nulls.Given as goal

-- what is left gives the whole
abbrev pub invariant-loop-slot : goal.invariant-loop-slot
invariant-loop-slot l = fresh (bound l.now_fresh.binding) l.now_fresh.nulls (map slot_meant (drop l.slot-index l.head.terms)) ≡ fresh (bound l.initial.now_fresh.binding) l.initial.now_fresh.nulls (map slot_meant l.head.terms)
