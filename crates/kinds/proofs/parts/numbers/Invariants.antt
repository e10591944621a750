use Rattle.std.proofs.Common.{◌≡◌, drop, vec_items}
use Rattle.kinds.specs.Kinds.{barely, numbers_of}
use Rattle.kinds.proofs.parts.numbers.Given as goal

abbrev pub invariant-loop-term : goal.invariant-loop-term
invariant-loop-term l = barely (vec_items l.out) (drop l.term-index l.term-items) ≡ numbers_of l.atom
