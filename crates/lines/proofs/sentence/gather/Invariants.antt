use Rattle.std.proofs.Common.{◌≡◌, drop, vec_items}
use Rattle.lines.specs.Sentences.{gathers, gathered}
use Rattle.lines.proofs.sentence.gather.Given as goal

abbrev pub invariant-loop-i : goal.invariant-loop-i
invariant-loop-i l = gathers (vec_items l.body) l.part l.begun (drop l.i l.tokens) ≡ gathered l.tokens
