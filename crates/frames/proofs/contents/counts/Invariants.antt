use Rattle.std.proofs.Common.{◌≡◌, map, length, drop, vec_items}
use Rattle.frames.specs.Frames.{counts_on, counts_of, contents}
use Rattle.frames.proofs.contents.counts.Given as goal

abbrev pub invariant-loop-letter : goal.invariant-loop-letter
invariant-loop-letter l =
    (goal.iterator-loop-letter).can_next l.letter-iterator ×
    (goal.iterator-loop-letter).is_finite l.letter-iterator ×
    (counts_on (vec_items l.out) l.left (drop (length l.yielded) contents) (map (λ x. x.now) (drop (length l.yielded) l.lines)) ≡ counts_of (map (λ x. x.now) l.lines))
