use Rattle.std.proofs.Common.{length}
use Rattle.openings.proofs.filter.+weigh.Given as goal

abbrev pub decreases-weigh : goal.decreases-weigh
decreases-weigh l = length l.weights.now
