use Rattle.std.proofs.Common.{length}
use Rattle.fitting.proofs.fit.+fit_slots.Given as goal

abbrev pub decreases-fit_slots : goal.decreases-fit_slots
decreases-fit_slots l = length l.slots.now
