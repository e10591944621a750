use Rattle.std.proofs.Common.{arith}
use Rattle.trials.specs.Short.{rows_short}
use Rattle.trials.proofs.fixed.FixedShelf.free_count.Goals as goal

pub returns-clause-room : goal.returns-clause-room
returns-clause-room c = omega (arith, rows_short c.args.self.now.records.now)
