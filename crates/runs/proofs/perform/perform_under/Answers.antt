use Rattle.std.proofs.Common.{rules, slice_set, ap}
use Rattle.runs.proofs.Pooling.{performed}
use Rattle.runs.proofs.perform.perform_under.Goals as goal

pub returns-clause-done : goal.returns-clause-done
returns-clause-done g c =
    performed _ _ c.args.pool.now.items _ c.args.slot c.args.call _ c.take.result _ (search rules) c.under-back.ensures (ap (slice_set c.args.pool.now.items c.args.slot) c.replace.ensures.after)
