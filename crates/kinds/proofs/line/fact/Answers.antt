use Rattle.std.proofs.Common.{arith}
use Rattle.std.proofs.lemmas.Grind.{common_steps}
use Rattle.kinds.proofs.Answered.{fact_answered}
use Rattle.kinds.proofs.line.fact.Goals as goal

pub returns : goal.returns
returns c = fact_answered c.args.line.now c.map.result (grind (arith, common_steps)) (grind (arith, common_steps))
