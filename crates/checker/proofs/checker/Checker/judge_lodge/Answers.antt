use Rattle.std.proofs.Common.{rules}
use Rattle.checker.proofs.Judging.{lodge_judged}
use Rattle.checker.proofs.checker.Checker.judge_lodge.Goals as goal

pub returns : goal.returns
returns g c = lodge_judged _ _ c.read_fact.result (search rules) c.read_fact.ensures
