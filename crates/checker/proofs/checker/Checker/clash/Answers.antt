use Rattle.checker.proofs.Judging.{clashed, clash_after}
use Rattle.checker.proofs.checker.Checker.clash.Goals as goal

pub returns-clause-did : goal.returns-clause-did
returns-clause-did g c = clashed _ _ _ _ _ c.judge_clash-judged.result _ c.judge_clash-judged.ensures c.close.ensures.closed

pub returns-clause-truth : goal.returns-clause-truth
returns-clause-truth g c = clash_after _ _ _ _ _ _ _ (returns-clause-did g c)
