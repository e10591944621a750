use Rattle.checker.proofs.Judging.{refuted, refute_now}
use Rattle.checker.proofs.checker.Checker.refute.Goals as goal

pub returns-clause-did : goal.returns-clause-did
returns-clause-did g c = refuted _ _ _ c.judge_pile-judged.result _ c.judge_pile-judged.ensures.judged c.close.ensures.closed

pub returns-clause-truth : goal.returns-clause-truth
returns-clause-truth g c = refute_now _ _ _ _ c.judge_pile-judged.result c.close.result c.judge_pile-judged.ensures.begins c.close.ensures.closed (returns-clause-did g c)
