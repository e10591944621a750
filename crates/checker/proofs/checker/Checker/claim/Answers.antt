use Rattle.checker.proofs.Judging.{claimed, claim_after}
use Rattle.checker.proofs.checker.Checker.claim.Goals as goal

pub returns-clause-did : goal.returns-clause-did
returns-clause-did g c = claimed _ _ _ _ c.judge_claim-judged.result _ c.judge_claim-judged.ensures c.close.ensures.closed

pub returns-clause-truth : goal.returns-clause-truth
returns-clause-truth g c = claim_after _ _ _ _ _ _ (returns-clause-did g c)
