use Rattle.std.proofs.Common.{refl}
use Rattle.std.proofs.lemmas.Result.{err_from_is_err_and}
use Rattle.checker.proofs.Judging.{stepped}
use Rattle.checker.proofs.checker.Checker.step.Goals as goal

pub returns-in_err-head-clause-did : goal.returns-in_err-head-clause-did
returns-in_err-head-clause-did g c =
    let p = err_from_is_err_and c.from_residual.result c.from_residual.ensures.1 in
    rw (p.1, p.2) (c.in_err-head.ensures, refl)

pub returns-clause-did : goal.returns-clause-did
returns-clause-did g c = rw c.or.ensures (stepped _ _ _ _ _ c.in_ok-head.head c.put_atom.result c.in_ok-head.ensures c.put_atom.ensures.put)
