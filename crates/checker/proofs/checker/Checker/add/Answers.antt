use Rattle.std.proofs.Common.{refl, ap}
use Rattle.std.proofs.lemmas.Result.{err_from_is_err_and}
use Rattle.checker.proofs.Judging.{added}
use Rattle.checker.proofs.checker.Checker.add.Goals as goal

pub returns-in_err-ground-clause-did : goal.returns-in_err-ground-clause-did
returns-in_err-ground-clause-did g c =
    let p = err_from_is_err_and c.from_residual.result c.from_residual.ensures.1 in
    rw (p.1, p.2) (c.in_err-ground.ensures, refl)

pub returns-clause-did : goal.returns-clause-did
returns-clause-did g c =
    rw c.or.ensures (added _ _ _ _ _ c.in_ok-ground.ground c.put_atom.result refl c.in_ok-ground.ensures c.put_atom.ensures.put)
