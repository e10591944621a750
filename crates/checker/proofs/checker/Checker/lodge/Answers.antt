use Rattle.std.proofs.Common.{refl}
use Rattle.std.proofs.lemmas.Result.{err_from_is_err_and}
use Rattle.checker.proofs.checker.Checker.lodge.Goals as goal

pub returns-in_err-atom-clause-did : goal.returns-in_err-atom-clause-did
returns-in_err-atom-clause-did g c =
    let p = err_from_is_err_and c.from_residual.result c.from_residual.ensures.1 in
    rw (p.1, p.2) (c.in_err-atom.ensures, refl)
