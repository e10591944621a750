use Rattle.std.proofs.Common.{refl}
use Rattle.std.proofs.lemmas.Result.{err_from_is_err_and}
use Rattle.checker.proofs.checker.Checker.open.Goals as goal

pub returns-in_err-judge_open-clause-did : goal.returns-in_err-judge_open-clause-did
returns-in_err-judge_open-clause-did g c =
    let p = err_from_is_err_and c.from_residual.result c.from_residual.ensures.1 in
    rw (p.1, p.2) (g.met.K.Kind.opens _ _ _ _ (c.in_err-judge_open.ensures, refl))
