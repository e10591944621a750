use Rattle.std.proofs.lemmas.Result.{err_from_is_err_and}
use Rattle.protocol.specs.Calls.{unshown_query}
use Rattle.checker.proofs.checker.Checker.judge_claim.Goals as goal

pub returns-in_err-show : goal.returns-in_err-show
returns-in_err-show g c =
    let p = err_from_is_err_and c.from_residual-in_err-show.result c.from_residual-in_err-show.ensures.1 in
    rw (p.1, p.2) (unshown_query c.in_ok-query.query _ c.in_ok-query.ensures.0 c.patterns_of.ensures c.in_err-show.ensures)
