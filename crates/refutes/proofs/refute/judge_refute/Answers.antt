use Rattle.refutes.proofs.Refuting.{too_large, not_satisfied, not_obeyed, has_answer, refutes}
use Rattle.refutes.proofs.refute.judge_refute.Goals as goal

pub returns-in_err-size : goal.returns-in_err-size
returns-in_err-size g c =
    too_large (g.S.Stock.list c.args.stock.now) _ _ _ _ _ _ c.from_residual.ensures.1 c.in_err-size.ensures

pub returns-in_err-check_rules : goal.returns-in_err-check_rules
returns-in_err-check_rules g c =
    not_satisfied (g.S.Stock.list c.args.stock.now) _ _ _ _ _ c.in_ok-size.ensures _ _ c.from_residual-in_err-check_rules.ensures.1 c.in_err-check_rules.ensures

pub returns-in_err-check_constraints : goal.returns-in_err-check_constraints
returns-in_err-check_constraints g c =
    not_obeyed (g.S.Stock.list c.args.stock.now) _ _ _ _ _ c.in_ok-size.ensures c.in_ok-check_rules.ensures _ _ c.from_residual-in_err-check_constraints.ensures.1 c.in_err-check_constraints.ensures

pub returns-in_err-check_query : goal.returns-in_err-check_query
returns-in_err-check_query g c =
    has_answer (g.S.Stock.list c.args.stock.now) _ _ _ _ _ c.in_ok-size.ensures c.in_ok-check_rules.ensures c.in_ok-check_constraints.ensures _ _ c.from_residual-in_err-check_query.ensures.1 c.in_err-check_query.ensures

pub returns : goal.returns
returns g c =
    refutes (g.S.Stock.list c.args.stock.now) _ _ _ _ _ c.in_ok-size.ensures c.in_ok-check_rules.ensures c.in_ok-check_constraints.ensures c.in_ok-check_query.ensures
