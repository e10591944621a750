use Rattle.std.proofs.lemmas.Result.{err_from_is_err_and}
use Rattle.protocol.specs.Calls.{not_refuted}
use Rattle.checker.proofs.Seeing.{pile_splits}
use Rattle.checker.proofs.checker.Checker.judge_pile.Goals as goal

pub returns-in_err-size-clause-judged : goal.returns-in_err-size-clause-judged
returns-in_err-size-clause-judged g c =
    let p = err_from_is_err_and c.from_residual-in_err-size.result c.from_residual-in_err-size.ensures.1 in
    rw (p.1, p.2) (not_refuted c.in_ok-query.query _ c.in_ok-query.ensures.0 c.patterns_of.ensures c.in_err-size.ensures)

pub returns-clause-begins : goal.returns-clause-begins
returns-clause-begins g c = let d = c.args.self.now in (pile_splits g.S.Stock.list d.pile (g.S.Stock.short d.pile.below))
