use Rattle.checker.proofs.Judging.{add_judged}
use Rattle.checker.proofs.checker.Checker.judge_add.Goals as goal

pub returns : goal.returns
returns g c = add_judged _ _ c.in_ok-own.field-0 _ c.read_atom.result c.in_ok-own.ensures.0 c.read_atom.ensures
