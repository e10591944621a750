use Rattle.declarations.specs.Arities.{arities_of}
use Rattle.rules.specs.Rules.{RuleChecked}
use Rattle.book.specs.Tables.{Full}
use Rattle.book.proofs.Judging.{judged}
use Rattle.book.proofs.draft.Draft.judge_rule.Goals as goal

pub returns : goal.returns
returns c =
    let d = c.args.self.now in
    judged (Full 64 d.book.rules) (RuleChecked (arities_of d.book.declarations) c.args.body.now c.args.head.now) c.check_rule.result c.in_ok-check_room.ensures c.check_rule.ensures
