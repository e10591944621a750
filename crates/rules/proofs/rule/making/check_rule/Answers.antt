use Rattle.std.proofs.Common.{sym, subst}
use Rattle.declarations.specs.Arities.{arities_of}
use Rattle.rules.specs.Rules.{RuleChecked}
use Rattle.rules.proofs.Writing.{rule_stops, body_refused, head_refused, rule_made}
use Rattle.rules.proofs.rule.making.check_rule.Goals as goal

pub returns-in_err-patterns : goal.returns-in_err-patterns
returns-in_err-patterns c =
    rule_stops (arities_of c.args.declarations.now) c.args.body.now c.args.head.now _ c.from_residual.result c.from_residual.ensures.1
    (body_refused (arities_of c.args.declarations.now) c.args.body.now c.args.head.now _ c.in_err-patterns.ensures)

pub returns-in_err-pattern : goal.returns-in_err-pattern
returns-in_err-pattern c =
    let taken = c.in_ok-patterns.ensures in
    rule_stops (arities_of c.args.declarations.now) c.args.body.now c.args.head.now _ c.from_residual-in_err-pattern.result c.from_residual-in_err-pattern.ensures.1
    (head_refused (arities_of c.args.declarations.now) c.args.body.now c.args.head.now _ _ taken.0 taken.1 c.in_err-pattern.ensures)

pub returns : goal.returns
returns c =
    let taken = c.in_ok-patterns.ensures in
    subst (RuleChecked (arities_of c.args.declarations.now) c.args.body.now c.args.head.now) (sym c.ok_or.ensures.value)
    (rule_made (arities_of c.args.declarations.now) c.args.body.now c.args.head.now c.in_ok-patterns.patterns c.in_ok-pattern.pattern c.new.result taken.0 (taken.1, c.in_ok-pattern.ensures) c.new.ensures)
