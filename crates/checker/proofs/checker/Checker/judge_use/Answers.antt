use Rattle.std.proofs.Common.{◌≤◌, refl, arith}
use Rattle.book.specs.Tables.{entries}
use Rattle.rules.specs.Meaning.{rule_meant}
use Rattle.std.proofs.lemmas.Result.{err_from_is_err_and}
use Rattle.protocol.specs.Calls.{no_rule}
use Rattle.checker.proofs.Judging.{absent, entry_none, entry_some, step_judged}
use Rattle.checker.proofs.checker.Checker.judge_use.Goals as goal

pub returns-in_err-found : goal.returns-in_err-found
returns-in_err-found g c =
    let p = err_from_is_err_and c.from_residual-in_err-found.result c.from_residual-in_err-found.ensures.1 in
    let no = absent c.rule.result _ _ c.in_err-found.ensures.value in
    rw (p.1, p.2, no.1) (no_rule c.in_ok-own.field-0 (refl, refl, refl) c.in_ok-own.ensures.0 ((entry_none _ rule_meant _ (entries c.args.self.now.book.rules) c.args.rule c.rule.ensures no.0)))

pub returns : goal.returns
returns g c =
    let few : c.args.self.now.nulls ≤ 1024 = omega (arith, c.args.self.now.few, c.args.self.now.pile.few) in
    step_judged _ _ c.in_ok-own.field-0 _ _ c.in_ok-found.found.now c.judge_step.result c.in_ok-own.ensures.0 (few)
    ((entry_some _ rule_meant c.rule.result (entries c.args.self.now.book.rules) c.args.rule c.rule.ensures _ c.in_ok-found.ensures.ok_part)) (c.judge_step.ensures)
