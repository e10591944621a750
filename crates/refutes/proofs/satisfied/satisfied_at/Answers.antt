use Rattle.std.proofs.Common.{None, refl}
use Rattle.fitting.specs.Bindings.{bound}
use Rattle.matching.specs.Searches.{pile}
use Rattle.rules.specs.Meaning.{rule_meant}
use Rattle.refutes.proofs.Satisfies.{there_meant, past_satisfied, unfit_at, missing_at, head_at}
use Rattle.refutes.proofs.satisfied.satisfied_at.Goals as goal

pub returns-in_default : goal.returns-in_default
returns-in_default g c =
    let xs = g.S.Stock.list c.args.stock.now in
    (λ _. past_satisfied (pile xs) (rule_meant c.args.rule.now) c.args.place (there_meant xs c.args.place None c.in_default.ensures), λ _. refl)

pub returns-in_default-fit : goal.returns-in_default-fit
returns-in_default-fit g c =
    let xs = g.S.Stock.list c.args.stock.now in
    (λ _. unfit_at xs c.args.rule.now c.args.place c.guard_pattern.result.now c.guard_pattern.ensures c.in-Some.atom c.in-Some.ensures (bound c.unbound.result) c.unbound.ensures c.in_default-fit.ensures.value, λ _. refl)

pub returns-in-Some-first_missing : goal.returns-in-Some-first_missing
returns-in-Some-first_missing g c =
    let xs = g.S.Stock.list c.args.stock.now in (
      λ _.
          missing_at xs c.args.rule.now c.args.place c.guard_pattern.result.now c.guard_pattern.ensures c.in-Some.atom c.in-Some.ensures (bound c.unbound.result) c.unbound.ensures
          (bound c.in-Some-fit.binding) c.in-Some-fit.ensures.value c.body.result.now c.body.ensures c.in-Some-first_missing.field-0 c.in-Some-first_missing.ensures,
      λ _. refl,
    )

pub returns-in-None : goal.returns-in-None
returns-in-None g c =
    let xs = g.S.Stock.list c.args.stock.now in
    head_at xs c.args.rule.now c.args.place c.guard_pattern.result.now c.guard_pattern.ensures c.in-Some.atom c.in-Some.ensures (bound c.unbound.result) c.unbound.ensures
    (bound c.in-Some-fit.binding) c.in-Some-fit.ensures.value c.body.result.now c.body.ensures c.in-None.ensures c.head.result.now c.head.ensures c.head_there.result c.head_there.ensures
