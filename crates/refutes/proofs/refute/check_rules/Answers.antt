use Rattle.std.proofs.Common.{◌≡◌, suc, ◌+◌, refl, arith}
use Rattle.chase.specs.Satisfying.{Satisfied}
use Rattle.book.specs.Tables.{entries}
use Rattle.book.specs.Theory.{rules_of}
use Rattle.matching.specs.Searches.{pile}
use Rattle.rules.specs.Meaning.{rule_meant}
use Rattle.steps.proofs.Standing.{every_more}
use Rattle.refutes.proofs.Counting.{meant_there}
use Rattle.refutes.proofs.refute.check_rules.Goals as goal

pub returns-in-Some : goal.returns-in-Some
returns-in-Some g c =
    let i = c.loop-index.index in
    let e : i + 1 ≡ suc i = omega arith in
    record {
      index = i;
      place = c.in-Some.place;
      rule = rule_meant c.rule-item.result;
      is = (refl, e, refl);
      there = meant_there rule_meant (entries c.args.book.now.rules) c.all_rules-rule-items.result.now i c.rule-item.result c.all_rules-rule-items.ensures c.loop-index-test.true c.rule-item.is;
      before = c.loop-index.invariant;
      first = c.in-Some.ensures;
    }

pub loop-index-preserved : goal.loop-index-preserved
loop-index-preserved g c =
    let i = c.loop-index.index in
    every_more (Satisfied (pile (g.S.Stock.list c.args.stock.now))) (rules_of c.args.book.now) i (rule_meant c.rule-item.result)
    (meant_there rule_meant (entries c.args.book.now.rules) c.all_rules-rule-items.result.now i c.rule-item.result c.all_rules-rule-items.ensures c.loop-index-test.true c.rule-item.is) c.loop-index.invariant c.in_default.ensures
