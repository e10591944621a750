use Rattle.std.proofs.Common.{ℕ, length, rules, tests}
use Rattle.std.proofs.lemmas.Iterator.{YieldsList-from_range, first_from_find}
use Rattle.chase.proofs.Below.{first_below}
use Rattle.chase.specs.Satisfying.{SatisfiedAt}
use Rattle.matching.specs.Searches.{pile}
use Rattle.rules.specs.Meaning.{rule_meant}
use Rattle.refutes.proofs.Satisfies.{first_unsatisfied}
use Rattle.refutes.proofs.refute.first_unsatisfied.Goals as goal

pub returns : goal.returns
returns g c =
    let xs = g.S.Stock.list c.args.stock.now in
    let P = λ (k : ℕ). SatisfiedAt (pile xs) (rule_meant c.args.rule.now) k in
    first_unsatisfied xs (rule_meant c.args.rule.now) c.find.result
    (first_below (length xs) (λ k. P k → ⊥) P c.find.result (first_from_find _ _ c.find.result (λ k. P k → ⊥) P c.find.ensures.ran (YieldsList-from_range 0 (length xs) (length xs) (search rules) (search rules)) (λ x q k. search (rules, tests)) (λ x q k. search (rules, tests))))
