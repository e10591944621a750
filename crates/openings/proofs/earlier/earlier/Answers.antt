use Rattle.std.proofs.Common.{◌≡◌, Some, rules, tests, refl}
use Rattle.std.specs.List.{slice_get}
use Rattle.std.proofs.lemmas.Iterator.{YieldsList-from_range, cases_from_any}
use Rattle.chase.proofs.Below.{any_below}
use Rattle.openings.proofs.earlier.earlier.Goals as goal

pub returns : goal.returns
returns g c =
    let xs = g.S.Stock.list c.args.stock.now in
    any_below c.args.place (λ k. slice_get xs k ≡ Some c.args.atom.now) c.any.result
    (cases_from_any _ _ c.any.result (λ k. slice_get xs k ≡ Some c.args.atom.now) (λ k. slice_get xs k ≡ Some c.args.atom.now → ⊥) c.any.ensures.ran (YieldsList-from_range 0 c.args.place c.args.place (search rules) (search rules)) (λ x q k. search (rules, tests)) (λ x q k. search (rules, tests)))
