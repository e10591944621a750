use Rattle.std.proofs.Common.{rules, refl}
use Rattle.declarations.specs.Arities.{arities_of}
use Rattle.declarations.specs.Checked.{other_arity}
use Rattle.declarations.proofs.Checking.{stops_at_term}
use Rattle.declarations.proofs.declarations.Declarations.check.Goals as goal

pub returns-then-number-count : goal.returns-then-number-count
returns-then-number-count g c = other_arity c.in_ok-arity.arity.number (search rules) (search rules) (refl, refl, c.count-count.ensures)

pub returns-in-Err : goal.returns-in-Err
returns-in-Err g c =
    stops_at_term g.T.Sort.written (arities_of c.args.self.now) c.args.index c.args.raw.now c.in_ok-row.row c.in-Err.term (search rules) (search rules) c.in-Err.ensures
