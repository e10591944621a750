use Rattle.std.proofs.Common.{map, subst}
use Rattle.std.specs.Option.{option_map}
use Rattle.semantics.specs.Subject.{On, Searched}
use Rattle.atoms.specs.Meaning.{pattern_meant}
use Rattle.fitting.specs.Bindings.{bound}
use Rattle.matching.specs.Searches.{pile}
use Rattle.declarations.specs.Bodies.{patterns_meant}
use Rattle.refutes.proofs.Satisfies.{found_decides}
use Rattle.refutes.proofs.refute.has_match.Goals as goal

pub returns : goal.returns
returns g c =
    let m = On (pile (g.S.Stock.list c.args.stock.now)) in
    let o = c.find_match.result in
    found_decides m (patterns_meant c.args.patterns.now) o c.is_some.result c.is_some.ensures
    (subst (λ ps. Searched m (map pattern_meant ps) (option_map bound o)) c.as_slice.ensures.value c.find_match.ensures.matched)
