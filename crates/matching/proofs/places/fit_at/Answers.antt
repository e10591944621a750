use Rattle.std.proofs.Common.{refl}
use Rattle.atoms.specs.Meaning.{pattern_meant}
use Rattle.fitting.specs.Bindings.{bound}
use Rattle.matching.proofs.Placed.{fitted}
use Rattle.matching.proofs.places.fit_at.Goals as goal

pub returns : goal.returns
returns g c =
    fitted (g.S.Stock.list c.args.stock.now) (bound c.args.binding) c.args.index (pattern_meant c.args.pattern.now) c.args.place c.in_ok-atom.atom c.in_ok-atom.ensures c.fit.result c.fit.ensures.value _ (refl, refl, refl) c.ok_or.result c.ok_or.ensures.value
