use Rattle.checker.specs.Views.{view}
use Rattle.checker.proofs.Written.{reads_atom}
use Rattle.checker.proofs.checker.Checker.read_atom.Goals as goal

pub returns : goal.returns
returns g c = reads_atom (view g.S.Stock.list g.S.Shelf.free c.args.self.now) _ c.check.result c.check.ensures
