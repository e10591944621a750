use Rattle.runs.proofs.Walking.{lawful}
use Rattle.runs.proofs.conduct.conduct.Goals as goal

pub returns : goal.returns
returns g c = lawful _ _ _ (g.S.Shelf.free c.args.shelf) _ _ _ _ _ _ _ _ _ _ c.new-checker.ensures.state c.reserve.ensures.items c.reserve-else-is_err.ensures.items c.run.ensures
