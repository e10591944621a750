use Rattle.std.proofs.Common.{arith}
use Rattle.std.proofs.lemmas.Grind.{common_steps}
use Rattle.overlays.proofs.Stacks.{take_none}
use Rattle.overlays.proofs.overlay.Overlay.clear.Goals as goal

pub returns-clause-list : goal.returns-clause-list
returns-clause-list g c =
    let e = take_none 1000000 (g.S.Stock.list c.args.self.now.below) (g.S.Stock.short c.args.self.now.below) in
    grind (arith, common_steps)
