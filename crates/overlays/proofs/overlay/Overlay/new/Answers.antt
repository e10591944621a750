use Rattle.std.proofs.Common.{arith}
use Rattle.std.proofs.lemmas.Grind.{common_steps}
use Rattle.overlays.proofs.Stacks.{take_none}
use Rattle.overlays.proofs.overlay.Overlay.new.Goals as goal

pub returns-clause-list : goal.returns-clause-list
returns-clause-list g c =
    let e = take_none 1000000 (g.S.Stock.list c.args.below) (g.S.Stock.short c.args.below) in
    grind (arith, common_steps)

pub returns-clause-free : goal.returns-clause-free
returns-clause-free g c =
    let e = take_none 1000000 (g.S.Stock.list c.args.below) (g.S.Stock.short c.args.below) in
    grind (arith, common_steps)
