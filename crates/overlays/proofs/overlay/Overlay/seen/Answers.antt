use Rattle.std.proofs.Common.{arith}
use Rattle.std.proofs.lemmas.Grind.{common_steps}
use Rattle.overlays.proofs.Stacks.{stacked_is}
use Rattle.overlays.proofs.overlay.Overlay.seen.Goals as goal

pub returns : goal.returns
returns g c =
    let o = c.args.self.now in
    let e = stacked_is 1000000 (g.S.Stock.list o.below) o.own.items (g.S.Stock.short o.below) in
    grind (arith, common_steps)
