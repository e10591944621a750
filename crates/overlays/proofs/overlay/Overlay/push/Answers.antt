use Rattle.std.proofs.Common.{arith, ◌<◌, length}
use Rattle.std.proofs.lemmas.Grind.{common_steps}
use Rattle.overlays.specs.Stacked.{stacked}
use Rattle.overlays.proofs.Stacks.{stacked_push}
use Rattle.overlays.proofs.overlay.Overlay.push.Goals as goal

pub returns-clause-list : goal.returns-clause-list
returns-clause-list g c =
    let o = c.args.self.now in
    rw c.push.ensures.items (stacked_push 1000000 (g.S.Stock.list o.below) o.own.items _ (omega (arith, c.requires)))

pub returns-clause-free : goal.returns-clause-free
returns-clause-free g c =
    let o = c.args.self.now in
    let room : length (stacked g.S.Stock.list o) < 1000000 = omega (arith, c.requires) in
    let e = stacked_push 1000000 (g.S.Stock.list o.below) o.own.items (record { atom = c.args.atom }) room in
    grind (arith, common_steps)
