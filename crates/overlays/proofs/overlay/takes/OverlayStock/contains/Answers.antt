use Rattle.overlays.proofs.Stacks.{has_below, has_own, stacked_is}
use Rattle.overlays.proofs.overlay.takes.OverlayStock.contains.Goals as goal

pub returns-then-contains : goal.returns-then-contains
returns-then-contains g c =
    let o = c.args.self.now in
    has_below _ _ _ _ _ (stacked_is 1000000 (g.S.Stock.list o.below) o.own.items (g.S.Stock.short o.below)) c.contains.ensures c.if-contains.true

pub returns-else-contains : goal.returns-else-contains
returns-else-contains g c = has_own _ _ _ _ _ _ c.seen.ensures c.contains.ensures c.if-contains.false c.stands.ensures
