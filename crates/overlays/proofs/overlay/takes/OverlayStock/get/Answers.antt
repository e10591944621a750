use Rattle.overlays.proofs.Stacks.{get_left, get_right, stacked_is}
use Rattle.overlays.proofs.overlay.takes.OverlayStock.get.Goals as goal

pub returns-then-place-len : goal.returns-then-place-len
returns-then-place-len g c =
    let o = c.args.self.now in
    get_left _ _ _ _ _ (stacked_is 1000000 (g.S.Stock.list o.below) o.own.items (g.S.Stock.short o.below)) (rw (← c.len.ensures) c.if-place-len.true) c.get.ensures

pub returns-else-place-len : goal.returns-else-place-len
returns-else-place-len g c = get_right _ _ _ _ _ _ c.seen.ensures c.len-else-place-len.ensures (rw (← c.len.ensures) c.if-place-len.false) c.at.ensures
