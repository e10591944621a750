use Rattle.checker.proofs.Seeing.{fact_put, none_own}
use Rattle.checker.proofs.checker.Checker.put_fact.Goals as goal

pub returns-clause-put : goal.returns-clause-put
returns-clause-put g c =
    let d = c.args.self.now in
    rw c.or.ensures (fact_put g.S.Stock.list g.S.Shelf.free d.book d.number d.check d.pile c.put_below.new.self d.nulls c.args.atom _ (none_own _ d.check d.idle c.requires) (g.S.Stock.short _) c.put_below.ensures)
