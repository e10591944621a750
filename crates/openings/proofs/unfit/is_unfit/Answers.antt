use Rattle.std.proofs.Common.{refl}
use Rattle.std.proofs.lemmas.Bool.{both_ways, false≢true}
use Rattle.book.specs.Theory.{predicates_of}
use Rattle.openings.proofs.Judging.{strange, again, was_before}
use Rattle.openings.proofs.Marking.{unmarked}
use Rattle.openings.proofs.unfit.is_unfit.Goals as goal

pub returns-then-not-is_fact : goal.returns-then-not-is_fact
returns-then-not-is_fact g c =
    (λ _. strange (predicates_of c.args.book.now) (g.S.Stock.list c.args.stock.now) c.args.place c.args.atom.now c.requires.there (λ f. false≢true (c.if-not-is_fact.ensures.1 f)), λ _. refl)

pub returns-then-is_marked : goal.returns-then-is_marked
returns-then-is_marked g c =
    let ps = predicates_of c.args.book.now in
    let xs = g.S.Stock.list c.args.stock.now in (
      λ t. again ps xs c.args.place c.args.atom.now c.requires.there (c.earlier.ensures.0 t),
      λ u. c.earlier.ensures.1 (was_before ps xs c.args.place c.args.atom.now c.requires.there (c.if-not-is_fact.ensures.0 refl) u),
    )

pub returns-else-is_marked : goal.returns-else-is_marked
returns-else-is_marked g c =
    let ps = predicates_of c.args.book.now in
    let xs = g.S.Stock.list c.args.stock.now in (
      λ t. absurd (both_ways c.is_marked.result c.if-is_marked.false t),
      λ u. absurd (unmarked c.args.seen.now xs c.args.place c.args.atom.now c.requires.marked c.if-is_marked.ensures (was_before ps xs c.args.place c.args.atom.now c.requires.there (c.if-not-is_fact.ensures.0 refl) u)),
    )
