use Rattle.std.proofs.Common.{◌<◌, ◌≤◌, true, length, set, refl, ◌∙◌, inl, inr, arith, below_more}
use Rattle.std.proofs.lemmas.Bool.{false≢true, cases_lt}
use Rattle.atoms.specs.Meaning.{atom_meant}
use Rattle.book.specs.Theory.{predicates_of}
use Rattle.openings.specs.Filters.{slot_of}
use Rattle.openings.proofs.Judging.{none_unfit, past_unfit}
use Rattle.openings.proofs.Marking.{marked_past, marked_more, slot_below}
use Rattle.openings.proofs.unfit.first_with.Goals as goal
use Rattle.openings.proofs.unfit.first_with.Goals.{in-Some+else-is_unfit, in_default}

pub returns-then-is_unfit : goal.returns-then-is_unfit
returns-then-is_unfit g c = (c.if-is_unfit.ensures.0 refl, c.loop-place.invariant.0)

pub loop-place-preserved : goal.loop-place-preserved
loop-place-preserved g c =
    let xs = g.S.Stock.list c.args.stock.now in
    let place = c.loop-place.place in
    elim c.match-get.branch [
      | in-Some+else-is_unfit w ↦
          let a = w.in-Some.atom in
          let inside : slot_of (atom_meant a) < length c.loop-place.seen = omega (arith, slot_below (atom_meant a), c.requires, c.loop-place.auto.seen) in (
            below_more _ _ c.loop-place.invariant.0 (λ u. false≢true (w.if-is_unfit.ensures.1 u)),
            marked_more c.loop-place.seen xs place c.loop-place.invariant.1 a c.match-get.seen w.in-Some.ensures inside (◌∙◌ {c = set c.loop-place.seen (slot_of (atom_meant a)) true} w.seen-is w.mark.ensures),
          )
      | in_default w ↦ (
        below_more _ _ c.loop-place.invariant.0 (none_unfit (predicates_of c.args.book.now) xs place w.in_default.ensures),
        marked_past c.loop-place.seen xs place c.loop-place.invariant.1 c.match-get.seen w.in_default.ensures w.seen-is,
      )
    ]

pub returns : goal.returns
returns g c k u =
    let xs = g.S.Stock.list c.args.stock.now in
    elim (cases_lt k c.loop-place.place) [
      | inl l ↦ c.loop-place.invariant.0 k l u
      | inr l ↦
          let far : length xs ≤ k = omega (arith, c.len-place-end.ensures, c.loop-place-test.false) in
          past_unfit (predicates_of c.args.book.now) xs k far u
    ]
