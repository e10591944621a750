use Rattle.std.proofs.Common.{Ok, decimal}
use Rattle.std.proofs.Output.{displays_on_IsOk_append, displays_on_ok_of_eq}
use Rattle.atoms.proofs.Shows.{shown_more}
use Rattle.atoms.proofs.shown.AtomDisplay.fmt.Goals as goal

pub loop-term-preserved : goal.loop-term-preserved
loop-term-preserved g c =
    displays_on_ok_of_eq g.W.Write.write_str_gives c.args.f.now _ (Ok tt) _ _
    (shown_more g.T.Display.output (decimal c.args.self.now.predicate.number) c.as_slice-term-items.result.now c.loop-term.term-index c.term-item.result c.loop-term-test.true c.term-item.is)
    (displays_on_IsOk_append g.W.Write.write_str_gives c.args.f.now c.loop-term.f _ (Ok tt) (Ok tt) _ _ (λ e. e) c.loop-term.invariant c.in_ok-write.ensures.writes)
