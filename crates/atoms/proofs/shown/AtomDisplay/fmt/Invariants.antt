use Rattle.std.proofs.Common.{Some, Ok, take, decimal}
use Rattle.std.specs.Fmt.{DisplaysOnOk, ◌++?◌}
use Rattle.atoms.specs.Shown.{terms_shown}
use Rattle.atoms.proofs.shown.AtomDisplay.fmt.Given as goal

abbrev pub invariant-loop-term : goal.invariant-loop-term
invariant-loop-term g l =
    DisplaysOnOk g.W.Write.write_str_gives l.fn.f (Ok tt) (Some (decimal l.self.predicate.number) ++? terms_shown g.T.Display.output (take l.term-index l.term-items)) l.f
