use Rattle.std.proofs.Common.{None, sym, subst}
use Rattle.atoms.specs.Meaning.{atom_meant, pattern_meant}
use Rattle.fitting.specs.Bindings.{bound}
use Rattle.steps.specs.Judged.{Borne}
use Rattle.steps.proofs.Firing.{bears, never}
use Rattle.steps.proofs.step.bear.Goals as goal

pub returns-in_err-fresh : goal.returns-in_err-fresh
returns-in_err-fresh c =
    subst (Borne (bound c.args.binding) c.args.nulls (pattern_meant c.args.head.now)) (sym c.from_residual.ensures) c.in_err-fresh.ensures

pub returns-in_err-atom : goal.returns-in_err-atom
returns-in_err-atom c =
    absurd (never (bound c.args.binding) (bound c.in_ok-fresh.fresh.binding) c.args.nulls (pattern_meant c.args.head.now) c.in_ok-fresh.ensures.0 c.in_err-atom.ensures)

pub returns : goal.returns
returns c =
    bears (bound c.args.binding) (bound c.in_ok-fresh.fresh.binding) c.args.nulls (pattern_meant c.args.head.now) c.in_ok-fresh.ensures.0 c.in_ok-fresh.fresh.nulls (atom_meant c.in_ok-atom.atom) c.in_ok-fresh.ensures.1 c.in_ok-atom.ensures
