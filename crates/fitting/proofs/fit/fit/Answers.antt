use Rattle.std.proofs.Common.{rules, sym, subst}
use Rattle.semantics.specs.Subject.{Fitted}
use Rattle.semantics.proofs.Fitting.{fit_fitted}
use Rattle.atoms.specs.Meaning.{atom_meant, pattern_meant}
use Rattle.fitting.specs.Bindings.{bound}
use Rattle.fitting.proofs.fit.fit.Goals as goal

pub returns-then-eq-clause-fitted : goal.returns-then-eq-clause-fitted
returns-then-eq-clause-fitted c =
    let b = bound c.args.binding in
    let p = pattern_meant c.args.pattern.now in
    let a = atom_meant c.args.atom.now in
    subst (Fitted b p a) (sym (search rules)) (fit_fitted b p a)
