use Rattle.std.proofs.Common.{suc}
use Rattle.atoms.proofs.Standing.{any_is}
use Rattle.atoms.proofs.variables.Atom+PatternTerm.has.Goals as goal

pub returns : goal.returns
returns c = rw (c.any_is.ensures, c.as_slice.ensures.value) (any_is (suc c.args.variable.index) c.args.self.now.terms)
