use Rattle.std.proofs.Common.{◌≡◌, true, false}
use Rattle.std.proofs.lemmas.Bool.{false≢true}
use Rattle.atoms.specs.Meaning.{atom_meant, pattern_meant}
use Rattle.fitting.specs.Bindings.{bound}
use Rattle.steps.proofs.Standing.{has_on, holds_there}
use Rattle.steps.proofs.side.stands.Goals as goal

pub returns-in-Some : goal.returns-in-Some
returns-in-Some g c =
    let xs = g.S.Stock.list c.args.stock.now in
    let a = c.in-Some.atom in (
      λ t. (atom_meant a, c.in-Some.ensures, has_on xs a (c.contains.ensures.0 t)),
      λ h. c.contains.ensures.1 (holds_there xs (bound c.args.binding) (pattern_meant c.args.pattern.now) a c.in-Some.ensures h),
    )

pub returns-in-None : goal.returns-in-None
returns-in-None g c = (λ t. absurd (false≢true t), λ h. absurd (c.in-None.ensures h.0 h.1))
