use Rattle.std.proofs.Common.{rules, tests}
use Rattle.std.proofs.lemmas.Iterator.{YieldsList-from_slice}
use Rattle.std.proofs.lemmas.Iterator.Search.{all_from_yields_List}
use Rattle.openings.specs.Constants.{is_fixed}
use Rattle.openings.proofs.Constant.{fixed_decides}
use Rattle.openings.proofs.fact.are_constants.Goals as goal

pub returns : goal.returns
returns c = fixed_decides c.all.result c.args.terms.now (all_from_yields_List is_fixed _ _ c.all.result c.all.ensures.ran (YieldsList-from_slice c.args.terms.now (search rules)) (λ x b q k. search (rules, tests)))
