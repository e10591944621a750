use Rattle.std.proofs.Common.{◌≡◌, sym, ap, ◌∙◌, subst}
use mathlib.Core.Path.{fun_ext}
use Rattle.std.specs.Option.{option_map}
use Rattle.semantics.specs.Subject.{On, Searched}
use Rattle.semantics.specs.Computed.{nothing, first_match}
use Rattle.semantics.proofs.Searching.{search_searched}
use Rattle.fitting.specs.Bindings.{bound}
use Rattle.matching.specs.Searches.{pile, patterns_meant}
use Rattle.matching.proofs.find.find_match.Goals as goal

pub returns : goal.returns
returns g c =
    let xs = pile (g.S.Stock.list c.args.stock.now) in
    let ps = patterns_meant c.args.patterns.now in
    let e : option_map bound c.find_from.result ≡ first_match xs nothing ps = c.find_from.ensures ∙ ap (λ b. first_match xs b ps) (fun_ext c.unbound.ensures) in
    record { value = e; matched = subst (Searched (On xs) ps) (sym e) (search_searched xs ps) }
