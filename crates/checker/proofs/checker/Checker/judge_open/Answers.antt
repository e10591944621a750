use Rattle.std.proofs.Common.{rules, sym, refl, ap, ◌∙◌}
use Rattle.std.specs.Option.{option_map}
use Rattle.book.specs.Tables.{entries}
use Rattle.declarations.specs.Bodies.{patterns_meant}
use Rattle.std.proofs.lemmas.Result.{err_from_is_err_and}
use Rattle.protocol.specs.Calls.{no_query, unfit_shelf}
use Rattle.checker.proofs.Judging.{absent, entry_none, entry_some, in_range}
use Rattle.checker.proofs.checker.Checker.judge_open.Goals as goal

pub returns-in_err-ok_or : goal.returns-in_err-ok_or
returns-in_err-ok_or g c =
    let p = err_from_is_err_and c.from_residual.result c.from_residual.ensures.1 in
    let no = absent c.query.result _ _ c.in_err-ok_or.ensures.value in
    rw (p.1, p.2, no.1) (no_query (refl, refl, refl) (search rules) ((entry_none _ patterns_meant _ (entries c.args.self.now.book.queries) c.args.query c.query.ensures no.0)))

pub returns-in-Some : goal.returns-in-Some
returns-in-Some g c =
    let there = entry_some _ patterns_meant c.query.result (entries c.args.self.now.book.queries) c.args.query c.query.ensures _ c.in_ok-ok_or.ensures.ok_part in
    (unfit_shelf c.in-Some.place _ (refl, refl, refl) (search rules) there (rw (← c.below.ensures) c.in-Some.ensures))

pub returns-in-None : goal.returns-in-None
returns-in-None g c =
    let there = entry_some _ patterns_meant c.query.result (entries c.args.self.now.book.queries) c.args.query c.query.ensures _ c.in_ok-ok_or.ensures.ok_part in
    (search rules, (_, there), rw (← c.below.ensures) c.in-None.ensures, in_range (entries c.args.self.now.book.queries) c.args.query _ (sym c.query.ensures ∙ ap (option_map _) c.in_ok-ok_or.ensures.ok_part))
