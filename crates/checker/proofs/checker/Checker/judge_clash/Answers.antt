use Rattle.std.proofs.Common.{refl, sym, ap, ◌∙◌}
use Rattle.std.specs.Option.{option_map}
use Rattle.std.proofs.lemmas.Result.{err_from_is_err_and}
use Rattle.protocol.specs.Calls.{no_constraint, unshown_constraint}
use Rattle.checker.proofs.Judging.{absent}
use Rattle.checker.proofs.checker.Checker.judge_clash.Goals as goal

pub returns-in_err-patterns : goal.returns-in_err-patterns
returns-in_err-patterns g c =
    let p = err_from_is_err_and c.from_residual-in_err-patterns.result c.from_residual-in_err-patterns.ensures.1 in
    let no = absent c.constraint_of.result _ _ c.in_err-patterns.ensures.value in
    rw (p.1, p.2, no.1) (no_constraint c.in_ok-own.field-0 (refl, refl, refl) c.in_ok-own.ensures.0 (sym c.constraint_of.ensures ∙ ap (option_map _) no.0))

pub returns-in_err-show : goal.returns-in_err-show
returns-in_err-show g c =
    let p = err_from_is_err_and c.from_residual-in_err-show.result c.from_residual-in_err-show.ensures.1 in
    rw (p.1, p.2) (unshown_constraint c.in_ok-own.field-0 _ c.in_ok-own.ensures.0 (sym c.constraint_of.ensures ∙ ap (option_map _) c.in_ok-patterns.ensures.ok_part) c.in_err-show.ensures)
