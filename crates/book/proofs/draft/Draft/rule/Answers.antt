use Rattle.std.proofs.Common.{Err, sym, refl, ap, ◌∙◌, subst}
use Rattle.std.proofs.lemmas.Result.{err_from_is_err_and}
use Rattle.book.specs.Drafts.{RuleDone}
use Rattle.book.proofs.draft.Draft.rule.Goals as goal

pub returns-in_err-rule : goal.returns-in_err-rule
returns-in_err-rule c =
    let d = c.args.self.now in
    let p = err_from_is_err_and c.from_residual.result c.from_residual.ensures.1 in
    subst (λ r. RuleDone d c.args.body.now c.args.head.now r d) (sym (p.1 ∙ ap Err p.2)) (c.in_err-rule.ensures, refl)
