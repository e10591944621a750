use Rattle.std.proofs.Common.{◌∙◌}
use Rattle.std.proofs.lemmas.Result.{IfOk-weaker}
use Rattle.printing.proofs.Forms.{refused_form}
use Rattle.printing.proofs.line.refused_line.Goals as goal

pub returns : goal.returns
returns c = IfOk-weaker c.format.result _ _ (λ s e. e ∙ refused_form c.args.n c.args.refusal) c.format.ensures.ok
