use Rattle.std.proofs.Common.{◌∙◌}
use Rattle.std.proofs.lemmas.Result.{IfOk-weaker}
use Rattle.printing.proofs.Forms.{verdict_form}
use Rattle.printing.proofs.line.verdict_line.Goals as goal

pub returns : goal.returns
returns c = IfOk-weaker c.format.result _ _ (λ s e. e ∙ verdict_form c.args.n c.args.verdict) c.format.ensures.ok
