use Rattle.std.proofs.Common.{arith}
use Rattle.std.proofs.lemmas.Grind.{common_steps}
use Rattle.kinds.proofs.Answered.{request_answered}
use Rattle.kinds.proofs.line.request.Goals as goal

pub returns-in_err-atom-in-32 : goal.returns-in_err-atom-in-32
returns-in_err-atom-in-32 c = request_answered c.args.line.now c.from_residual.result (grind (arith, common_steps)) (grind (arith, common_steps))

pub returns-in_ok-atom-in-32 : goal.returns-in_ok-atom-in-32
returns-in_ok-atom-in-32 c = request_answered c.args.line.now c.request_with.result (grind (arith, common_steps)) (grind (arith, common_steps))
