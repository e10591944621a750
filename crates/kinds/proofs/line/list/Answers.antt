use Rattle.std.proofs.Common.{arith}
use Rattle.std.proofs.lemmas.Grind.{common_steps}
use Rattle.kinds.proofs.Answered.{list_answered}
use Rattle.kinds.proofs.line.list.Goals as goal

pub returns-in_err-read_sentence : goal.returns-in_err-read_sentence
returns-in_err-read_sentence c = list_answered c.args.line.now c.from_residual.result (grind (arith, common_steps)) (grind (arith, common_steps))

pub returns : goal.returns
returns c = list_answered c.args.line.now c.ok_or.result (grind (arith, common_steps)) (grind (arith, common_steps))
