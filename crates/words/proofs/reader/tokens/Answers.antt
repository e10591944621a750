use Rattle.std.proofs.Common.{Some, None, vec_items, arith}
use Rattle.std.proofs.lemmas.Grind.{common_steps}
use Rattle.words.proofs.Scans.{tokens_known, answer_known}
use Rattle.words.proofs.reader.tokens.Goals as goal

pub returns-in_err-next-clause-reads : goal.returns-in_err-next-clause-reads
returns-in_err-next-clause-reads c = answer_known c.args.line.now vec_items c.from_residual.result (grind (arith, common_steps))

pub returns-in_default-clause-reads : goal.returns-in_default-clause-reads
returns-in_default-clause-reads c = λ _. tokens_known c.args.line.now None (grind (arith, common_steps))

pub returns-clause-reads : goal.returns-clause-reads
returns-clause-reads c = tokens_known c.args.line.now (Some (vec_items c.push-2.new.self)) (grind (arith, common_steps))
