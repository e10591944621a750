use Rattle.std.proofs.Common.{arith}
use Rattle.std.proofs.lemmas.Grind.{common_steps}
use Rattle.std.specs.Option.{option_map}
use Rattle.words.proofs.Inverse.{answers}
use Rattle.lines.specs.Sentences.{sentence, spoken_text, GoodSpoken, spoken_of}
use Rattle.lines.proofs.Speech.{spoken_inverse}
use Rattle.lines.proofs.sentence.read_sentence.Goals as goal

pub returns-in_err-words-clause-reads : goal.returns-in_err-words-clause-reads
returns-in_err-words-clause-reads c = answers GoodSpoken spoken_text spoken_of spoken_inverse (option_map sentence) c.args.line.now c.from_residual.result (grind (arith, common_steps))

pub returns-clause-reads : goal.returns-clause-reads
returns-clause-reads c = answers GoodSpoken spoken_text spoken_of spoken_inverse (option_map sentence) c.args.line.now c.gather.result (grind (arith, common_steps))
