use Rattle.protocol.proofs.Keeping.{met_new, met_more}
use Rattle.protocol.proofs.Whole as whole
use Rattle.checker.specs.Views.{view}
use Rattle.runs.proofs.vouch.vouch.Goals as goal

pub returns : goal.returns
returns g c =
    let s = view g.S.Stock.list g.S.Shelf.free c.args.checker.now in
    record {
      law = λ book number facts es met. whole.law g.W.Candidate.has book number facts es s met;
      decidable = λ book number facts es met. whole.decidable book number facts es s met;
      made = met_new s;
      extended = λ book number facts es e t met did. met_more book number facts es s t e met did;
    }
