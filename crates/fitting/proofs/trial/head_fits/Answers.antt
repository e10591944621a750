use Rattle.std.proofs.Common.{not, sym, ap, ◌∙◌}
use Rattle.std.proofs.lemmas.Bool.{false≢true, eq-eqb}
use Rattle.fitting.proofs.trial.head_fits.Goals as goal

pub returns-then-ne : goal.returns-then-ne
returns-then-ne c =
    let other = c.if-ne.ensures in
    record {
      same = c.drop-trial.ensures;
      answer = (
        λ e. absurd (false≢true e),
        λ f. absurd (false≢true (sym (other ∙ ap not (eq-eqb _ _ f.2.0)))),
      );
    }
