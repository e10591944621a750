use Rattle.std.proofs.lemmas.List.{length-map}
use Rattle.std.proofs.lemmas.Result.{err_from_is_err_and}
use Rattle.fitting.specs.Bindings.{bound}
use Rattle.protocol.specs.Calls.{unplaced}
use Rattle.checker.proofs.checker.Checker.show.Goals as goal

pub returns-in_err-fit_places : goal.returns-in_err-fit_places
returns-in_err-fit_places g c =
    let p = err_from_is_err_and c.from_residual.result c.from_residual.ensures.1 in
    rw (p.1, p.2, ← c.as_slice-patterns.ensures.value) (unplaced (simp length-map (cc)) (rw (← c.as_slice.ensures.value) c.in_err-fit_places.ensures))

pub returns : goal.returns
returns g c =
    rw (← c.as_slice-patterns.ensures.value, ← c.as_slice.ensures.value) (simp length-map (cc), (bound c.in_ok-fit_places.field-0, c.in_ok-fit_places.ensures.0))
