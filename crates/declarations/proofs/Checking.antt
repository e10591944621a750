-- The refusals of an atom, from what the code has found.
use Rattle.std.proofs.Common.{◌≡◌, ℕ, List, Some, Err, refl, subst}
use Rattle.reading.specs.Written.{ReadsAll}
use Rattle.reading.specs.declared.raw.RawAtom.{RawAtom}
use Rattle.reading.specs.declared.raw.RawTerm.{RawTerm}
use Rattle.refusals.specs.declared.refusal.Refusal.TheVariants.{TermNotAllowed}
use Rattle.semantics.specs.Subject.{numbered}
use Rattle.declarations.specs.Checked.{AtomRefused, bad_term}

pub stops_at_term : {T : Type 0} (written : T → RawTerm) (arities : List ℕ) (index : ℕ) (raw : RawAtom) (row : List RawTerm) (i : ℕ) → numbered arities raw.predicate ≡ Some raw.terms.count → row ≡ raw.terms.first → ReadsAll {T = T} written row (Err i) → AtomRefused written arities index raw (TermNotAllowed index i)
stops_at_term {T = T} written arities index raw row i declared is h =
    let at : ReadsAll {T = T} written (raw.terms.first) (Err i) = subst (λ (ws : List RawTerm). ReadsAll {T = T} written ws (Err i)) is h in
    bad_term i at.0.0 declared at.0.1 at.0.2 at.1 (refl, refl, refl)
