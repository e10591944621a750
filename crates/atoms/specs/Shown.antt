-- How atoms are shown: the predicate, and each term after a space. What no term says is left open.
use Rattle.std.specs.Prelude.{ℕ, List, [], ◌∷◌, Some, decimal, Option}
use Rattle.std.specs.Fmt.{◌++?◌}
use Rattle.atoms.specs.declared.atom.Atom.{Atom}

abbrev pub terms_shown : {T : Type 0} → (T → Option (List ℕ)) → List T → Option (List ℕ)
terms_shown shown [] = Some []
terms_shown shown (t ∷ ts) = Some (32 ∷ []) ++? shown t ++? terms_shown shown ts

abbrev pub atom_shown : {T : Type 0} → (T → Option (List ℕ)) → Atom T → Option (List ℕ)
atom_shown shown a = Some (decimal a.predicate.number) ++? terms_shown shown a.terms
