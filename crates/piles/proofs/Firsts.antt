-- What comes of the first atom that is put on an empty pile.
use Rattle.std.proofs.Common.{◌≡◌, ℕ, ◌-◌, ◌<◌, min, Bool, true, List, [], length, Contains, Decides, Ok, Err, Result, sym, ap, ◌∙◌, subst, arith}
use Rattle.std.proofs.lemmas.List.Elements.{Contains-push}
use Rattle.atoms.specs.declared.atom.Atom.{Atom}
use Rattle.terms.specs.declared.term.Term.{Term}
use Rattle.shelves.specs.Puts.{Puts}
use Rattle.shelves.specs.declared.taken.Full.{Full}
use Rattle.shelves.specs.declared.taken.Taken.{Taken}
use Rattle.shelves.specs.declared.taken.Taken.TheVariants.{Already, At}
use Rattle.piles.specs.Ensured.{Ensured}

-- what an empty overlay on an empty shelf can take in is not nothing
pub some_room : (f : ℕ) (xs : List (Atom Term)) → f ≡ min 256 (1000000 - length xs) → xs ≡ [] → 0 < f
some_room f xs e z = omega (arith, ap length z)

none_stands : (xs : List (Atom Term)) (a : Atom Term) → xs ≡ [] → Contains xs a → ⊥
none_stands xs a e (k, l, _) = omega (arith, ap length e)

module _ (xs ys : List (Atom Term)) (f g : ℕ) (a : Atom Term) (empty : xs ≡ []) (room : 0 < f) where
  pub first_put : (r : Result Taken Full) → Puts xs f a r ys g → r ≡ Ok (At 0)
  first_put (Ok Already) p = absurd (none_stands xs a empty p.0)
  first_put (Ok (At n)) p = ap (λ n. Ok (At n)) (p.1 ∙ ap length empty)
  first_put (Err full) p = absurd (omega (arith, p.1))

  pub first_ensured : (r : Bool) → Decides r (Contains ys a) → Ensured xs f a ys g → r ≡ true
  first_ensured r d p = d.1 (subst (λ l. Contains l a) (sym (p.1 (none_stands xs a empty) room).0) (Contains-push xs a))
