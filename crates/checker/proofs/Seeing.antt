-- How a checker's state follows what its overlay does.
use Rattle.std.proofs.Common.{◌≡◌, ℕ, ◌+◌, ◌-◌, ◌*◌, ◌<◌, ◌≤◌, min, Bool, true, Some, None, Option, ◌⊎◌, List, [], ◌∷◌, ◌++◌, map, length, take, Ok, Err, Result, sym, refl, ap, ◌∙◌, subst, inl, inr, ⊎_elim, arith}
use Rattle.std.specs.Result.{result_or}
use mathlib.Core.HLevel.{is_prop→PathP}
use mathlib.Core.Bool.{Bool-set}
use native.Mathlib.Bridge.{le_prop}
use Rattle.std.proofs.lemmas.List.{map-append, length-map, length_push}
use Rattle.std.proofs.lemmas.Bool.{cases_lt, eqb-true}
use Rattle.semantics.specs.Subject as subject
use Rattle.atoms.specs.Meaning.{atom_meant}
use Rattle.atoms.specs.declared.atom.Atom.{Atom}
use Rattle.terms.specs.declared.term.Term.{Term}
use Rattle.book.specs.Tables.{entries}
use Rattle.book.specs.declared.book.Book.{Book}
use Rattle.calls.specs.declared.answer.Check.{Check}
use Rattle.matching.specs.Searches.{pile}
use Rattle.overlays.specs.Stacked.{stacked, spare, Lowers, Owned}
use Rattle.overlays.specs.declared.overlay.Overlay.{Overlay}
use Rattle.overlays.specs.declared.overlay.NotLowered.{NotLowered}
use Rattle.overlays.specs.declared.overlay.NotLowered.TheVariants.{NotEmpty, Full as NoRoom}
use Rattle.overlays.proofs.Stacks.{take_none, stacked_is}
use Rattle.shelves.specs.Puts.{Puts}
use Rattle.shelves.specs.Rows.{atom_of}
use Rattle.shelves.specs.declared.taken.Full as room
use Rattle.shelves.specs.declared.taken.Taken.{Taken}
use Rattle.shelves.specs.declared.taken.Taken.TheVariants.{Already, At}
use Rattle.steps.proofs.Standing.{has_on, on_has}
use Rattle.protocol.specs.States.{State, Full}
use Rattle.checker.specs.Parts.{FactPut, AtomPut}
use Rattle.checker.specs.Shapes.{query_known, own_known}
use Rattle.checker.specs.declared.checker.Checker.{Checker}

-- what is true of every checker has one proof at most
pub same_checker : {S : Type 0} (c d : Checker S) → c.book ≡ d.book → c.pile ≡ d.pile → c.number ≡ d.number → c.check ≡ d.check → c.nulls ≡ d.nulls → c ≡ d
same_checker c d b p n k m = λ i. record {
  book = b i;
  pile = p i;
  number = n i;
  check = k i;
  nulls = m i;
  asked = is_prop→PathP (λ j. query_known (length (entries (b j).queries)) (k j) ≡ true) (λ j. Bool-set _ _) c.asked d.asked i;
  idle = is_prop→PathP (λ j. own_known (length (p j).own.items) (k j) ≡ true) (λ j. Bool-set _ _) c.idle d.idle i;
  few = is_prop→PathP (λ j. m j ≤ 4 * length (p j).own.items) (λ j. le_prop) c.few d.few i;
}

-- with no check open the overlay has no atoms of its own
pub none_own : (own : ℕ) (k : Option Check) → own_known own k ≡ true → k ≡ None → own ≡ 0
none_own own None h e = eqb-true own 0 h
none_own own (Some k) h e = cc

pub pile_push : (xs : List (Atom Term)) (a : Atom Term) → pile (xs ++ a ∷ []) ≡ pile xs ++ atom_meant a ∷ []
pile_push xs a = map-append atom_meant xs (a ∷ [])

-- the pile is the facts, then atoms of the overlay's own
pub pile_splits : {S : Type 0} (list : S → List (Atom Term)) (o : Overlay S) → length (list o.below) ≤ 1000000 → (own : List subject.Atom) × (pile (stacked list o) ≡ pile (list o.below) ++ own)
pile_splits list o short =
    (_, ap pile (stacked_is 1000000 (list o.below) o.own.items short) ∙ map-append atom_meant (list o.below) _)

module _ {S : Type 0} (list : S → List (Atom Term)) (free : S → ℕ) (b : Book) (n : ℕ) (check : Option Check) where
  -- the state, by its overlay and nulls
  abbrev pub seen : Overlay S → ℕ → State
  seen o m = record { book = b; number = n; facts = pile (list o.below); free = free o.below; pile = pile (stacked list o); added = length o.own.items; nulls = m; check = check }

  pub fact_put : (o p : Overlay S) (m : ℕ) (a : Atom Term) (r : Result Taken NotLowered) → length o.own.items ≡ 0 → length (list p.below) ≤ 1000000 → Lowers list free o a r p → FactPut (seen o m) (atom_meant a) (result_or r (Err (record {}))) (seen p m)
  fact_put o p m a (Ok Already) idle short (none, (has, same, left), own) = (
    has_on (list o.below) a has,
    λ i. record { book = b; number = n; facts = pile (same i); free = left i; pile = pile (take 1000000 (same i ++ map atom_of (own i).items)); added = length (own i).items; nulls = m; check = check },
  )
  fact_put o p m a (Ok (At q)) idle short (none, (new, place, more, left), own) =
      let facts : pile (list p.below) ≡ pile (list o.below) ++ atom_meant a ∷ [] = ap pile more ∙ pile_push (list o.below) a in
      let less : free p.below ≡ free o.below - 1 = omega arith in
      let empty : p.own.items ≡ [] = ap (λ w. w.items) own ∙ none in
      let whole : pile (stacked list p) ≡ pile (list o.below) ++ atom_meant a ∷ [] = ap (λ rs. pile (take 1000000 (list p.below ++ map atom_of rs))) empty ∙ ap pile (take_none 1000000 (list p.below) short) ∙ facts in (
        λ on. new (on_has (list o.below) a on),
        omega arith,
        place ∙ sym (length-map (list o.below) atom_meant),
        λ i. record { book = b; number = n; facts = facts i; free = less i; pile = whole i; added = length (own i).items; nulls = m; check = check },
      )
  fact_put o p m a (Err NoRoom) idle short (none, new, no_room, same) =
      (λ on. new (on_has (list o.below) a on), no_room, λ i. seen (same i) m)
  fact_put o p m a (Err (NotEmpty c)) idle short (some, count, same) = absurd (omega arith)

  -- no room in the overlay is what the state calls full
  full_is : (o : Overlay S) (m : ℕ) → spare list o ≡ 0 → Full (seen o m)
  full_is o m e =
      let long = length-map (stacked list o) atom_meant in
      elim (cases_lt (length o.own.items) 256) [ inl l ↦ inr (omega (arith, l, long, e)) | inr l ↦ inl l ]

  full_not : (o : Overlay S) (m : ℕ) → 0 < spare list o → Full (seen o m) → ⊥
  full_not o m h (inl l) = omega arith
  full_not o m h (inr l) = omega (arith, length-map (stacked list o) atom_meant, h, l)

  -- a new atom in the overlay: v nulls are issued then
  module _ (o p : Overlay S) (m v : ℕ) (a : Atom Term) where
    pub atom_new : (r : Taken) (q : ℕ) → r ≡ At q → Puts (stacked list o) (spare list o) a (Ok r) (stacked list p) (spare list p) → p.below ≡ o.below → Owned o.own a (Ok r) p.own → AtomPut (seen o m) (atom_meant a) v (Ok r) (seen p v)
    atom_new Already q e puts below own = cc
    atom_new (At k) q e (new, place, more, left) below own =
        let whole : pile (stacked list p) ≡ pile (stacked list o) ++ atom_meant a ∷ [] = ap pile more ∙ pile_push (stacked list o) a in
        let longer : length p.own.items ≡ length o.own.items + 1 = ap length own ∙ length_push _ _ in (
          λ on. new (on_has (stacked list o) a on),
          full_not o m (omega arith),
          place ∙ sym (length-map (stacked list o) atom_meant),
          λ i. record { book = b; number = n; facts = pile (list (below i)); free = free (below i); pile = whole i; added = longer i; nulls = v; check = check },
        )

    pub atom_old : (r : Taken) → ((q : ℕ) → r ≡ At q → ⊥) → Puts (stacked list o) (spare list o) a (Ok r) (stacked list p) (spare list p) → p.below ≡ o.below → Owned o.own a (Ok r) p.own → AtomPut (seen o m) (atom_meant a) v (Ok r) (seen p m)
    atom_old (At q) old puts below own = absurd (old q refl)
    atom_old Already old (has, same, left) below own = (
      has_on (stacked list o) a has,
      λ i. record { book = b; number = n; facts = pile (list (below i)); free = free (below i); pile = pile (same i); added = length (own i).items; nulls = m; check = check },
    )

    pub atom_full : (full : room.Full) → Puts (stacked list o) (spare list o) a (Err full) (stacked list p) (spare list p) → p ≡ o → AtomPut (seen o m) (atom_meant a) v (Err full) (seen p m)
    atom_full full (new, no_room, same, left) is = (λ on. new (on_has (stacked list o) a on), full_is o m no_room, λ i. seen (is i) m)
