-- What the marks of a filter tell.
use Rattle.std.proofs.Common.{◌≡◌, ℕ, ◌+◌, ◌<◌, Bool, true, false, ◌≢◌, List, length, get_or, set, Some, None, sym, ap, ◌∙◌, subst, inl, inr, arith, get_or-set_other, get_or-set_same}
use Rattle.std.specs.List.{slice_get}
use Rattle.std.proofs.lemmas.Bool.{both_ways, cases_eq, cases_lt}
use Rattle.semantics.specs.Subject as subject
use Rattle.semantics.proofs.Fitting.{some_is, none_some}
use Rattle.atoms.specs.Meaning.{atom_meant}
use Rattle.atoms.specs.declared.atom.Atom.{Atom}
use Rattle.terms.specs.declared.term.Term.{Term}
use Rattle.matching.specs.Searches.{pile}
use Rattle.openings.specs.Earlier.{Before}
use Rattle.openings.specs.Filters.{Marked, slot_of}
use Rattle.openings.proofs.Judging.{meant_at}

-- an atom whose slot is not marked stands nowhere before
pub unmarked : (seen : List Bool) (xs : List (Atom Term)) (place : ℕ) (a : Atom Term) → Marked seen (pile xs) place → false ≡ get_or seen (slot_of (atom_meant a)) false → Before xs place a → ⊥
unmarked seen xs place a m e (k, h, at) = both_ways (get_or seen (slot_of (atom_meant a)) false) (sym e) (m k (atom_meant a) h (meant_at xs k (Some a) at))

pub slot_below : (a : subject.Atom) → slot_of a < 65521
slot_below a = omega arith

-- a mark takes none away
kept : (seen : List Bool) (i j : ℕ) → i < length seen → get_or seen j false ≡ true → get_or (set seen i true) j false ≡ true
kept seen i j h e =
    elim (cases_eq j i) [
      | inl q ↦ subst (λ n. get_or (set seen i true) n false ≡ true) (sym q) (let l : i < length seen = h in rw get_or-set_same)
      | inr n ↦ let ne : j ≢ i = n in rw get_or-set_other e
    ]

module _ (seen : List Bool) (xs : List (Atom Term)) (place : ℕ) (m : Marked seen (pile xs) place) where
  pub marked_past : (after : List Bool) → None ≡ slice_get xs place → after ≡ seen → Marked after (pile xs) (place + 1)
  marked_past after none e k b h at =
      ap (λ s. get_or s (slot_of b) false) e ∙ elim (cases_lt k place) [
        | inl l ↦ m k b l at
        | inr l ↦
            let q : place ≡ k = omega arith in
            absurd (none_some (sym (meant_at xs place None (sym none)) ∙ ap (slice_get (pile xs)) q ∙ at))
      ]

  pub marked_more : (a : Atom Term) (after : List Bool) → Some a ≡ slice_get xs place → slot_of (atom_meant a) < length seen → after ≡ set seen (slot_of (atom_meant a)) true → Marked after (pile xs) (place + 1)
  marked_more a after is inside e k b h at =
      ap (λ s. get_or s (slot_of b) false) e ∙ elim (cases_lt k place) [
        | inl l ↦ kept seen (slot_of (atom_meant a)) (slot_of b) inside (m k b l at)
        | inr l ↦
            let q : place ≡ k = omega arith in
            let same : atom_meant a ≡ b = some_is (sym (meant_at xs place (Some a) (sym is)) ∙ ap (slice_get (pile xs)) q ∙ at) in
            subst (λ c. get_or (set seen (slot_of (atom_meant a)) true) (slot_of c) false ≡ true) same (rw get_or-set_same)
      ]
