-- An atom that is read means what is written.
use Rattle.std.proofs.Common.{◌≡◌, ℕ, List, [], ◌∷◌, map, Ok, Err, Result, sym, refl, ap, ◌∙◌}
use Rattle.semantics.specs.Subject as subject
use Rattle.terms.specs.Meaning.{term_meant}
use Rattle.terms.specs.declared.constant.Constant as con
use Rattle.terms.specs.declared.term.Term.{Term}
use Rattle.terms.specs.declared.term.Term.TheVariants.{Constant, Null}
use Rattle.atoms.specs.Meaning.{atom_meant}
use Rattle.atoms.specs.declared.atom.Atom.{Atom}
use Rattle.reading.specs.Written.{constant_written, term_written}
use Rattle.reading.specs.declared.raw.RawAtom.{RawAtom}
use Rattle.refusals.specs.declared.refusal.Refusal.{Refusal}
use Rattle.declarations.specs.Checked.{Taken, Checked}
use Rattle.book.specs.Theory.{predicates_of}
use Rattle.protocol.specs.States.{State, raw_number, raw_meant}
use Rattle.checker.specs.Parts.{ReadsAtom}

constants : (xs : List con.Constant) → map term_meant (map Constant xs) ≡ map raw_number (map constant_written xs)
constants [] = refl
constants (x ∷ xs) = ap (λ (l : List ℕ). x.number ∷ l) (constants xs)

terms : (xs : List Term) → map term_meant xs ≡ map raw_number (map term_written xs)
terms [] = refl
terms (Constant c ∷ xs) = ap (λ (l : List ℕ). c.number ∷ l) (terms xs)
terms (Null k ∷ xs) = ap (λ (l : List ℕ). term_meant (Null k) ∷ l) (terms xs)

module _ (arities : List ℕ) (w : RawAtom) where
  pub fact_read : (a : Atom con.Constant) (r : Atom Term) → Taken constant_written arities w a → r.predicate ≡ a.predicate → r.terms ≡ map Constant a.terms → atom_meant r ≡ raw_meant w
  fact_read a r t p e =
      let row : map term_meant r.terms ≡ (raw_meant w).terms = ap (map term_meant) e ∙ constants a.terms ∙ ap (map raw_number) t.terms in
      let pred : r.predicate.number ≡ w.predicate = ap (λ q. q.number) p ∙ t.predicate in
      λ i. record { pred = pred i; terms = row i }

  pub atom_read : (a : Atom Term) → Taken term_written arities w a → atom_meant a ≡ raw_meant w
  atom_read a t =
      let row : map term_meant a.terms ≡ (raw_meant w).terms = terms a.terms ∙ ap (map raw_number) t.terms in
      λ i. record { pred = t.predicate i; terms = row i }

pub reads_atom : (s : State) (w : RawAtom) (r : Result (Atom Term) Refusal) → Checked term_written (predicates_of s.book) 0 w r → ReadsAtom s w r
reads_atom s w (Ok a) t = ((a, t), atom_read (predicates_of s.book) w a t)
reads_atom s w (Err e) t = t
