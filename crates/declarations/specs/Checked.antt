-- Atoms as a caller writes them, checked against the declared arities.
use Rattle.std.specs.Prelude.{◌≡◌, ℕ, List, map, length, take, Some, None, Ok, Err, Result, ◌≢◌}
use Rattle.std.specs.List.{slice_get, AllByRecursion}
use Rattle.refusals.specs.Refusals.{Is}
use Rattle.reading.specs.Written.{Readable, Unreadable}
use Rattle.atoms.specs.declared.atom.Atom.{Atom}
use Rattle.reading.specs.declared.raw.RawAtom.{RawAtom}
use Rattle.reading.specs.declared.raw.RawTerm.{RawTerm}
use Rattle.refusals.specs.declared.refusal.Refusal.{Refusal}
use Rattle.semantics.specs.Subject.{numbered}

module _ {T : Type 0} (written : T → RawTerm) (arities : List ℕ) where
  -- a is what is written: its predicate is declared with so many terms, and the terms are those
  pub record Taken (raw : RawAtom) (a : Atom T) : Type 0 where
    pub declared : numbered arities raw.predicate ≡ Some raw.terms.count
    pub predicate : a.predicate.number ≡ raw.predicate
    pub count : raw.terms.count ≡ length (raw.terms.first)
    pub terms : map written a.terms ≡ raw.terms.first

  -- why what is written is refused, as the atom of that index: 3, else 4, else 5 at the first bad term
  pub data AtomRefused (index : ℕ) (raw : RawAtom) (e : Refusal) : Type 0 where
    undeclared : numbered arities raw.predicate ≡ None → Is e 3 index raw.predicate → AtomRefused index raw e
    other_arity : (n : ℕ) → numbered arities raw.predicate ≡ Some n → (n ≢ raw.terms.count) → Is e 4 index raw.terms.count → AtomRefused index raw e
    bad_term : (i : ℕ) (w : RawTerm) → numbered arities raw.predicate ≡ Some raw.terms.count → slice_get (raw.terms.first) i ≡ Some w → Unreadable written w → AllByRecursion (Readable written) (take i (raw.terms.first)) → Is e 5 index i → AtomRefused index raw e

  -- the atom that is written, or why it is refused
  abbrev pub Checked : ℕ → RawAtom → Result (Atom T) Refusal → Type 0
  Checked index raw (Ok a) = Taken raw a
  Checked index raw (Err e) = AtomRefused index raw e
