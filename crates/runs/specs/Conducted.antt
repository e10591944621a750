-- What a run of calls answers and leaves.
use Rattle.std.specs.Prelude.{◌≡◌, ℕ, List, [], ◌∷◌, ◌++◌, Some, Ok, Err, Option, Result}
use Rattle.semantics.specs.Subject as subject
use Rattle.semantics.specs.Subject.{Candidate}
use Rattle.terms.specs.declared.term.Term.{Term}
use Rattle.atoms.specs.declared.atom.Atom.{Atom}
use Rattle.matching.specs.Searches.{pile}
use Rattle.book.specs.declared.book.Book.{Book}
use Rattle.calls.specs.declared.call.Call.{Call}
use Rattle.calls.specs.declared.call.SlipCall.{SlipCall}
use Rattle.calls.specs.declared.event.Event.{Event}
use Rattle.protocol.specs.Law.{Law, TrueOfDecidable}
use Rattle.protocol.specs.Runs.{Did, Ran, Met}
use Rattle.protocol.specs.States.{State}
use Rattle.refusals.specs.declared.refusal.Refusal.{Refusal}
use Rattle.checker.specs.Views.{view}
use Rattle.checker.specs.declared.checker.Checker.{Checker}
use Rattle.runs.specs.Pools.{Uses, Answers, held_in, slot_of, spends, kept_slot, pool_after, Carried}
use Rattle.runs.specs.declared.pool.HeldSlip.{HeldSlip}
use Rattle.runs.specs.declared.conduct.Unmade.{Unmade}

-- one call under what was held in its slot, with what is in the slot then
pub record Used (s : State) (held : Option HeldSlip) (k : SlipCall) (e : Event) (t : State) (back : Option HeldSlip) : Type 0 where
  pub answers : Uses held k e
  pub did : Did s e t
  pub left : back ≡ kept_slot held (spends e)

-- a slip that an opening handed out goes to the end of the pool
abbrev pub Stored : List (Option HeldSlip) → Result HeldSlip Refusal → Result (Unit {0}) Refusal → List (Option HeldSlip) → Type 0
Stored pool (Ok slip) r end = (r ≡ Ok tt) × (end ≡ pool ++ Some slip ∷ [])
Stored pool (Err e) r end = (r ≡ Err e) × (end ≡ pool)

-- one call of a list, made on a checker in state s over the pool
pub record Performed (s : State) (pool : List (Option HeldSlip)) (k : Call) (e : Event) (t : State) (end : List (Option HeldSlip)) : Type 0 where
  pub answers : Answers (held_in pool (slot_of k)) k e
  pub did : Did s e t
  pub left : end ≡ pool_after s.number pool k e

-- the calls were made on a checker in state s over the pool, and noted with their answers at the end of the log
pub record Went (s : State) (pool : List (Option HeldSlip)) (calls : List Call) (log : List Event) (t : State) (end : List (Option HeldSlip)) (log-after : List Event) : Type 0 where
  pub events : List Event
  pub logged : log-after ≡ log ++ events
  pub carried : Carried s.number pool calls events end
  pub ran : Ran s events t

-- what a finished run promises: the calls are answered one to one by the events es, these are all that the checker has met
-- since it was made of the book and the number on a shelf with these facts, and the law holds of them
pub record Lawful (m : Candidate) (book : Book) (number : ℕ) (facts : List subject.Atom) (calls : List Call) (pool end : List (Option HeldSlip)) (es : List Event) (s : State) : Type 0 where
  pub carried : Carried number pool calls es end
  pub met : Met book number facts es s
  pub law : Law m book number facts es
  pub decidable : TrueOfDecidable book facts es

module _ {S : Type 0} (list : S → List (Atom Term)) (free : S → ℕ) (m : Candidate) where
  -- a checker, and the events at the end of the log; or want of memory before the first call, and then nothing has changed
  abbrev pub Conducted : Book → S → ℕ → List Call → List (Option HeldSlip) → List Event → Result (Checker S) (Unmade S) → List (Option HeldSlip) → List Event → Type 0
  Conducted book shelf number calls pool log (Ok c) end log-after = (es : List Event) × (log-after ≡ log ++ es) × Lawful m book number (pile (list shelf)) calls pool end es (view list free c)
  Conducted book shelf number calls pool log (Err u) end log-after = (u.book ≡ book) × (u.shelf ≡ shelf) × (end ≡ pool) × (log-after ≡ log)
