-- A run, call by call.
use Rattle.std.proofs.Common.{◌≡◌, ℕ, ◌+◌, ◌<◌, List, [], ◌∷◌, ◌++◌, length, get_or, take, None, Option, sym, refl, ap, ◌∙◌, subst, append_assoc, append-nil, add-one, take-suc}
use Rattle.calls.specs.declared.call.Call.{Call}
use Rattle.calls.specs.declared.event.Event.{Event}
use Rattle.semantics.specs.Subject.{Atom, Candidate}
use Rattle.book.specs.declared.book.Book.{Book}
use Rattle.protocol.specs.Runs.{Did, Ran, Met}
use Rattle.protocol.specs.States.{State}
use Rattle.protocol.proofs.Keeping.{ran_more, ran_same}
use Rattle.protocol.proofs.Whole.{law, decidable}
use Rattle.runs.specs.Conducted.{Performed, Went, Lawful}
use Rattle.runs.specs.Pools.{Answers, slot_of, held_in, pool_after, Carried}
use Rattle.runs.specs.declared.pool.HeldSlip.{HeldSlip}

carried_more : (number : ℕ) (pool mid end : List (Option HeldSlip)) (ks : List Call) (k : Call) (es : List Event) (e : Event) → Carried number pool ks es mid → Answers (held_in mid (slot_of k)) k e → end ≡ pool_after number mid k e → Carried number pool (ks ++ k ∷ []) (es ++ e ∷ []) end
carried_more number pool mid end [] k [] e h a i = (subst (λ p. Answers (held_in p (slot_of k)) k e) h a, i ∙ ap (λ p. pool_after number p k e) h)
carried_more number pool mid end [] k (x ∷ es) e h a i = absurd h
carried_more number pool mid end (x ∷ ks) k [] e h a i = absurd h
carried_more number pool mid end (x ∷ ks) k (y ∷ es) e h a i = (h.0, carried_more number (pool_after number pool x y) mid end ks k es e h.1 a i)

-- one call more
pub onward : (s m t : State) (pool mid end : List (Option HeldSlip)) (calls : List Call) (log now after : List Event) (i : ℕ) (k : Call) (e : Event) → i < length calls → get_or calls i k ≡ k → Went s pool (take i calls) log m mid now → Performed m mid k e t end → after ≡ now ++ e ∷ [] → Went s pool (take (i + 1) calls) log t end after
onward s m t pool mid end calls log now after i k e l is w p noted =
    let es = w.events in
    let more : take (i + 1) calls ≡ take i calls ++ k ∷ [] = ap (λ n. take n calls) (add-one i) ∙ take-suc calls i k l ∙ ap (λ (c : Call). take i calls ++ c ∷ []) is in
    record {
      events = es ++ e ∷ [];
      logged = noted ∙ ap (λ (l : List Event). l ++ e ∷ []) w.logged ∙ append_assoc log es (e ∷ []);
      carried =
          subst (λ ks. Carried s.number pool ks (es ++ e ∷ []) end) (sym more)
          (carried_more s.number pool mid end (take i calls) k es e w.carried p.answers (p.left ∙ ap (λ n. pool_after n mid k e) (ran_same es s m w.ran).1));
      ran = ran_more es (e ∷ []) s m t w.ran (t, p.did, refl);
    }

-- a run from the making of the checker on
pub lawful : (m : Candidate) (book : Book) (number free : ℕ) (facts : List Atom) (s t : State) (calls : List Call) (pool held end : List (Option HeldSlip)) (log noted after : List Event) → s ≡ record { book = book; number = number; facts = facts; free = free; pile = facts; added = 0; nulls = 0; check = None } → held ≡ pool → noted ≡ log → Went s held calls noted t end after → (es : List Event) × (after ≡ log ++ es) × Lawful m book number facts calls pool end es t
lawful m book number free facts s t calls pool held end log noted after made p n w =
    let es = w.events in
    let first : State = record { book = book; number = number; facts = facts; free = free; pile = facts; added = 0; nulls = 0; check = None } in
    let met : Met book number facts es t = record { first = first; fresh = refl; its_book = refl; its_number = refl; its_facts = refl; ran = subst (λ x. Ran x es t) made w.ran } in (
      es,
      w.logged ∙ ap (λ (l : List Event). l ++ es) n,
      record {
        carried = subst (λ h. Carried number h calls es end) p (subst (λ x. Carried x.number held calls es end) made w.carried);
        met = met;
        law = law m book number facts es t met;
        decidable = decidable book number facts es t met;
      },
    )
