-- Answers of the parts, put together.
use Rattle.std.proofs.Common.{◌≡◌, ℕ, ◌+◌, ◌-◌, ◌≤◌, ◌≢◌, Bool, true, false, cond, eqb, List, [], ◌∷◌, ◌++◌, map, length, Some, None, Ok, Err, Option, Result, sym, refl, ap, ◌∙◌, arith}
use Rattle.std.specs.Result.{OnOk}
use Rattle.std.specs.List.{slice_get}
use Rattle.std.specs.Option.{option_map, ok_or}
use Rattle.std.proofs.lemmas.Bool.{eqb-false}
use Rattle.std.proofs.lemmas.List.{length-map}
use Rattle.std.proofs.lemmas.Option.{none-some, slice_get_within}
use Rattle.semantics.specs.Subject as subject
use Rattle.semantics.specs.Subject.{Slot, con, var, Binding, Candidate, numbered}
use Rattle.chase.specs.Chase.{fresh, fresh_slot, fresh_var}
use Rattle.terms.specs.declared.term.Term.{Term}
use Rattle.terms.specs.declared.pattern_term.PatternTerm.{PatternTerm}
use Rattle.atoms.specs.Meaning.{pattern_meant}
use Rattle.atoms.specs.declared.atom.Atom.{Atom}
use Rattle.terms.specs.Meaning.{slot_meant}
use Rattle.reading.specs.declared.raw.RawAtom.{RawAtom}
use Rattle.refusals.specs.declared.refusal.Refusal.{Refusal}
use Rattle.refusals.specs.declared.refusal.Refusal.TheVariants.{OverlayFull}
use Rattle.shelves.specs.declared.taken.Full as room
use Rattle.shelves.specs.declared.taken.Taken.{Taken}
use Rattle.shelves.specs.declared.taken.Taken.TheVariants.{Already, At}
use Rattle.std.specs.Result.{result_or}
use Rattle.atoms.specs.Meaning.{atom_meant}
use Rattle.rules.specs.Meaning.{rule_meant}
use Rattle.rules.specs.declared.rule.Rule.{Rule}
use Rattle.book.specs.Theory.{rules_of}
use Rattle.calls.specs.declared.answer.Verdict.{Verdict}
use Rattle.calls.specs.Named.{Places}
use Rattle.steps.specs.Judged as judged
use Rattle.steps.specs.Judged.{Judged}
use Rattle.steps.specs.Stopping as stopping
use Rattle.steps.specs.declared.step.Head.{Head}
use Rattle.protocol.specs.States.{State, with_atom, OwnDerivation, OwnModel}
use Rattle.protocol.specs.Calls.{Idle, unfit, not_fired, unfit_atom, Claimed, Clashed, Refuted, Added, Stepped, overfull, no_room}
use Rattle.protocol.proofs.Theories.{numbered_map}
use Rattle.protocol.proofs.Verdicts.{claim_true, clash_true, refute_true}
use Rattle.checker.specs.Parts.{ReadsFact, ReadsAtom, LodgeJudged, StepJudged, AddJudged, AtomPut, ClaimJudged, ClashJudged, RefuteJudged, Closed}
use Rattle.checker.specs.Views.{plain, TrueAfter, TrueNow}
use Rattle.checker.specs.declared.slip.Returned.{Returned}

pub lodge_judged : (s : State) (w : RawAtom) (r : Result (Atom Term) Refusal) → Idle s → ReadsFact s w r → LodgeJudged s w r
lodge_judged s w (Ok a) idle h = (idle, h.0, h.1)
lodge_judged s w (Err e) idle h = unfit idle h

pub add_judged : (s : State) (n q : ℕ) (w : RawAtom) (r : Result (Atom Term) Refusal) → OwnModel s n q → ReadsAtom s w r → AddJudged s n w r
add_judged s n q w (Ok a) own h = ((q, own), h.0, h.1)
add_judged s n q w (Err e) own h = unfit_atom q own h

-- an entry that was looked for, and what it means
module _ {A B C : Type 0} (g : C → A) (f : A → B) (o : Option C) (xs : List A) (n : ℕ) (found : option_map g o ≡ numbered xs n) where
  pub entry_none : o ≡ None → numbered (map f xs) n ≡ None
  entry_none e = numbered_map f xs n ∙ ap (option_map f) (sym found ∙ ap (option_map g) e)

  pub entry_some : (x : C) → o ≡ Some x → numbered (map f xs) n ≡ Some (f (g x))
  entry_some x e = numbered_map f xs n ∙ ap (option_map f) (sym found ∙ ap (option_map g) e)

-- its number is in range
pub in_range : {A : Type 0} (xs : List A) (n : ℕ) (x : A) → numbered xs n ≡ Some x → (1 ≤ n) × (n ≤ length xs)
in_range {A = A} xs n x e = go (eqb n 0) refl e
  where
    go : (z : Bool) → eqb n 0 ≡ z → cond z None (slice_get xs (n - 1)) ≡ Some x → (1 ≤ n) × (n ≤ length xs)
    go true z h = absurd (none-some x h)
    go false z h =
        let l = slice_get_within xs (n - 1) x h in
        let some : n ≢ 0 = eqb-false n 0 z in
        (omega arith, omega (arith, l))

-- why a look for an entry leaves with a refusal
pub absent : {C : Type 0} (o : Option C) (e x : Refusal) → Err x ≡ ok_or o e → (o ≡ None) × (x ≡ e)
absent None e x h = (refl, cc)
absent (Some c) e x h = let z : ◌≡◌ {A = ℕ} 0 1 = cc in absurd (omega arith)

-- a head issues at most as many nulls as it has terms
slot_few : (b : Binding) (n : ℕ) (s : Slot) → (fresh_slot b n s).1 ≤ n + 1
slot_few b n (con c) = omega arith
slot_few b n (var i) = go (b i)
  where
    go : (o : Option ℕ) → (fresh_var b n i o).1 ≤ n + 1
    go None = omega arith
    go (Some t) = omega arith

fresh_few : (b : Binding) (n : ℕ) (ss : List Slot) → (fresh b n ss).1 ≤ n + length ss
fresh_few b n [] = omega arith
fresh_few b n (s ∷ ss) = omega (arith, slot_few b n s, fresh_few (fresh_slot b n s).0 (fresh_slot b n s).1 ss)

pub step_judged : (s : State) (n q k p : ℕ) (rule : Rule) (r : Result Head Refusal) → OwnDerivation s n q → s.nulls ≤ 1024 → numbered (rules_of s.book) k ≡ Some (rule_meant rule) → Judged s.pile (rule_meant rule) p s.nulls r → StepJudged s n k p r
step_judged s n q k p rule (Ok h) own few named (b, fires, bears) =
    let most = fresh_few b s.nulls (rule_meant rule).head.slots in
    let row : length (map slot_meant rule.head.terms) ≤ 4 = omega (arith, rule.few, length-map rule.head.terms slot_meant) in
    ((q, own), record { rule = rule_meant rule; named_rule = named; by = b; fires = fires; bears = bears }, omega (arith, most, row, bears.1))
step_judged s n q k p rule (Err e) own few named (judged.past is none) = not_fired q (rule_meant rule) own named (stopping.past is none)
step_judged s n q k p rule (Err e) own few named (judged.unfit i g a is there never) = not_fired q (rule_meant rule) own named (stopping.unfit i g a is there never)
step_judged s n q k p rule (Err e) own few named (judged.missing j g a b i is there least first) = not_fired q (rule_meant rule) own named (stopping.missing j g a b i is there least first)
step_judged s n q k p rule (Err e) own few named (judged.no_null b is fires over) =
    let most = fresh_few b s.nulls (rule_meant rule).head.slots in
    let row : length (map slot_meant rule.head.terms) ≤ 4 = omega (arith, rule.few, length-map rule.head.terms slot_meant) in
    absurd (omega (arith, most, row, over, few))

module _ (s t : State) (n : ℕ) where
  -- what was judged, and how the check ends
  pub claimed : (p : Places) (j : Result Verdict Refusal) (r : Result Verdict (Returned ℕ)) → ClaimJudged s n p j → Closed s n j r t → Claimed s n p (plain r) t
  claimed p (Ok v) r h e = rw e.0 (h.0, h.1, h.2, h.3, h.4, h.5, e.1)
  claimed p (Err x) r h e = rw (e.0, e.1) (h, refl)

  pub clashed : (k : ℕ) (p : Places) (j : Result Verdict Refusal) (r : Result Verdict (Returned ℕ)) → ClashJudged s n k p j → Closed s n j r t → Clashed s n k p (plain r) t
  clashed k p (Ok v) r h e = rw e.0 (h.0, h.1, h.2, h.3, h.4, h.5, e.1)
  clashed k p (Err x) r h e = rw (e.0, e.1) (h, refl)

  pub refuted : (j : Result Verdict Refusal) (r : Result Verdict (Returned ℕ)) → RefuteJudged s n j → Closed s n j r t → Refuted s n (plain r) t
  refuted (Ok v) r h e = rw e.0 (h.0, h.1, h.2, h.3, h.4, h.5, h.6, e.1)
  refuted (Err x) r h e = rw (e.0, e.1) (h, refl)

module _ (m : Candidate) (s t : State) (n : ℕ) where
  -- a verdict that was given is true of the facts then held
  pub claim_after : (p : Places) (r : Result Verdict Refusal) → Claimed s n p r t → TrueAfter m s r
  claim_after p (Ok v) h = λ book number start es met. claim_true m book number start es s t n p v met h
  claim_after p (Err x) h = tt

  pub clash_after : (k : ℕ) (p : Places) (r : Result Verdict Refusal) → Clashed s n k p r t → TrueAfter m s r
  clash_after k p (Ok v) h = λ book number start es met. clash_true m book number start es s t n k p v met h
  clash_after k p (Err x) h = tt

pub refute_now : (m : Candidate) (s t : State) (n : ℕ) (j : Result Verdict Refusal) (r : Result Verdict (Returned ℕ)) → OnOk j ((own : List subject.Atom) × (s.pile ≡ s.facts ++ own)) → Closed s n j r t → Refuted s n (plain r) t → TrueNow m s (plain r)
refute_now m s t n (Ok v) (Ok w) own e h = refute_true m s t own.0 n w own.1 h
refute_now m s t n j (Err x) own e h = tt
refute_now m s t n (Err x) (Ok w) own e h = cc

-- what a put answers, as the answer of the call that made it
pub added : (s t : State) (n v : ℕ) (w : RawAtom) (a : Atom Term) (r : Result Taken room.Full) → v ≡ s.nulls → AddJudged s n w (Ok a) → AtomPut s (atom_meant a) v r t → Added s n w (result_or r (Err OverlayFull)) t
added s t n v w a (Ok Already) z ((q, own), is, e) (on, same) = (q, own, is, rw (← e) on, same)
added s t n v w a (Ok (At k)) z ((q, own), is, e) (new, room, place, more) =
    (q, own, is, rw (← e) new, room, place, more ∙ (λ i. with_atom s (e i) (z i)))
added s t n v w a (Err full) z ((q, own), is, e) (new, none, same) = (no_room q (refl, refl, refl) own is (rw (← e) new) none, same)

pub stepped : (s t : State) (n k p : ℕ) (h : Head) (r : Result Taken room.Full) → StepJudged s n k p (Ok h) → AtomPut s (atom_meant h.atom) h.nulls r t → Stepped s n k p (result_or r (Err OverlayFull)) t
stepped s t n k p h (Ok Already) ((q, own), gives, few) (on, same) = (q, atom_meant h.atom, h.nulls, own, gives, on, same)
stepped s t n k p h (Ok (At i)) ((q, own), gives, few) (new, room, place, more) = (q, atom_meant h.atom, h.nulls, own, gives, new, room, place, more)
stepped s t n k p h (Err full) ((q, own), gives, few) (new, none, same) = (overfull q (atom_meant h.atom) h.nulls (refl, refl, refl) own gives new none, same)
