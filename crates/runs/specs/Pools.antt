-- Calls of a list, the slips that they are made under, and the events that answer them, one to one.
use Rattle.std.specs.Prelude.{◌≡◌, ℕ, Bool, true, false, List, [], ◌∷◌, ◌++◌, is_ok, Some, None, Ok, Err, Option, Result, slice_index_or, slice_set}
use Rattle.refusals.specs.declared.refusal.Refusal.{Refusal}
use Rattle.shelves.specs.declared.taken.Taken.{Taken}
use Rattle.calls.specs.declared.answer.Verdict.{Verdict}
use Rattle.calls.specs.declared.call.Call.{Call}
use Rattle.calls.specs.declared.call.Call.TheVariants as call
use Rattle.calls.specs.declared.call.SlipCall.{SlipCall}
use Rattle.calls.specs.declared.call.SlipCall.TheVariants as under
use Rattle.calls.specs.declared.event.Event.{Event}
use Rattle.calls.specs.declared.event.Event.TheVariants.{Lodge, OpenDerivation, OpenModel, Step, Add, Claim, Clash, Refute, StrikeDerivation, StrikeModel, NoSlip}
use Rattle.checker.specs.declared.slip.Returned.{Returned}
use Rattle.runs.specs.declared.pool.HeldSlip.{HeldSlip}
use Rattle.runs.specs.declared.pool.HeldSlip.TheVariants as held

-- with a derivation's slip of number n there, P n; else no call was made
abbrev pub UnderDerivation : Option HeldSlip → (ℕ → Type 0) → Event → Type 0
UnderDerivation (Some (held.Derivation n)) P e = P n
UnderDerivation (Some (held.Model n)) P e = e ≡ NoSlip
UnderDerivation None P e = e ≡ NoSlip

-- with a model's slip of number n there, P n; else no call was made
abbrev pub UnderModel : Option HeldSlip → (ℕ → Type 0) → Event → Type 0
UnderModel (Some (held.Derivation n)) P e = e ≡ NoSlip
UnderModel (Some (held.Model n)) P e = P n
UnderModel None P e = e ≡ NoSlip

-- a strike under what is there
abbrev pub Strikes : Option HeldSlip → Event → Type 0
Strikes (Some (held.Derivation n)) e = (r : Result (Unit {0}) Refusal) × (e ≡ StrikeDerivation n r)
Strikes (Some (held.Model n)) e = (r : Result (Unit {0}) Refusal) × (e ≡ StrikeModel n r)
Strikes None e = e ≡ NoSlip

-- the event is the call under the slip that was held, with some answer
abbrev pub Uses : Option HeldSlip → SlipCall → Event → Type 0
Uses slip (under.Step k p) e = UnderDerivation slip (λ n. (r : Result Taken Refusal) × (e ≡ Step n k p r)) e
Uses slip (under.Add w) e = UnderModel slip (λ n. (r : Result Taken Refusal) × (e ≡ Add n w r)) e
Uses slip (under.Claim p) e = UnderDerivation slip (λ n. (r : Result Verdict Refusal) × (e ≡ Claim n p r)) e
Uses slip (under.Clash c p) e = UnderDerivation slip (λ n. (r : Result Verdict Refusal) × (e ≡ Clash n c p r)) e
Uses slip under.Refute e = UnderModel slip (λ n. (r : Result Verdict Refusal) × (e ≡ Refute n r)) e
Uses slip under.Strike e = Strikes slip e

-- the event is the call that was asked for, under the slip that was held in its slot, with some answer
abbrev pub Answers : Option HeldSlip → Call → Event → Type 0
Answers slip (call.Lodge w) e = (r : Result Taken Refusal) × (e ≡ Lodge w r)
Answers slip (call.OpenDerivation q) e = (r : Result (Unit {0}) Refusal) × (e ≡ OpenDerivation q r)
Answers slip (call.OpenModel q) e = (r : Result (Unit {0}) Refusal) × (e ≡ OpenModel q r)
Answers slip (call.Under i c) e = Uses slip c e

-- the slot that a call names
abbrev pub slot_of : Call → Option ℕ
slot_of (call.Lodge w) = None
slot_of (call.OpenDerivation q) = None
slot_of (call.OpenModel q) = None
slot_of (call.Under i c) = Some i

-- what is held in the slot; nothing where none is named or past the last one
abbrev pub held_in : List (Option HeldSlip) → Option ℕ → Option HeldSlip
held_in pool None = None
held_in pool (Some i) = slice_index_or pool i None

-- whether the slip is spent: by an accepted claim, clash or refutal, and by every strike
abbrev pub spends : Event → Bool
spends (Claim n p r) = is_ok r
spends (Clash n c p r) = is_ok r
spends (Refute n r) = is_ok r
spends (StrikeDerivation n r) = true
spends (StrikeModel n r) = true
spends (Lodge w r) = false
spends (OpenDerivation q r) = false
spends (OpenModel q r) = false
spends (Step n k p r) = false
spends (Add n w r) = false
spends NoSlip = false

-- the slip that is handed out, under the checker's number
abbrev pub issued : ℕ → Event → List (Option HeldSlip)
issued number (OpenDerivation q (Ok u)) = Some (held.Derivation number) ∷ []
issued number (OpenDerivation q (Err e)) = []
issued number (OpenModel q (Ok u)) = Some (held.Model number) ∷ []
issued number (OpenModel q (Err e)) = []
issued number (Lodge w r) = []
issued number (Step n k p r) = []
issued number (Add n w r) = []
issued number (Claim n p r) = []
issued number (Clash n c p r) = []
issued number (Refute n r) = []
issued number (StrikeDerivation n r) = []
issued number (StrikeModel n r) = []
issued number NoSlip = []

-- what is in the slot after a call
abbrev pub kept_slot : Option HeldSlip → Bool → Option HeldSlip
kept_slot slip true = None
kept_slot slip false = slip

-- a spent slip leaves its slot empty
abbrev pub emptied : List (Option HeldSlip) → Option ℕ → Bool → List (Option HeldSlip)
emptied pool None spent = pool
emptied pool (Some i) true = slice_set pool i None
emptied pool (Some i) false = pool

-- the pool after a call: each slip in its slot but a spent one, and one that was handed out at the end
abbrev pub pool_after : ℕ → List (Option HeldSlip) → Call → Event → List (Option HeldSlip)
pool_after number pool k e = emptied pool (slot_of k) (spends e) ++ issued number e

-- the calls were made in order over the pool, each answered by one event, and left the pool `end`
abbrev pub Carried : ℕ → List (Option HeldSlip) → List Call → List Event → List (Option HeldSlip) → Type 0
Carried number pool [] [] end = end ≡ pool
Carried number pool [] (e ∷ es) end = ⊥
Carried number pool (k ∷ ks) [] end = ⊥
Carried number pool (k ∷ ks) (e ∷ es) end = Answers (held_in pool (slot_of k)) k e × Carried number (pool_after number pool k e) ks es end

-- the slip that an answer hands back
abbrev pub back_of : {T L : Type 0} → Result T (Returned L) → Option L
back_of (Ok v) = None
back_of (Err e) = Some e.slip
