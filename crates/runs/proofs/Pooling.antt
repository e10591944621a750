-- One call over a pool: what is held in its slot, and what the pool is then.
use Rattle.std.proofs.Common.{◌≡◌, ℕ, Bool, true, false, List, [], ◌++◌, slice_index_or, slice_set, Some, None, Option, sym, refl, ap, ◌∙◌, subst, append-nil}
use Rattle.std.proofs.lemmas.List.{set-get_or}
use Rattle.calls.specs.declared.call.Call.TheVariants as call
use Rattle.calls.specs.declared.call.SlipCall.{SlipCall}
use Rattle.calls.specs.declared.call.SlipCall.TheVariants as under
use Rattle.calls.specs.declared.event.Event.{Event}
use Rattle.protocol.specs.States.{State}
use Rattle.runs.specs.Conducted.{Used, Performed}
use Rattle.runs.specs.Pools.{UnderDerivation, UnderModel, Strikes, Uses, spends, issued, kept_slot, emptied}
use Rattle.runs.specs.declared.pool.HeldSlip.{HeldSlip}
use Rattle.runs.specs.declared.pool.HeldSlip.TheVariants as held

module _ (number : ℕ) (e : Event) where
  by_derivation : (h : Option HeldSlip) (P : ℕ → Type 0) → ((n : ℕ) → P n → issued number e ≡ []) → UnderDerivation h P e → issued number e ≡ []
  by_derivation (Some (held.Derivation n)) P f a = f n a
  by_derivation (Some (held.Model n)) P f a = ap (issued number) a
  by_derivation None P f a = ap (issued number) a

  by_model : (h : Option HeldSlip) (P : ℕ → Type 0) → ((n : ℕ) → P n → issued number e ≡ []) → UnderModel h P e → issued number e ≡ []
  by_model (Some (held.Derivation n)) P f a = ap (issued number) a
  by_model (Some (held.Model n)) P f a = f n a
  by_model None P f a = ap (issued number) a

  by_strike : (h : Option HeldSlip) → Strikes h e → issued number e ≡ []
  by_strike (Some (held.Derivation n)) a = ap (issued number) a.1
  by_strike (Some (held.Model n)) a = ap (issued number) a.1
  by_strike None a = ap (issued number) a

  -- only an opening hands out a slip
  none_issued : (h : Option HeldSlip) (k : SlipCall) → Uses h k e → issued number e ≡ []
  none_issued h (under.Step k p) a = by_derivation h _ (λ n x. ap (issued number) x.1) a
  none_issued h (under.Add w) a = by_model h _ (λ n x. ap (issued number) x.1) a
  none_issued h (under.Claim p) a = by_derivation h _ (λ n x. ap (issued number) x.1) a
  none_issued h (under.Clash c p) a = by_derivation h _ (λ n x. ap (issued number) x.1) a
  none_issued h under.Refute a = by_model h _ (λ n x. ap (issued number) x.1) a
  none_issued h under.Strike a = by_strike h a

put_back : (pool : List (Option HeldSlip)) (i : ℕ) (spent : Bool) → slice_set pool i (kept_slot (slice_index_or pool i None) spent) ≡ emptied pool (Some i) spent
put_back pool i true = refl
put_back pool i false = set-get_or pool i None

-- what is left of the slip goes back into its slot
pub performed : (s t : State) (pool end : List (Option HeldSlip)) (i : ℕ) (k : SlipCall) (e : Event) (h back : Option HeldSlip) → h ≡ slice_index_or pool i None → Used s h k e t back → end ≡ slice_set pool i back → Performed s pool (call.Under i k) e t end
performed s t pool end i k e h back is u left = record {
  answers = subst (λ x. Uses x k e) is u.answers;
  did = u.did;
  left =
      left ∙ ap (slice_set pool i) (u.left ∙ ap (λ x. kept_slot x (spends e)) is) ∙ put_back pool i (spends e) ∙ sym (append-nil _)
      ∙ ap (λ w. emptied pool (Some i) (spends e) ++ w) (sym (none_issued s.number e h k u.answers));
}
