-- What looks for the variables of a body, and the guard that it finds.
use Rattle.std.proofs.Common.{◌≡◌, ℕ, zero, suc, ◌+◌, ◌<◌, not, inl, inr, Bool, true, false, cond, ◌&&◌, List, [], ◌∷◌, map, length, get_or, nat_lt, Some, None, Option, sym, refl, ap, ◌∙◌, arith}
use Rattle.std.specs.List.{slice_get, list_all, position_or_len}
use Rattle.std.specs.Option.{option_map}
use Rattle.std.proofs.lemmas.Bool.{lt-ltb, le-ltb, cases_lt}
use Rattle.std.proofs.lemmas.List.{length-map}
use Rattle.std.proofs.lemmas.Option.{slice_get_read}
use Rattle.semantics.specs.Computed.{covers, covers_all, guard, guard_from}
use Rattle.semantics.specs.Subject.{Slot, Pattern}
use Rattle.semantics.proofs.Fitting.{none_some}
use Rattle.semantics.proofs.Guarding.{guards, no_guard}
use Rattle.atoms.specs.Meaning.{pattern_meant}
use Rattle.terms.specs.Meaning.{slot_meant}
use Rattle.atoms.specs.declared.atom.Atom.{Atom}
use Rattle.terms.specs.declared.pattern_term.PatternTerm.{PatternTerm}
use Rattle.terms.specs.declared.pattern_term.PatternTerm.TheVariants.{Constant, Variable}
use Rattle.rules.specs.declared.rule.Rule.{Rule}
use Rattle.declarations.specs.Bodies.{patterns_meant}
use Rattle.rules.specs.Rules.{FindsGuard}
use Rattle.rules.specs.Covering.{slot_covered, slots_meant}

pub all_covered : (q : List Slot) (ts : List PatternTerm) → list_all (λ t. slot_covered (slot_meant t) q) ts ≡ covers (map slot_meant ts) q
all_covered q [] = refl
all_covered q (Constant c ∷ ts) = all_covered q ts
all_covered q (Variable v ∷ ts) = ap (λ w. slot_covered (slot_meant (Variable v)) q && w) (all_covered q ts)

pub all_cover : (q : List Slot) (ps : List (Atom PatternTerm)) → list_all (λ p. covers (slots_meant p) q) ps ≡ covers_all (map pattern_meant ps) q
all_cover q [] = refl
all_cover q (p ∷ ps) = ap (λ w. covers (slots_meant p) q && w) (all_cover q ps)

-- one more before the first that passes a test
one_before : (w : Bool) (n m : ℕ) (o : Option ℕ) → cond (nat_lt n m) (Some n) None ≡ o → cond (nat_lt (cond (not w) (1 + n) 0) (suc m)) (Some (cond (not w) (1 + n) 0)) None ≡ cond w (Some 0) (option_map suc o)
one_before true n m o e = ap (λ b. cond b (Some 0) None) (lt-ltb 0 (suc m) (omega arith))
one_before false n m o e =
    elim (cases_lt n m) [
      | inl l ↦ ap (λ b. cond b (Some (1 + n)) None) (lt-ltb (1 + n) (suc m) (omega (arith, l))) ∙ (let s : 1 + n ≡ suc n = omega arith in ap Some s) ∙ ap (option_map suc) (sym (ap (λ b. cond b (Some n) None) (lt-ltb n m l)) ∙ e)
      | inr g ↦ ap (λ b. cond b (Some (1 + n)) None) (le-ltb (1 + n) (suc m) (omega (arith, g))) ∙ ap (option_map suc) (sym (ap (λ b. cond b (Some n) None) (le-ltb n m g)) ∙ e)
    ]

-- the first that covers the body
pub first_covers : (body : List Pattern) (ps : List (Atom PatternTerm)) → cond (nat_lt (position_or_len (λ p. covers_all body (slots_meant p)) ps) (length ps)) (Some (position_or_len (λ p. covers_all body (slots_meant p)) ps)) None ≡ guard_from body (map pattern_meant ps)
first_covers body [] = ap (λ b. cond b (Some 0) None) (le-ltb 0 0 (omega arith))
first_covers body (p ∷ ps) = one_before (covers_all body (slots_meant p)) (position_or_len (λ q. covers_all body (slots_meant q)) ps) (length ps) (guard_from body (map pattern_meant ps)) (first_covers body ps)

pub finds_guard : (body : List (Atom PatternTerm)) (o : Option ℕ) → o ≡ guard (patterns_meant body) → FindsGuard body o
finds_guard body None e = no_guard (patterns_meant body) (sym e)
finds_guard body (Some k) e = (sym e, guards (patterns_meant body) k (sym e))

nth_below : {X : Type 0} (xs : List X) (k : ℕ) (x : X) → slice_get xs k ≡ Some x → k < length xs
nth_below [] k x e = absurd (none_some e)
nth_below (y ∷ ys) zero x e = omega arith
nth_below (y ∷ ys) (suc k) x e = let h : k < length ys = nth_below ys k x e in omega arith

-- the guard is one of the body's patterns
pub guard_within : (r : Rule) → r.guard < length r.body
guard_within r =
    let g = guards (patterns_meant r.body) r.guard r.guarded in
    let l : r.guard < length (patterns_meant r.body) = nth_below (patterns_meant r.body) r.guard g.pattern g.there in
    omega (arith, length-map r.body pattern_meant)

-- what is read there from the body's patterns is the guard's pattern
pub guard_read : (r : Rule) (ps : List (Atom PatternTerm)) (p : Atom PatternTerm) → p ≡ get_or ps r.guard p → ps ≡ r.body → slice_get r.body r.guard ≡ Some p
guard_read r ps p is e = slice_get_read _ _ r.guard p refl (guard_within r) (is ∙ ap (λ xs. get_or xs r.guard p) e)
