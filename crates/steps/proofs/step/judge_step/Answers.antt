use Rattle.std.proofs.Common.{◌≡◌, ℕ, List, map, Some, None, Ok, Err, Option, sym, refl, ap, ◌∙◌, subst}
use mathlib.Core.Path.{fun_ext}
use Rattle.std.specs.List.{slice_get}
use Rattle.std.specs.Option.{option_map, ok_or}
use Rattle.std.proofs.lemmas.Result.{err_from_is_err_and}
use Rattle.semantics.specs.Subject as subject
use Rattle.semantics.specs.Subject.{Guards}
use Rattle.semantics.specs.Computed.{nothing}
use Rattle.semantics.proofs.Fitting.{some_is}
use Rattle.semantics.proofs.Guarding.{guards}
use Rattle.atoms.specs.Meaning.{pattern_meant}
use Rattle.atoms.specs.declared.atom.Atom.{Atom}
use Rattle.terms.specs.declared.pattern_term.PatternTerm.{PatternTerm}
use Rattle.fitting.specs.Bindings.{bound, bound_or}
use Rattle.matching.specs.Places.{NotFitted, FittedAt}
use Rattle.matching.specs.Searches.{pile}
use Rattle.matching.proofs.Rounds.{nth_map}
use Rattle.declarations.specs.Bodies.{patterns_meant}
use Rattle.rules.specs.declared.rule.Rule.{Rule}
use Rattle.rules.specs.Meaning.{rule_meant}
use Rattle.chase.specs.Firing.{Fires}
use Rattle.refusals.specs.declared.refusal.Refusal.TheVariants.{OverlayFull}
use Rattle.steps.specs.declared.step.Head.{Head}
use Rattle.steps.specs.Judged.{Judged, Borne, no_null}
use Rattle.steps.specs.Sides.{FirstMissing}
use Rattle.steps.proofs.Firing.{not_fired, side_missing, fires}
use Rattle.steps.proofs.step.judge_step.Goals as goal

-- every rule has its guard
guarded : (r : Rule) → Guards (rule_meant r).body r.guard
guarded r = guards (patterns_meant r.body) r.guard r.guarded

same_guard : (r : Rule) (p : Atom PatternTerm) → slice_get r.body r.guard ≡ Some p → pattern_meant p ≡ (guarded r).pattern
same_guard r p e = some_is (sym (nth_map pattern_meant r.body r.guard ∙ ap (option_map pattern_meant) e) ∙ (guarded r).there)

pub returns-in_err-binding : goal.returns-in_err-binding
returns-in_err-binding g c =
    let xs = pile (g.S.Stock.list c.args.stock.now) in
    let r = c.args.rule.now in
    let p = c.guard_pattern.result.now in
    let e = err_from_is_err_and c.from_residual.result c.from_residual.ensures.1 in
    subst (Judged xs (rule_meant r) c.args.place c.args.nulls) (sym (e.1 ∙ ap Err e.2))
    (not_fired xs (rule_meant r) c.args.place r.guard (guarded r) (pattern_meant p) (same_guard r p c.guard_pattern.ensures) c.args.nulls _
    (subst (λ b. NotFitted xs b 0 (pattern_meant p) c.args.place c.in_err-binding.field-0.0) (fun_ext c.unbound.ensures) c.in_err-binding.ensures))

pub returns-in-Some : goal.returns-in-Some
returns-in-Some g c =
    let xs = pile (g.S.Stock.list c.args.stock.now) in
    let r = c.args.rule.now in
    let p = c.guard_pattern.result.now in
    let b = bound c.in_ok-binding.binding in
    let f : FittedAt xs nothing 0 (pattern_meant p) c.args.place (Ok b) = subst (λ d. FittedAt xs d 0 (pattern_meant p) c.args.place (Ok b)) (fun_ext c.unbound.ensures) c.in_ok-binding.ensures in
    side_missing xs (rule_meant r) c.args.place r.guard (guarded r) (pattern_meant p) (same_guard r p c.guard_pattern.ensures) f.0 b f.1 f.2 c.args.nulls _ c.in-Some.pattern (refl, refl, refl)
    (subst (λ ps. FirstMissing xs b (map pattern_meant ps) (Some c.in-Some.pattern)) c.body.ensures c.in-Some.ensures)

-- the head borne, or want of a null
borne : (xs : List subject.Atom) (r : subject.Rule) (place nulls : ℕ) (b : subject.Binding) → Fires xs r place b → (o : Option Head) → Borne b nulls r.head o → Judged xs r place nulls (ok_or o OverlayFull)
borne xs r place nulls b f (Some h) e = (b, f, e)
borne xs r place nulls b f None e = no_null b (refl, refl, refl) f e

pub returns : goal.returns
returns g c =
    let xs = pile (g.S.Stock.list c.args.stock.now) in
    let r = c.args.rule.now in
    let p = c.guard_pattern.result.now in
    let b = bound c.in_ok-binding.binding in
    let f : FittedAt xs nothing 0 (pattern_meant p) c.args.place (Ok b) = subst (λ d. FittedAt xs d 0 (pattern_meant p) c.args.place (Ok b)) (fun_ext c.unbound.ensures) c.in_ok-binding.ensures in
    let fired = fires xs (rule_meant r) c.args.place r.guard (guarded r) (pattern_meant p) (same_guard r p c.guard_pattern.ensures) f.0 b f.1 f.2 (subst (λ ps. FirstMissing xs b (map pattern_meant ps) None) c.body.ensures c.in_default.ensures) in
    subst (Judged xs (rule_meant r) c.args.place c.args.nulls) (sym c.ok_or.ensures.value)
    (borne xs (rule_meant r) c.args.place c.args.nulls b fired c.bear.result (subst (λ h. Borne b c.args.nulls (pattern_meant h) c.bear.result) c.head.ensures c.bear.ensures))
