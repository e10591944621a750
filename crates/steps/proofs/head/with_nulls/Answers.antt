use Rattle.std.proofs.Common.{◌≡◌, ◌+◌, ◌≤◌, ◌<◌, map, length, drop, Some, sym, refl, ap, ◌∙◌, subst, arith, rules}
use Rattle.std.specs.List.{slice_get}
use Rattle.std.proofs.lemmas.Option.{slice_get_read}
use Rattle.chase.specs.Chase.{fresh}
use Rattle.terms.specs.Meaning.{slot_meant}
use Rattle.atoms.specs.Meaning.{pattern_meant}
use Rattle.fitting.specs.Bindings.{bound}
use Rattle.steps.specs.Heads.{Freshened}
use Rattle.steps.specs.declared.head.Fresh.{Fresh}
use Rattle.steps.proofs.Freshening.{slot_more, slot_none, past_all}
use Rattle.steps.proofs.head.with_nulls.Goals as goal

pub returns-in_err-now_fresh : goal.returns-in_err-now_fresh
returns-in_err-now_fresh c =
    let f = c.loop-slot.now_fresh in
    let xs = c.args.head.now.terms in
    let there : slice_get xs c.loop-slot.slot-index ≡ Some c.slot-item.result = ap (λ ts. slice_get ts c.loop-slot.slot-index) (sym c.as_slice-slot-items.ensures.value) ∙ slice_get_read c.as_slice-slot-items.result.now _ c.loop-slot.slot-index _ refl c.loop-slot-test.true c.slot-item.is in
    let short = slot_none (bound f.binding) f.nulls xs c.loop-slot.slot-index c.slot-item.result there c.in_err-now_fresh.ensures in
    subst (Freshened (bound c.args.fresh.binding) c.args.fresh.nulls (pattern_meant c.args.head.now).slots) (sym c.from_residual.ensures)
    (subst (λ p. 1000000 < p.1) c.loop-slot.invariant short)

pub loop-slot-preserved : goal.loop-slot-preserved
loop-slot-preserved c =
    let f = c.loop-slot.now_fresh in
    let xs = c.args.head.now.terms in
    let there : slice_get xs c.loop-slot.slot-index ≡ Some c.slot-item.result = ap (λ ts. slice_get ts c.loop-slot.slot-index) (sym c.as_slice-slot-items.ensures.value) ∙ slice_get_read c.as_slice-slot-items.result.now _ c.loop-slot.slot-index _ refl c.loop-slot-test.true c.slot-item.is in
    slot_more (bound f.binding) f.nulls xs c.loop-slot.slot-index c.slot-item.result there c.in_ok-now_fresh.now_fresh c.in_ok-now_fresh.ensures
    ∙ c.loop-slot.invariant

pub returns : goal.returns
returns c =
    let f = c.loop-slot.now_fresh in
    let all : length c.as_slice-slot-items.result.now ≡ length c.args.head.now.terms = ap length c.as_slice-slot-items.ensures.value in
    let far : length c.args.head.now.terms ≤ c.loop-slot.slot-index = omega (arith, all, c.loop-slot-test.false) in
    let e = sym (past_all (bound f.binding) f.nulls c.args.head.now.terms c.loop-slot.slot-index far) ∙ c.loop-slot.invariant in
    (ap (λ p. p.0) e, ap (λ p. p.1) e)
