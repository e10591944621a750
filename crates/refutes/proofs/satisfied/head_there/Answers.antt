use Rattle.std.proofs.Common.{◌≤◌, length, Some, None, sym, refl, ◌∙◌, subst, arith, below_more}
use Rattle.std.proofs.lemmas.Bool.{false≢true}
use Rattle.semantics.specs.Subject.{Fittable}
use Rattle.semantics.proofs.Fitting.{some_is, none_some}
use Rattle.atoms.specs.Meaning.{atom_meant, pattern_meant}
use Rattle.fitting.specs.Bindings.{bound}
use Rattle.refutes.proofs.Satisfies.{there_meant, within}
use Rattle.refutes.proofs.satisfied.head_there.Goals.{in-Some+else-head_fits, in_default}
use Rattle.refutes.proofs.satisfied.head_there.Goals as goal

pub returns-then-head_fits : goal.returns-then-head_fits
returns-then-head_fits g c =
    let xs = g.S.Stock.list c.args.stock.now in
    let a = c.in-Some.atom in (
      λ _. (
        atom_meant a,
        (c.loop-place.place, there_meant xs c.loop-place.place (Some a) c.in-Some.ensures),
        subst (λ b. Fittable (bound b) (pattern_meant c.args.head.now) (atom_meant a)) c.loop-place.invariant.0 (c.if-head_fits.ensures.answer.0 refl),
      ),
      λ _. refl,
    )

pub loop-place-preserved : goal.loop-place-preserved
loop-place-preserved g c =
    let xs = g.S.Stock.list c.args.stock.now in
    let k = c.loop-place.place in
    let h = pattern_meant c.args.head.now in
    elim c.match-get.branch [
      | in-Some+else-head_fits w ↦ (
        w.binding-is ∙ w.head_fits.ensures.same ∙ c.loop-place.invariant.0,
        below_more _ _ c.loop-place.invariant.1
            (λ a e f.
            let same = some_is (sym (there_meant xs k (Some w.in-Some.atom) w.in-Some.ensures) ∙ e) in
            let start = subst (λ b. Fittable (bound b) h a) (sym c.loop-place.invariant.0) f in
            false≢true (w.if-head_fits.ensures.answer.1 (subst (Fittable (bound c.loop-place.binding) h) (sym same) start))),
      )
      | in_default w ↦ (
        ◌∙◌ {b = c.loop-place.binding} w.binding-is c.loop-place.invariant.0,
        below_more _ _ c.loop-place.invariant.1 (λ a e f. none_some (sym (there_meant xs k None w.in_default.ensures) ∙ e)),
      )
    ]

pub returns : goal.returns
returns g c =
    let xs = g.S.Stock.list c.args.stock.now in
    let far : length xs ≤ c.loop-place.place = omega (arith, c.len-place-end.ensures) in
    (λ t. absurd (false≢true t), λ h. absurd (c.loop-place.invariant.1 h.1.0 (within xs c.loop-place.place h.1.0 h.0 far h.1.1) h.0 h.1.1 h.2))
