use Rattle.std.proofs.Common.{◌≡◌, ◌-◌, ◌<◌, ◌≤◌, true, false, ◌⊎◌, length, map, take, drop, is_some, Some, sym, ap, ◌∙◌, inl, inr, arith, rules}
use Rattle.std.specs.List.{slice_get}
use Rattle.std.specs.Option.{option_map}
use Rattle.std.proofs.lemmas.List.{length-map}
use Rattle.semantics.specs.Computed.{first_match as found, fit, and_then, reaches}
use Rattle.atoms.specs.Meaning.{atom_meant, pattern_meant}
use Rattle.terms.specs.Meaning.{slot_meant}
use Rattle.fitting.specs.Bindings.{bound}
use Rattle.matching.specs.Searches.{pile, patterns_meant}
use Rattle.matching.proofs.Rounds.{past, over, nth_map, split, goes_on, ends, no_fit, none_long, mapped_some}
use Rattle.matching.proofs.find.+find_from.Goals.{then-is_some-via-then-is_some, then-is_some-via-else-is_some+then-not-again, in-Some+in-Some-fit+else-is_some+else-not-again, in-Some+in_default-fit, in_default-get}
use Rattle.matching.proofs.find.+find_from.Goals as goal

pub returns-in_default : goal.returns-in_default
returns-in_default g t c =
    let short : length c.args.patterns.now < 1 = search rules in
    sym (ap (λ ps. found (pile (g.S.Stock.list c.args.stock.now)) (bound c.args.binding) (patterns_meant ps)) (none_long _ short))

pub loop-place-init : goal.loop-place-init
loop-place-init g t c =
    let some : 0 < length c.args.patterns.now = search rules in
    sym (ap (λ ps. found (pile (g.S.Stock.list c.args.stock.now)) (bound c.args.binding) (patterns_meant ps)) (split c.args.patterns.now c.first-item.result some c.first-item.is))

pub returns-then-is_some : goal.returns-then-is_some
returns-then-is_some g t c =
    let xs = g.S.Stock.list c.args.stock.now in
    let later = take (length c.args.patterns.now - 1) (drop 1 c.args.patterns.now) in
    let there : slice_get (pile xs) c.loop-place.place ≡ Some (atom_meant c.in-Some.atom) = nth_map atom_meant xs c.loop-place.place ∙ ap (option_map atom_meant) (sym c.in-Some.ensures) in
    let reached : reaches (bound c.args.binding) (pattern_meant c.first-item.result).slots (patterns_meant later) ≡ reaches (bound c.args.binding) (map slot_meant c.as_slice.result.now) (patterns_meant later) = ap (λ ss. reaches (bound c.args.binding) (map slot_meant ss) (patterns_meant later)) (sym c.as_slice.ensures.value) in
    let why : (is_some (option_map bound c.find_from-found.result) ≡ true) ⊎ (reaches (bound c.args.binding) (pattern_meant c.first-item.result).slots (patterns_meant later) ≡ false) =
    elim c.then-is_some.branch [
      | then-is_some-via-then-is_some w ↦ inl (mapped_some bound c.find_from-found.result ∙ sym c.is_some.ensures ∙ w.if-is_some.true)
      | then-is_some-via-else-is_some+then-not-again w ↦ inr (reached ∙ sym c.slots_reach-again.ensures ∙ w.if-not-again.true)
    ] in
    ends (pile xs) (bound c.args.binding) (pattern_meant c.first-item.result) (patterns_meant later) c.loop-place.place (atom_meant c.in-Some.atom) there (bound c.in-Some-fit.more) c.in-Some-fit.ensures.value (option_map bound c.find_from-found.result) c.find_from-found.ensures why
    ∙ c.loop-place.invariant

pub loop-place-preserved : goal.loop-place-preserved
loop-place-preserved g t c =
    let xs = g.S.Stock.list c.args.stock.now in
    let b = bound c.args.binding in
    let p = pattern_meant c.first-item.result in
    let ps = patterns_meant (take (length c.args.patterns.now - 1) (drop 1 c.args.patterns.now)) in
    let k = c.loop-place.place in
    elim c.match-get.branch [
      | in-Some+in-Some-fit+else-is_some+else-not-again w ↦
          goes_on (pile xs) b p ps k (atom_meant w.in-Some.atom) (nth_map atom_meant xs k ∙ ap (option_map atom_meant) (sym w.in-Some.ensures)) (bound w.in-Some-fit.more) w.in-Some-fit.ensures.value (option_map bound w.find_from-found.result) w.find_from-found.ensures (mapped_some bound w.find_from-found.result ∙ sym w.is_some.ensures ∙ w.if-is_some.false)
          ∙ c.loop-place.invariant
      | in-Some+in_default-fit w ↦ no_fit (pile xs) b p ps k (atom_meant w.in-Some.atom) (nth_map atom_meant xs k ∙ ap (option_map atom_meant) (sym w.in-Some.ensures)) w.in_default-fit.ensures.value ∙ c.loop-place.invariant
      | in_default-get w ↦ past (λ a. and_then (fit b p a) (λ d. found (pile xs) d ps)) (pile xs) k (nth_map atom_meant xs k ∙ ap (option_map atom_meant) (sym w.in_default-get.ensures)) ∙ c.loop-place.invariant
    ]

pub returns : goal.returns
returns g t c =
    let xs = g.S.Stock.list c.args.stock.now in
    let b = bound c.args.binding in
    let p = pattern_meant c.first-item.result in
    let ps = patterns_meant (take (length c.args.patterns.now - 1) (drop 1 c.args.patterns.now)) in
    let far : length (pile xs) ≤ c.loop-place.place = omega (arith, length-map xs atom_meant, c.len-place-end.ensures) in
    sym (over (λ a. and_then (fit b p a) (λ d. found (pile xs) d ps)) (pile xs) c.loop-place.place far) ∙ c.loop-place.invariant
