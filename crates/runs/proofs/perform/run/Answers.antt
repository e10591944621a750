use Rattle.std.proofs.Common.{sym, arith}
use Rattle.runs.proofs.Walking.{onward}
use Rattle.runs.proofs.perform.run.Goals as goal

pub loop-call-preserved : goal.loop-call-preserved
loop-call-preserved g c =
    let l = c.loop-call in
    let p = c.perform-event in
    let n = c.push_reserved in
    record {
      went = onward _ _ _ _ _ _ _ _ _ _ l.call-index _ p.result c.loop-call-test.true (sym c.call-item.is) l.invariant.went p.ensures.done n.ensures.items;
      slots = omega (arith, p.ensures.len, p.ensures.room);
      notes = omega (arith, n.ensures.len, n.ensures.capacity);
    }
