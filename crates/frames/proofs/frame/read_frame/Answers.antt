use Rattle.std.proofs.Common.{◌≡◌, map, Some, Ok, vec_items, sym, subst, arith}
use Rattle.std.proofs.lemmas.Grind.{common_steps}
use Rattle.std.proofs.lemmas.List.{length-map}
use Rattle.frames.specs.Frames.{counts_of, Shaped}
use Rattle.frames.proofs.Bundles.{frame_answered, counts_shape}
use Rattle.frames.proofs.frame.read_frame.Goals as goal

pub returns-in_err-lines-clause-reads : goal.returns-in_err-lines-clause-reads
returns-in_err-lines-clause-reads c = frame_answered c.args.bytes.now c.from_residual.result (grind (arith, common_steps))

pub returns-in_err-sizes-clause-reads : goal.returns-in_err-sizes-clause-reads
returns-in_err-sizes-clause-reads c = frame_answered c.args.bytes.now c.from_residual-in_err-sizes.result (grind (arith, common_steps))

pub returns-clause-reads : goal.returns-clause-reads
returns-clause-reads c = frame_answered c.args.bytes.now (Ok (record { lines = c.in_ok-lines.lines; sizes = c.in_ok-sizes.sizes })) (grind (arith, common_steps))

pub returns-clause-shape : goal.returns-clause-shape
returns-clause-shape c =
    let k : Some (vec_items c.in_ok-sizes.sizes) ≡ counts_of (map (λ x. x.now) (vec_items c.in_ok-lines.lines)) = grind (arith, common_steps) in
    subst (Shaped (vec_items c.in_ok-sizes.sizes)) (length-map (vec_items c.in_ok-lines.lines) (λ x. x.now)) (counts_shape _ _ (sym k))
