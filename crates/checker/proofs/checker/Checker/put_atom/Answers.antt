use Rattle.std.proofs.Common.{refl}
use Rattle.std.proofs.lemmas.Result.{err_from_is_err_and}
use Rattle.checker.proofs.Seeing.{atom_new, atom_old, atom_full, same_checker}
use Rattle.checker.proofs.checker.Checker.put_atom.Goals as goal

pub returns-in_err-taken-clause-put : goal.returns-in_err-taken-clause-put
returns-in_err-taken-clause-put g c =
    let d = c.args.self.now in
    let e = c.in_err-taken.ensures in
    let p = err_from_is_err_and c.from_residual.result c.from_residual.ensures.1 in
    rw p.1 (atom_full g.S.Stock.list g.S.Shelf.free d.book d.number d.check d.pile c.put.new.self d.nulls c.args.nulls c.args.atom _ e.puts e.full)

pub returns-in_err-taken-clause-full : goal.returns-in_err-taken-clause-full
returns-in_err-taken-clause-full g c =
    let p = err_from_is_err_and c.from_residual.result c.from_residual.ensures.1 in
    rw p.1 (same_checker _ c.args.self.now refl c.in_err-taken.ensures.full refl refl refl)

pub returns-in-At-clause-put : goal.returns-in-At-clause-put
returns-in-At-clause-put g c =
    let d = c.args.self.now in
    let e = c.in_ok-taken.ensures in
    (atom_new g.S.Stock.list g.S.Shelf.free d.book d.number d.check d.pile c.put.new.self d.nulls c.args.nulls c.args.atom c.in_ok-taken.taken c.in-At.field-0 c.in-At.is e.puts e.below e.own)

pub returns-in_default-clause-put : goal.returns-in_default-clause-put
returns-in_default-clause-put g c =
    let d = c.args.self.now in
    let e = c.in_ok-taken.ensures in
    (atom_old g.S.Stock.list g.S.Shelf.free d.book d.number d.check d.pile c.put.new.self d.nulls c.args.nulls c.args.atom c.in_ok-taken.taken c.in_default.not-At e.puts e.below e.own)
