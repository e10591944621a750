use Rattle.std.proofs.Common.{◌≡◌, rules}
use Rattle.std.proofs.lemmas.Iterator.{cases_from_any, YieldsList-from_slice}
use Rattle.shelves.specs.declared.record.Record.{Record}
use Rattle.shelves.specs.Rows.{atom_of}
use Rattle.shelves.proofs.Fronts.{Decides-stands}
use Rattle.shelves.proofs.rows.stands.Goals as goal

pub returns : goal.returns
returns c =
    let rows = c.args.rows.now in
    let a = c.args.atom.now in
    Decides-stands atom_of a rows c.any.result (cases_from_any _ _ _ (λ (r : Record). atom_of r ≡ a) (λ r. atom_of r ≡ a → ⊥) c.any.ensures.ran (YieldsList-from_slice rows cc) (λ x q k. search rules) (λ x q k. search rules))
