use Rattle.std.proofs.Common.{◌∙◌}
use Rattle.piles.proofs.Firsts.{some_room, first_ensured}
use Rattle.piles.proofs.uses.piled.Goals as goal

pub returns : goal.returns
returns c =
    let below = c.new-2.ensures.list ∙ c.new.ensures.empty in
    let room = some_room _ _ c.new-pile.ensures.free below in
    first_ensured _ _ _ _ c.args.atom (c.new-pile.ensures.list ∙ below) room _ c.ensure.ensures.answer c.ensure.ensures.list
