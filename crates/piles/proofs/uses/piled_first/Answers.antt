use Rattle.std.proofs.Common.{◌∙◌}
use Rattle.piles.proofs.Firsts.{some_room, first_put}
use Rattle.piles.proofs.uses.piled_first.Goals as goal

pub returns : goal.returns
returns c =
    let below = c.new-lower.ensures.list ∙ c.new.ensures.empty in
    let room = some_room _ _ c.new-upper.ensures.free below in
    first_put _ _ _ _ c.args.atom (c.new-upper.ensures.list ∙ below) room _ c.put.ensures.puts
