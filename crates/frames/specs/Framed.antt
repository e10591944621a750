-- What a frame in memory says.
use Rattle.std.specs.Prelude.{ℕ, List, map, drop, vec_items}
use Rattle.frames.specs.declared.frame.Frame.{Frame}
use Rattle.frames.specs.Frames.{parts}

-- its six bodies
abbrev pub bodies : Frame → List (List (List ℕ))
bodies f = parts (vec_items f.sizes) (drop 6 (map (λ x. x.now) (vec_items f.lines)))
