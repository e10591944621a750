-- The chase that an open derivation stands for.
use Rattle.chase.specs.Chase as chase
use Rattle.protocol.specs.States.{State}

-- its pile, atoms added and nulls issued
abbrev pub chase_of : State → chase.State
chase_of s = record { pile = s.pile; added = s.added; nulls = s.nulls }
