-- What a need of the code is as a record of trees.
use Rattle.sample_core.specs.TypeView.{type_of}
use Rattle.net_syntax.specs.Leaves.{Need}
use Rattle.net_syntax.specs.declared.need.LeafNeed.{LeafNeed}

-- the need that a `LeafNeed` is
abbrev pub need_of : LeafNeed → Need
need_of n = record { position = n.position; key = n.key; output = type_of n.output }
