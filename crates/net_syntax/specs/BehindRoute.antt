-- What the code says of what stands behind a route.
use Rattle.net_tree.specs.Place.{PSwitchChild, member_child, event_child, continuation_child, no_child}
use Rattle.net_syntax.specs.declared.place.StandsBehind.{StandsBehind}
use Rattle.net_syntax.specs.declared.place.StandsBehind.TheVariants as V

-- what a `StandsBehind` says
abbrev pub behind_of : StandsBehind → PSwitchChild
behind_of V.Member = member_child
behind_of V.Event = event_child
behind_of V.Continuation = continuation_child
behind_of V.Nothing = no_child
