use Rattle.std.proofs.Common.{◌≡◌, take}
use Rattle.net_syntax.proofs.replacing.copied_nets.Given as goal

abbrev pub invariant-loop-net : goal.invariant-loop-net
invariant-loop-net l = l.copied.items ≡ take l.net-index l.nets
