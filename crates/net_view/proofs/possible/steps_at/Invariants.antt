use Rattle.std.proofs.Common.{map}
use Rattle.net_view.specs.Possible.{ListsSteps, possible_of}
use Rattle.net_view.proofs.Stepping.{ByLaws}
use Rattle.net_view.proofs.possible.steps_at.Given as goal

-- the steps by the laws so far
abbrev pub invariant-loop-k : goal.invariant-loop-k
invariant-loop-k l = ListsSteps l.fn.net (ByLaws l.fn.net l.fn.path l.k) (map possible_of l.steps.items)
