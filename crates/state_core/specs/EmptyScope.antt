-- Where a whole network runs: with nothing in scope.
use Rattle.std.specs.Prelude.{[]}
use Rattle.state_core.specs.CountedContext.{CountedContext}
use Rattle.state_core.specs.State.{Scope, scope, no_frozen}

-- nothing in scope
abbrev pub empty_context : CountedContext
empty_context = record { params = []; olds = [] }

-- the scope with no parameters and no frozen networks
abbrev pub empty_scope : {L : Type 0} → Scope L
empty_scope = scope [] no_frozen
