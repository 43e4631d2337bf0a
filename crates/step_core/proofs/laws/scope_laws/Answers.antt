use Rattle.step_core.proofs.EnvironmentScopes.{scopes_law}
use Rattle.step_core.proofs.laws.scope_laws.Goals as goal

pub returns : goal.returns
returns c = record { scopes = scopes_law }
