use Rattle.law_rules.proofs.Gathered.{gathered-members}
use Rattle.law_rules.proofs.collections.gathered.Goals as goal

pub returns : goal.returns
returns c = gathered-members _ _ c.in_ok-all.ensures
