use Rattle.std.proofs.Common.{None, Some, sym}
use Rattle.net_tree.specs.NetworkView.{tree_of}
use Rattle.net_syntax.specs.StandingWalk.{standing_of}
use Rattle.net_syntax.proofs.FoundOutputs.{nothing_found}
use Rattle.net_syntax.proofs.FoundTypes.{child_found}
use Rattle.net_syntax.proofs.standing.child_standing.Goals as goal

pub returns-in-Ok-clause-stands : goal.returns-in-Ok-clause-stands
returns-in-Ok-clause-stands c = child_found (standing_of c.args.at.now) (tree_of c.args.net.now) c.args.k (Some (standing_of c.in-Ok.found)) (sym c.in-Ok.ensures)

pub returns-in-Err-NoType-clause-stands : goal.returns-in-Err-NoType-clause-stands
returns-in-Err-NoType-clause-stands c =
    child_found (standing_of c.args.at.now) (tree_of c.args.net.now) c.args.k None
    (sym (nothing_found (λ s. standing_of s) c.in-Err-NoType.field-0 _ c.in-Err-NoType.field-0-is c.in-Err-NoType.ensures))
