use Rattle.std.proofs.Common.{None, Some}
use Rattle.sample_core.specs.TypeView.{type_of}
use Rattle.net_syntax.specs.StandingWalk.{standing_of}
use Rattle.net_syntax.proofs.FoundOutputs.{nothing_found}
use Rattle.net_syntax.proofs.FoundTypes.{from_root, type_there, nothing_stands}
use Rattle.net_syntax.proofs.standing.type_at.Goals as goal

pub returns-in-Ok : goal.returns-in-Ok
returns-in-Ok c =
    type_there c.args.net.now c.args.position.now (type_of c.in-Ok.found) c.net.ensures.limits
    (from_root c.args.net.now (standing_of c.in_ok-at.at) _ c.net.result.now c.path.result.now c.args.position.now (Some (type_of c.in-Ok.found)) c.in_ok-at.ensures
    c.input.ensures c.net.ensures.net c.path.ensures c.in-Ok.ensures)

pub returns-in-Err-NoType : goal.returns-in-Err-NoType
returns-in-Err-NoType c =
    nothing_stands c.args.net.now c.args.position.now c.net.ensures.limits
    (from_root c.args.net.now (standing_of c.in_ok-at.at) _ c.net.result.now c.path.result.now c.args.position.now None c.in_ok-at.ensures c.input.ensures
    c.net.ensures.net c.path.ensures (nothing_found type_of c.in-Err-NoType.field-0 _ c.in-Err-NoType.field-0-is c.in-Err-NoType.ensures))
