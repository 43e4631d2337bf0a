use Rattle.std.proofs.Common.{subst}
use Rattle.net_syntax.specs.ChildParts.{seen_place}
use Rattle.net_tree.specs.LawStep.{part_of}
use Rattle.net_view.specs.Spots.{MayStand}
use Rattle.net_view.proofs.Spots.{ok_found, answers, none_by, unanswered}
use Rattle.net_view.proofs.possible.step_at.Goals as goal

pub returns-in-Ok-true : goal.returns-in-Ok-true
returns-in-Ok-true c =
    let here = seen_place c.args.spot.place in
    ok_found c.args.net.now c.args.path.now c.args.law here (part_of c.in-Some.new) c.with_change.result c.requires.reached
    (answers c.args.law here c.in-Some.new c.in_ok-new.field-0 c.in-Some.is c.in_ok-new.ensures)
    (subst (MayStand c.args.net.now c.args.path.now (part_of c.in-Some.new)) c.in-Ok-true.field-0-test c.in-Ok-true.ensures) c.with_change.ensures

pub returns-in-Ok-false : goal.returns-in-Ok-false
returns-in-Ok-false c =
    let here = seen_place c.args.spot.place in
    none_by c.args.net.now c.args.path.now c.args.law here (part_of c.in-Some.new) c.requires.reached
    (answers c.args.law here c.in-Some.new c.in_ok-new.field-0 c.in-Some.is c.in_ok-new.ensures)
    (subst (MayStand c.args.net.now c.args.path.now (part_of c.in-Some.new)) c.in-Ok-false.field-0-test c.in-Ok-false.ensures)

pub returns-in_default : goal.returns-in_default
returns-in_default c =
    unanswered c.args.net.now c.args.path.now c.args.law (seen_place c.args.spot.place) c.in_ok-new.field-0 c.requires.reached c.in_default.is c.in_ok-new.ensures
