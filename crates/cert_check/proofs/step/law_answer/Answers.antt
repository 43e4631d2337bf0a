use Rattle.std.proofs.Common.{◌≡◌, Some, refl, sym, ap, ◌∙◌, subst, option_map}
use Rattle.net_tree.specs.Place.{a_network}
use Rattle.net_syntax.specs.Placed.{placed_at}
use Rattle.net_tree.specs.LawStep.{step_of}
use Rattle.net_tree.specs.LawStep.{seen}
use Rattle.net_syntax.specs.ChildParts.{seen_place}
use Rattle.cert_check.specs.StepAnswers.{IsTreeAnswer}
use Rattle.cert_check.proofs.Taken.{answered_there, unmatched_there}
use Rattle.cert_check.proofs.step.law_answer.Goals as goal

pub returns-in-Some-2 : goal.returns-in-Some-2
returns-in-Some-2 c =
    let found : placed_at 0 0 (a_network c.args.net.now.net) c.args.step.now.position ≡ Some (seen_place c.in-Some.place) =
    sym c.place_in.ensures ∙ ap (option_map seen_place) c.in-Some.is in
    answered_there c.args.net.now (step_of c.args.step.now) (seen_place c.in-Some.place) c.in-Some-2.new found
    (subst (IsTreeAnswer c.in-Some.place.olds c.args.step.now.law c.args.step.now.direction (seen c.in-Some.place.tree) (step_of c.args.step.now).given) c.in-Some-2.is c.in_ok-new.ensures)

pub returns-in-None : goal.returns-in-None
returns-in-None c =
    let found : placed_at 0 0 (a_network c.args.net.now.net) c.args.step.now.position ≡ Some (seen_place c.in-Some.place) =
    sym c.place_in.ensures ∙ ap (option_map seen_place) c.in-Some.is in (
      refl,
      unmatched_there c.args.net.now (step_of c.args.step.now) (seen_place c.in-Some.place) found
          (subst (IsTreeAnswer c.in-Some.place.olds c.args.step.now.law c.args.step.now.direction (seen c.in-Some.place.tree) (step_of c.args.step.now).given) c.in-None.is c.in_ok-new.ensures),
    )
