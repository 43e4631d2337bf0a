use Rattle.std.proofs.Common.{None, refl, subst}
use Rattle.net_tree.specs.LawStep.{part_of, seen}
use Rattle.net_syntax.specs.ChildParts.{seen_place}
use Rattle.net_tree.specs.declared.law_step.Direction.TheVariants.{Forward}
use Rattle.cert_check.specs.StepAnswers.{IsTreeAnswer}
use Rattle.net_opt.proofs.Tried.{step_there, no_match}
use Rattle.net_opt.proofs.step.step_by_law.Goals as goal

pub returns-in-Some-clause-found : goal.returns-in-Some-clause-found
returns-in-Some-clause-found c =
    step_there c.args.typed.now c.put.new.typed c.args.walk.now.path.items (seen_place c.args.place) c.args.law (part_of c.in-Some.right) c.args.walk.now.refused
    c.put.new.walk.refused c.put.result c.requires.stands c.requires.tried
    (subst (IsTreeAnswer c.args.place.olds c.args.law Forward (seen c.args.place.tree) None) c.in-Some.is c.in_ok-right.ensures) c.put.ensures.puts

pub returns-in-None-clause-found : goal.returns-in-None-clause-found
returns-in-None-clause-found c = (
  refl,
  no_match c.args.walk.now.refused c.args.typed.now c.args.walk.now.path.items (seen_place c.args.place) c.args.law c.requires.stands
      (subst (IsTreeAnswer c.args.place.olds c.args.law Forward (seen c.args.place.tree) None) c.in-None.is c.in_ok-right.ensures),
)
