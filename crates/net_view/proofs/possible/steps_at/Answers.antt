use Rattle.std.proofs.Common.{◌≡◌, map, ap, ◌∙◌, subst, arith}
use Rattle.net_view.specs.Possible.{ListsSteps, possible_of}
use Rattle.net_view.specs.declared.possible.TheConstants.{LAWS}
use Rattle.net_view.proofs.Stepping.{ByLaws, no_laws, found_more, found_no_more, all_laws}
use Rattle.net_view.proofs.possible.steps_at.Goals as goal
use Rattle.net_view.proofs.possible.steps_at.Goals.{in-Some+in_ok-push, in_default}

pub loop-k-init : goal.loop-k-init
loop-k-init c = no_laws c.args.net.now c.args.path.now (map possible_of c.new-steps.result.items) (ap (map possible_of) c.new-steps.ensures.items)

pub loop-k-preserved : goal.loop-k-preserved
loop-k-preserved c = elim c.match-branch-2.branch [
  | in-Some+in_ok-push w ↦ found_more c.args.net.now c.args.path.now c.loop-k.k c.law_number.result c.loop-k.steps.items c.match-branch-2.steps.items c.in_ok-step.field-0
      w.in-Some.step c.law_number.ensures.rank c.law_number.ensures.law c.in_ok-step.ensures w.in-Some.is (ap (λ v. v.items) w.steps-is ∙ w.in_ok-push.ensures.items)
      c.loop-k.invariant
  | in_default w ↦ found_no_more c.args.net.now c.args.path.now c.loop-k.k c.law_number.result c.loop-k.steps.items c.match-branch-2.steps.items c.in_ok-step.field-0
      c.law_number.ensures.rank c.law_number.ensures.law c.in_ok-step.ensures w.in_default.not-Some (ap (λ v. v.items) w.steps-is) c.loop-k.invariant
]

pub returns : goal.returns
returns c =
    let all : c.loop-k.k ≡ LAWS = omega arith in
    all_laws c.args.net.now c.args.path.now (map possible_of c.loop-k.steps.items)
    (subst (λ k. ListsSteps c.args.net.now (ByLaws c.args.net.now c.args.path.now k) (map possible_of c.loop-k.steps.items)) all c.loop-k.invariant)
