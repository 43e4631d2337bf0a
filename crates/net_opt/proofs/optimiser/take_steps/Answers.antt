use Rattle.std.proofs.Common.{◌≡◌, List, [], ◌∷◌, ◌++◌, length, map, sym, ap, subst, arith, length-append}
use Rattle.std.proofs.lemmas.List.{length-map}
use Rattle.std.specs.List.{All}
use Rattle.net_tree.specs.LawStep.{Step, step_of}
use Rattle.net_meaning.specs.TypedNetwork.{TypedNetwork}
use Rattle.net_tree.specs.declared.law_step.LawStep.{LawStep}
use Rattle.cert_check.specs.Derives.{Steps}
use Rattle.net_opt.specs.Optimising.{FirstSteps, MayTake, NoneLeft}
use Rattle.net_opt.specs.Search.{FirstWithin, Settled}
use Rattle.net_opt.specs.declared.walk.Walk.{Walk}
use Rattle.net_opt.proofs.Walked.{settled_root, settled_after}
use Rattle.net_opt.proofs.Tried.{found_none, found_some, one_more, one_taken, one_first, is_first, none_yet, none_walked, none_taken}
use Rattle.net_opt.proofs.optimiser.take_steps.Goals as goal

-- what first_step tells of a step that it took
abbrev Such : Walk → TypedNetwork → Step → Type 0
Such w t s = (w.path.items ≡ s.position) × FirstWithin w.refused t [] s

pub steps-init : goal.steps-init
steps-init c = record {
  lead = none_yet c.args.reached.now c.new-steps.result.items c.new-steps.ensures.items;
  first = none_walked c.args.reached.now c.new-steps.result.items c.new-steps.ensures.items;
  may_be_taken = none_taken c.new-steps.result.items c.new-steps.ensures.items;
  few = let e : length c.new-steps.result.items ≡ 0 = ap length c.new-steps.ensures.items in omega (arith, e);
  settled = settled_root c.args.reached.now [] c.new-settled.result.items c.new-settled.ensures.items;
}

pub first_step-requires-clause-settled : goal.first_step-requires-clause-settled
first_step-requires-clause-settled c = subst (λ xs. Settled c.steps.reached [] xs) (sym c.as_slice.ensures.value) c.steps.invariant.settled

pub returns-in_default : goal.returns-in_default
returns-in_default c =
    let h = found_none (NoneLeft c.steps.reached) (Such c.first_step.new.walk c.steps.reached) c.steps.reached c.first_step.new.reached c.in_ok-step.field-0 c.in_default.not-Some c.in_ok-step.ensures in
    let l : length (map step_of c.steps.steps.items) ≡ length c.steps.steps.items = length-map c.steps.steps.items step_of in
    record {
      lead = subst (λ v. Steps c.args.reached.now (map step_of c.steps.steps.items) v) (sym h.0) c.steps.invariant.lead;
      first = subst (λ v. FirstSteps c.args.reached.now (map step_of c.steps.steps.items) v) (sym h.0) c.steps.invariant.first;
      may_be_taken = c.steps.invariant.may_be_taken;
      few = omega (arith, l, c.steps.invariant.few);
      none_left = λ k. subst NoneLeft (sym h.0) h.1;
    }

pub steps-preserved : goal.steps-preserved
steps-preserved c =
    let taken = found_some (NoneLeft c.steps.reached) (Such c.first_step.new.walk c.steps.reached) c.steps.reached c.first_step.new.reached c.in_ok-step.field-0 c.in-Some.step c.in-Some.is c.in_ok-step.ensures in
    let more = c.in_ok-push.ensures.items in
    let l : length c.push.new.self.items ≡ length (c.steps.steps.items ++ c.in-Some.step ∷ []) = ap length more in
    let n = length-append c.steps.steps.items (c.in-Some.step ∷ []) in
    record {
      lead = subst (λ (xs : List LawStep). Steps c.args.reached.now (map step_of xs) c.first_step.new.reached) (sym more)
          (one_more c.args.reached.now c.steps.reached c.first_step.new.reached c.steps.steps.items c.in-Some.step c.steps.invariant.lead taken.0);
      first = subst (λ (xs : List LawStep). FirstSteps c.args.reached.now (map step_of xs) c.first_step.new.reached) (sym more)
          (one_first c.args.reached.now c.steps.reached c.first_step.new.reached c.steps.steps.items c.in-Some.step c.steps.invariant.first
          (is_first c.first_step.new.walk.refused c.steps.reached (step_of c.in-Some.step) taken.1.1) taken.0);
      may_be_taken = subst (λ (xs : List LawStep). All MayTake (map step_of xs)) (sym more)
          (one_taken c.steps.reached c.first_step.new.reached c.steps.steps.items c.in-Some.step c.steps.invariant.may_be_taken taken.0);
      few = omega (arith, l, n);
      settled = settled_after c.first_step.new.walk.refused c.steps.reached c.first_step.new.reached (step_of c.in-Some.step) c.first_step.new.walk.path.items
          c.settled-settled.result.items taken.0 taken.1 c.settled-settled.ensures;
    }

pub returns : goal.returns
returns c =
    let l : length (map step_of c.steps.steps.items) ≡ length c.steps.steps.items = length-map c.steps.steps.items step_of in
    record {
      lead = c.steps.invariant.lead;
      first = c.steps.invariant.first;
      may_be_taken = c.steps.invariant.may_be_taken;
      few = omega (arith, l, c.steps.invariant.few);
      none_left = λ k. absurd (omega (arith, l));
    }
