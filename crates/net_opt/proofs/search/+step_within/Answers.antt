use Rattle.std.proofs.Common.{◌≡◌, [], ◌∷◌, Some, option_map, sym, ap, ◌∙◌, arith}
use Rattle.std.proofs.lemmas.Grind.{common_steps}
use Rattle.net_tree.specs.LawStep.{seen}
use Rattle.net_syntax.specs.ChildParts.{seen_place}
use Rattle.net_syntax.specs.Placed.{placed_at}
use Rattle.net_tree.specs.LawStep.{step_of}
use Rattle.net_opt.specs.Search.{PassedAt, PassedWithin, FirstAt, FirstWithin}
use Rattle.net_opt.proofs.Tried.{found_none, found_some}
use Rattle.net_opt.proofs.Walked.{reached_more, settled_more, settled_before, lower_inside, low_number, few_there, none_within, one_deeper, nothing_below, passed_on_at, first_here, first_deeper}
use Rattle.net_opt.proofs.search.+step_within.Goals as goal

pub returns-in-Some : goal.returns-in-Some
returns-in-Some t c =
    let h = found_some (PassedAt c.step_at.new.walk.refused c.args.typed.now c.args.walk.now.path.items)
    (FirstAt c.step_at.new.walk.refused c.args.typed.now c.args.walk.now.path.items) c.args.typed.now c.step_at.new.typed c.in_ok-step.field-0 c.in-Some.step
    c.in-Some.is c.in_ok-step.ensures.found in
    record {
      more = c.step_at.ensures.keeps.1;
      found = (
        h.0,
        (
          c.step_at.ensures.keeps.0 ∙ sym h.1.there,
          first_here c.step_at.new.walk.refused c.args.typed.now c.args.walk.now.path.items (step_of c.in-Some.step) h.1,
        ),
      );
    }

pub loop-inner-init : goal.loop-inner-init
loop-inner-init t c =
    let h = found_none (PassedAt c.step_at.new.walk.refused c.args.typed.now c.args.walk.now.path.items)
    (FirstAt c.step_at.new.walk.refused c.args.typed.now c.args.walk.now.path.items) c.args.typed.now c.step_at.new.typed c.in_ok-step.field-0
    c.in_default.not-Some c.in_ok-step.ensures.found in
    record {
      kept = h.0;
      path_kept = c.step_at.ensures.keeps.0;
      more = c.step_at.ensures.keeps.1;
      here = h.1;
      below = λ j l. settled_before c.step_at.new.walk.refused c.args.typed.now c.args.walk.now.path.items c.args.settled.now c.requires.settled j
          (omega (arith, c.first_number-k.ensures));
    }

pub place_below-requires : goal.place_below-requires
place_below-requires t c = few_there c.args.typed.now c.args.walk.now.path.items (seen_place c.args.place) c.loop-inner.k c.requires.reached

pub step_within-requires : goal.step_within-requires
step_within-requires t c =
    let here = seen_place c.args.place in
    let there = seen_place c.in-Some-place_below.inner in
    let found : placed_at here.params here.olds here.tree (c.loop-inner.k ∷ []) ≡ Some there =
    sym c.place_below.ensures ∙ ap (option_map seen_place) c.in-Some-place_below.is in (
      omega (arith, lower_inside c.loop-inner.k here there c.requires.reached.limited found),
      (
        reached_more c.args.typed.now c.loop-inner.typed c.args.walk.now.path.items c.loop-inner.walk.path.items c.push.new.self.items c.loop-inner.k here
            there c.loop-inner.invariant.kept c.loop-inner.invariant.path_kept c.in_ok-push.ensures.items c.requires.reached found,
        settled_more c.args.typed.now c.loop-inner.typed c.args.walk.now.path.items c.loop-inner.walk.path.items c.push.new.self.items c.args.settled.now
            c.onward-rest.result.now c.loop-inner.k c.loop-inner.invariant.kept c.loop-inner.invariant.path_kept c.in_ok-push.ensures.items c.onward-rest.ensures
            c.requires.settled,
      ),
    )

pub overflow_add-k : goal.overflow_add-k
overflow_add-k t c = omega (arith, low_number seen_place c.loop-inner.k (seen_place c.args.place) c.requires.reached.limited c.place_below.ensures c.in-Some-place_below.is)

pub loop-inner-smaller : goal.loop-inner-smaller
loop-inner-smaller t c = omega (arith, low_number seen_place c.loop-inner.k (seen_place c.args.place) c.requires.reached.limited c.place_below.ensures c.in-Some-place_below.is)

pub loop-inner-preserved : goal.loop-inner-preserved
loop-inner-preserved t c =
    let h = found_none ((c.step_within.new.walk.path.items ≡ c.push.new.self.items) × PassedWithin c.step_within.new.walk.refused c.loop-inner.typed c.push.new.self.items)
    (λ s. (c.step_within.new.walk.path.items ≡ s.position) × FirstWithin c.step_within.new.walk.refused c.loop-inner.typed c.push.new.self.items s)
    c.loop-inner.typed c.step_within.new.typed c.in_ok-step-2.field-0 c.in_default-2.not-Some c.in_ok-step-2.ensures.found in
    let back : c.step_within.new.walk.path.items ≡ c.push.new.self.items = h.1.0 in
    let popped : c.pop.new.self.items ≡ c.loop-inner.walk.path.items = grind (arith, common_steps, back) in
    record {
      kept = h.0 ∙ c.loop-inner.invariant.kept;
      path_kept = popped ∙ c.loop-inner.invariant.path_kept;
      more = λ e. c.step_within.ensures.more (c.loop-inner.invariant.more e);
      here = passed_on_at c.loop-inner.walk.refused c.step_within.new.walk.refused c.args.typed.now c.args.walk.now.path.items c.step_within.ensures.more
          c.loop-inner.invariant.here;
      below = one_deeper c.loop-inner.walk.refused c.step_within.new.walk.refused c.args.typed.now c.loop-inner.typed c.args.walk.now.path.items
          c.loop-inner.walk.path.items c.push.new.self.items c.loop-inner.k c.step_within.ensures.more c.loop-inner.invariant.kept
          c.loop-inner.invariant.path_kept c.in_ok-push.ensures.items c.loop-inner.invariant.below h.1.1;
    }

pub returns-in-Some-2 : goal.returns-in-Some-2
returns-in-Some-2 t c =
    let h = found_some ((c.step_within.new.walk.path.items ≡ c.push.new.self.items) × PassedWithin c.step_within.new.walk.refused c.loop-inner.typed c.push.new.self.items)
    (λ s. (c.step_within.new.walk.path.items ≡ s.position) × FirstWithin c.step_within.new.walk.refused c.loop-inner.typed c.push.new.self.items s)
    c.loop-inner.typed c.step_within.new.typed c.in_ok-step-2.field-0 c.in-Some-2.step c.in-Some-2.is c.in_ok-step-2.ensures.found in
    let f = first_deeper c.loop-inner.walk.refused c.step_within.new.walk.refused c.args.typed.now c.loop-inner.typed c.step_within.new.typed
    c.args.walk.now.path.items c.loop-inner.walk.path.items c.push.new.self.items c.loop-inner.k (step_of c.in-Some-2.step) c.step_within.ensures.more
    c.loop-inner.invariant.kept c.loop-inner.invariant.path_kept c.in_ok-push.ensures.items c.loop-inner.invariant.here c.loop-inner.invariant.below h.0 h.1.1 in
    record {
      more = λ e. c.step_within.ensures.more (c.loop-inner.invariant.more e);
      found = (f.0, (h.1.0, f.1));
    }

pub returns : goal.returns
returns t c = record {
  more = c.loop-inner.invariant.more;
  found = (
    c.loop-inner.invariant.kept,
    (
      c.loop-inner.invariant.path_kept,
      none_within c.loop-inner.walk.refused c.args.typed.now c.args.walk.now.path.items c.loop-inner.k (seen_place c.args.place) c.requires.reached.stands
          c.loop-inner.invariant.here c.loop-inner.invariant.below
          (nothing_below c.place_below.result (placed_at c.args.place.params c.args.place.olds (seen c.args.place.tree) (c.loop-inner.k ∷ []))
          c.in_default-place_below.not-Some c.place_below.ensures),
    ),
  );
}
