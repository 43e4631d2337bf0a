use Rattle.std.proofs.Common.{◌≡◌, ◌<◌, [], ◌∷◌, ◌++◌, Some, None, map, option_map, refl, sym, ap, ◌∙◌, subst, arith}
use Rattle.std.proofs.lemmas.List.{map-append}
use Rattle.std.proofs.lemmas.Grind.{common_steps}
use Rattle.net_tree.specs.LawStep.{seen}
use Rattle.net_syntax.specs.ChildParts.{seen_place}
use Rattle.net_syntax.specs.Placed.{Placed, placed_at}
use Rattle.net_syntax.specs.StandingWalk.{standing_of}
use Rattle.net_opt.proofs.Walked.{few_there, lower_inside, low_number, nothing_below, rank}
use Rattle.net_view.specs.Possible.{ArePossibleAt, possible_of}
use Rattle.net_view.specs.Walked.{inside_tree}
use Rattle.net_view.proofs.Spots.{spot_inside, stands_below, steps_begin, steps_onward, steps_end}
use Rattle.net_view.proofs.possible.+add_steps.Goals as goal

pub loop-inner-init : goal.loop-inner-init
loop-inner-init t c = record {
  path = refl;
  added = steps_begin c.args.net.now c.args.path.now.items (seen_place c.args.spot.place) (map possible_of c.args.steps.now.items) (map possible_of c.in_ok-here.here.items)
      (map possible_of c.append.new.self.items)
      (ap (map possible_of) c.in_ok-append.ensures.items ∙ map-append possible_of c.args.steps.now.items c.in_ok-here.here.items) (subst (λ p. ArePossibleAt c.args.net.now p (map possible_of c.in_ok-here.here.items)) c.as_slice.ensures.value c.in_ok-here.ensures);
}

pub place_below-requires : goal.place_below-requires
place_below-requires t c = few_there c.args.net.now c.args.path.now.items (seen_place c.args.spot.place) c.loop-inner.k c.requires.reached

pub unreachable-requires : goal.unreachable-requires
unreachable-requires t c =
    let here = seen_place c.args.spot.place in
    let there = seen_place c.in-Some.inner in
    let found : placed_at here.params here.olds here.tree (c.loop-inner.k ∷ []) ≡ Some there = sym c.place_below.ensures ∙ ap (option_map seen_place) c.in-Some.is in
    let none : inside_tree (standing_of c.args.at.now) here.tree c.loop-inner.k ≡ None = sym c.in_ok-there.ensures ∙ ap (option_map standing_of) c.in_default-2.is in
    stands_below c.args.net.now c.args.path.now.items c.loop-inner.k c.args.spot.height c.args.spot.more here there (standing_of c.args.at.now) c.requires.around found none

pub add_steps-added-requires : goal.add_steps-added-requires
add_steps-added-requires t c =
    let here = seen_place c.args.spot.place in
    let there = seen_place c.in-Some.inner in
    let found : placed_at here.params here.olds here.tree (c.loop-inner.k ∷ []) ≡ Some there = sym c.place_below.ensures ∙ ap (option_map seen_place) c.in-Some.is in
    let stands : inside_tree (standing_of c.args.at.now) here.tree c.loop-inner.k ≡ Some (standing_of c.in-Some-2.there) =
    sym c.in_ok-there.ensures ∙ ap (option_map standing_of) c.in-Some-2.is in
    let inside = spot_inside c.args.net.now c.args.path.now.items c.push.new.self.items c.loop-inner.k c.args.spot.height c.args.spot.more
    c.spot_below-inner.result.height c.spot_below-inner.result.more here there (seen_place c.spot_below-inner.result.place) (standing_of c.args.at.now)
    (standing_of c.in-Some-2.there) (c.in_ok-push.ensures.items ∙ ap (λ x. x ++ c.loop-inner.k ∷ []) c.loop-inner.invariant.path) c.requires.reached c.requires.around
    found stands c.spot_below-inner.ensures.place c.spot_below-inner.ensures.room in
    let same : rank (seen c.spot_below-inner.result.place.tree) ≡ rank there.tree = ap (λ (d : Placed). rank d.tree) c.spot_below-inner.ensures.place in
    let falls : rank (seen c.spot_below-inner.result.place.tree) < rank here.tree =
    omega (arith, same, lower_inside c.loop-inner.k here there c.requires.reached.limited found) in
    (omega (arith, falls), inside)

pub overflow_add-k : goal.overflow_add-k
overflow_add-k t c = omega (arith, low_number seen_place c.loop-inner.k (seen_place c.args.spot.place) c.requires.reached.limited c.place_below.ensures c.in-Some.is)

pub loop-inner-smaller : goal.loop-inner-smaller
loop-inner-smaller t c = omega (arith, low_number seen_place c.loop-inner.k (seen_place c.args.spot.place) c.requires.reached.limited c.place_below.ensures c.in-Some.is)

pub loop-inner-preserved : goal.loop-inner-preserved
loop-inner-preserved t c =
    let here = seen_place c.args.spot.place in
    let there = seen_place c.in-Some.inner in
    let found : placed_at here.params here.olds here.tree (c.loop-inner.k ∷ []) ≡ Some there = sym c.place_below.ensures ∙ ap (option_map seen_place) c.in-Some.is in
    let same : seen_place c.spot_below-inner.result.place ≡ there = c.spot_below-inner.ensures.place in
    let back : c.add_steps-added.new.path.items ≡ c.push.new.self.items = c.in_ok-added.ensures.path in
    let popped : c.pop.new.self.items ≡ c.loop-inner.path.items = grind (arith, common_steps, back) in
    record {
      path = popped ∙ c.loop-inner.invariant.path;
      added = steps_onward c.args.net.now c.args.path.now.items c.push.new.self.items c.loop-inner.k here (seen_place c.spot_below-inner.result.place)
          (map possible_of c.args.steps.now.items) (map possible_of c.loop-inner.steps.items) (map possible_of c.add_steps-added.new.steps.items)
          (c.in_ok-push.ensures.items ∙ ap (λ x. x ++ c.loop-inner.k ∷ []) c.loop-inner.invariant.path) (found ∙ ap Some (sym same)) c.loop-inner.invariant.added
          c.in_ok-added.ensures.added;
    }

pub returns-clause-added : goal.returns-clause-added
returns-clause-added t c =
    steps_end c.args.net.now c.args.path.now.items c.loop-inner.k (seen_place c.args.spot.place) (map possible_of c.args.steps.now.items) (map possible_of c.loop-inner.steps.items)
    (nothing_below c.place_below.result (placed_at c.args.spot.place.params c.args.spot.place.olds (seen c.args.spot.place.tree) (c.loop-inner.k ∷ [])) c.in_default.not-Some
    c.place_below.ensures) c.loop-inner.invariant.added
