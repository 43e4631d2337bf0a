use Rattle.std.proofs.Common.{◌≡◌, ℕ, suc, List, [], ◌∷◌, Some, None, length, map, option_map, sym, ap, ◌∙◌, arith}
use Rattle.std.proofs.lemmas.Grind.{common_steps}
use Rattle.net_syntax.specs.ChildParts.{seen_place}
use Rattle.net_syntax.specs.Placed.{placed_at}
use Rattle.net_syntax.specs.StandingWalk.{standing_of}
use Rattle.net_opt.proofs.Walked.{few_there}
use Rattle.net_view.specs.Possible.{possible_of}
use Rattle.net_view.specs.Walked.{inside_tree}
use Rattle.net_view.proofs.Spots.{spot_inside, stands_below, ok_further}
use Rattle.net_view.proofs.possible.+steps_below.Goals as goal

pub place_below-requires : goal.place_below-requires
place_below-requires t c = few_there c.args.net.now c.args.path.now.items (seen_place c.args.spot.place) c.in-Some.k.now c.requires.reached

pub unreachable-requires : goal.unreachable-requires
unreachable-requires t c =
    let here = seen_place c.args.spot.place in
    let there = seen_place c.in-Some-place_below.inner in
    let found : placed_at here.params here.olds here.tree (c.in-Some.k.now ∷ []) ≡ Some there = sym c.place_below.ensures ∙ ap (option_map seen_place) c.in-Some-place_below.is in
    let none : inside_tree (standing_of c.args.at.now) here.tree c.in-Some.k.now ≡ None = sym c.in_ok-there.ensures ∙ ap (option_map standing_of) c.in_default-2.is in
    stands_below c.args.net.now c.args.path.now.items c.in-Some.k.now c.args.spot.height c.args.spot.more here there (standing_of c.args.at.now) c.requires.around found none

pub steps_below-found-requires : goal.steps_below-found-requires
steps_below-found-requires t c =
    let here = seen_place c.args.spot.place in
    let there = seen_place c.in-Some-place_below.inner in
    let split : c.args.rest.now ≡ c.in-Some.k.now ∷ c.in-Some.rest.now = grind (arith, common_steps) in
    let shorter : length c.args.rest.now ≡ suc (length c.in-Some.rest.now) = ap (λ (z : List ℕ). length z) split in
    let found : placed_at here.params here.olds here.tree (c.in-Some.k.now ∷ []) ≡ Some there = sym c.place_below.ensures ∙ ap (option_map seen_place) c.in-Some-place_below.is in
    let stands : inside_tree (standing_of c.args.at.now) here.tree c.in-Some.k.now ≡ Some (standing_of c.in-Some-2.there) =
    sym c.in_ok-there.ensures ∙ ap (option_map standing_of) c.in-Some-2.is in (
      omega (arith, shorter),
      spot_inside c.args.net.now c.args.path.now.items c.push.new.self.items c.in-Some.k.now c.args.spot.height c.args.spot.more c.spot_below.result.height
          c.spot_below.result.more here there (seen_place c.spot_below.result.place) (standing_of c.args.at.now) (standing_of c.in-Some-2.there)
          c.in_ok-push.ensures.items c.requires.reached c.requires.around found stands c.spot_below.ensures.place c.spot_below.ensures.room,
    )

pub returns : goal.returns
returns t c =
    let here = seen_place c.args.spot.place in
    let there = seen_place c.in-Some-place_below.inner in
    let split : c.args.rest.now ≡ c.in-Some.k.now ∷ c.in-Some.rest.now = grind (arith, common_steps) in
    let found : placed_at here.params here.olds here.tree (c.in-Some.k.now ∷ []) ≡ Some there = sym c.place_below.ensures ∙ ap (option_map seen_place) c.in-Some-place_below.is in
    ok_further (λ x. map possible_of x.items) c.steps_below-found.result c.args.net.now c.args.path.now.items c.push.new.self.items c.args.rest.now c.in-Some.rest.now
    c.in-Some.k.now here (seen_place c.spot_below.result.place) split c.in_ok-push.ensures.items (found ∙ ap Some (sym c.spot_below.ensures.place)) c.steps_below-found.ensures
