use Rattle.std.proofs.Common.{◌≡◌, [], ◌∷◌, ◌++◌, Some, None, map, option_map, refl, sym, ap, ◌∙◌, subst, arith}
use Rattle.std.proofs.lemmas.Grind.{common_steps}
use Rattle.net_tree.specs.LawStep.{seen}
use Rattle.net_syntax.specs.ChildParts.{seen_place}
use Rattle.net_syntax.specs.Placed.{placed_at}
use Rattle.net_syntax.specs.StandingWalk.{standing_of}
use Rattle.net_opt.proofs.Walked.{lower_inside, low_number, few_there, nothing_below}
use Rattle.net_view.specs.Outline.{line_of}
use Rattle.net_view.specs.Walked.{inside_tree, IsLineBelow}
use Rattle.net_view.proofs.Outlines.{walked_inside, stands_inside, lines_begin, lines_more, lines_end}
use Rattle.net_view.proofs.lines.+add_lines.Goals as goal

pub loop-inner-init : goal.loop-inner-init
loop-inner-init t c = record {
  path = refl;
  added = lines_begin c.args.path.now.items (standing_of c.args.at.now) (seen_place c.args.place) c.args.lines.now.items c.push.new.self.items c.in_ok-line.line
      c.in_ok-push.ensures.items
      (subst (λ p. IsLineBelow p (standing_of c.args.at.now) (seen_place c.args.place) (line_of c.in_ok-line.line)) c.as_slice.ensures.value c.in_ok-line.ensures.line)
      (c.in_ok-line.ensures.position ∙ c.as_slice.ensures.value);
}

pub place_below-requires : goal.place_below-requires
place_below-requires t c = few_there c.requires.0 c.args.path.now.items (seen_place c.args.place) c.loop-inner.k c.requires.1

pub unreachable-requires : goal.unreachable-requires
unreachable-requires t c =
    let here = seen_place c.args.place in
    let there = seen_place c.in-Some.inner in
    let found : placed_at here.params here.olds here.tree (c.loop-inner.k ∷ []) ≡ Some there = sym c.place_below.ensures ∙ ap (option_map seen_place) c.in-Some.is in
    let none : inside_tree (standing_of c.args.at.now) here.tree c.loop-inner.k ≡ None = sym c.in_ok-there.ensures ∙ ap (option_map standing_of) c.in_default-2.is in
    stands_inside c.args.path.now.items c.loop-inner.k (standing_of c.args.at.now) here there c.requires found none

pub add_lines-added-requires : goal.add_lines-added-requires
add_lines-added-requires t c =
    let here = seen_place c.args.place in
    let there = seen_place c.in-Some.inner in
    let found : placed_at here.params here.olds here.tree (c.loop-inner.k ∷ []) ≡ Some there = sym c.place_below.ensures ∙ ap (option_map seen_place) c.in-Some.is in
    let stands : inside_tree (standing_of c.args.at.now) here.tree c.loop-inner.k ≡ Some (standing_of c.in-Some-2.there) =
    sym c.in_ok-there.ensures ∙ ap (option_map standing_of) c.in-Some-2.is in (
      omega (arith, lower_inside c.loop-inner.k here there c.requires.1.limited found),
      walked_inside c.args.path.now.items c.push-in-Some.new.self.items c.loop-inner.k (standing_of c.args.at.now) (standing_of c.in-Some-2.there) here there
          (c.in_ok-push-2.ensures.items ∙ ap (λ x. x ++ c.loop-inner.k ∷ []) c.loop-inner.invariant.path) c.requires found stands,
    )

pub overflow_add-k : goal.overflow_add-k
overflow_add-k t c = omega (arith, low_number seen_place c.loop-inner.k (seen_place c.args.place) c.requires.1.limited c.place_below.ensures c.in-Some.is)

pub loop-inner-smaller : goal.loop-inner-smaller
loop-inner-smaller t c = omega (arith, low_number seen_place c.loop-inner.k (seen_place c.args.place) c.requires.1.limited c.place_below.ensures c.in-Some.is)

pub loop-inner-preserved : goal.loop-inner-preserved
loop-inner-preserved t c =
    let here = seen_place c.args.place in
    let there = seen_place c.in-Some.inner in
    let found : placed_at here.params here.olds here.tree (c.loop-inner.k ∷ []) ≡ Some there = sym c.place_below.ensures ∙ ap (option_map seen_place) c.in-Some.is in
    let stands : inside_tree (standing_of c.args.at.now) here.tree c.loop-inner.k ≡ Some (standing_of c.in-Some-2.there) =
    sym c.in_ok-there.ensures ∙ ap (option_map standing_of) c.in-Some-2.is in
    let back : c.add_lines-added.new.path.items ≡ c.push-in-Some.new.self.items = c.in_ok-added.ensures.path in
    let popped : c.pop.new.self.items ≡ c.loop-inner.path.items = grind (arith, common_steps, back) in
    record {
      path = popped ∙ c.loop-inner.invariant.path;
      added = lines_more c.args.path.now.items c.push-in-Some.new.self.items c.loop-inner.k (standing_of c.args.at.now) (standing_of c.in-Some-2.there) here there
          (map line_of c.args.lines.now.items) (map line_of c.loop-inner.lines.items) (map line_of c.add_lines-added.new.lines.items)
          (c.in_ok-push-2.ensures.items ∙ ap (λ x. x ++ c.loop-inner.k ∷ []) c.loop-inner.invariant.path) found stands c.loop-inner.invariant.added
          c.in_ok-added.ensures.added;
    }

pub returns-clause-added : goal.returns-clause-added
returns-clause-added t c =
    lines_end c.args.path.now.items c.loop-inner.k (standing_of c.args.at.now) (seen_place c.args.place) (map line_of c.args.lines.now.items)
    (map line_of c.loop-inner.lines.items)
    (nothing_below c.place_below.result (placed_at c.args.place.params c.args.place.olds (seen c.args.place.tree) (c.loop-inner.k ∷ [])) c.in_default.not-Some
    c.place_below.ensures) c.loop-inner.invariant.added
