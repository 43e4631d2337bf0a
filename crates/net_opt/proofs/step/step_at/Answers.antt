use Rattle.std.proofs.Common.{◌≡◌, length, ap, ◌∙◌, subst, get_or, arith}
use Rattle.net_tree.specs.LawStep.{seen, step_of}
use Rattle.net_opt.specs.Optimising.{forward_step}
use Rattle.net_opt.specs.Search.{Passed, law_at, numbers_at}
use Rattle.net_opt.proofs.Tried.{found_none, found_some, first_by, law_more, law_tried, passed_at}
use Rattle.net_opt.proofs.step.step_at.Goals as goal

pub loop-number-preserved : goal.loop-number-preserved
loop-number-preserved c =
    let tree = seen c.args.place.tree in
    let is : c.law_at-law.result ≡ law_tried tree c.loop-number.number-index =
    c.law_at-law.ensures ∙ ap (λ ns. law_at tree (get_or ns c.loop-number.number-index 0)) c.numbers_at-number-items.ensures in
    let h = found_none (Passed c.step_by_law.new.walk.refused c.loop-number.typed c.loop-number.walk.path.items c.law_at-law.result)
    (λ s. s ≡ forward_step c.law_at-law.result c.loop-number.walk.path.items) c.loop-number.typed c.step_by_law.new.typed c.in_ok-step.field-0
    c.in_default.not-Some c.in_ok-step.ensures.found in
    let keeps = c.step_by_law.ensures.keeps in
    record {
      kept = h.0 ∙ c.loop-number.invariant.kept;
      path_kept = keeps.0 ∙ c.loop-number.invariant.path_kept;
      more = λ e. keeps.1 (c.loop-number.invariant.more e);
      none = law_more c.loop-number.walk.refused c.step_by_law.new.walk.refused c.args.typed.now c.loop-number.typed c.args.walk.now.path.items
          c.loop-number.walk.path.items (law_tried tree) c.loop-number.number-index keeps.1 c.loop-number.invariant.kept
          c.loop-number.invariant.path_kept c.loop-number.invariant.none
          (subst (Passed c.step_by_law.new.walk.refused c.loop-number.typed c.loop-number.walk.path.items) is h.1);
    }

pub returns-in-Some-clause-found : goal.returns-in-Some-clause-found
returns-in-Some-clause-found c =
    let tree = seen c.args.place.tree in
    let is : c.law_at-law.result ≡ law_tried tree c.loop-number.number-index =
    c.law_at-law.ensures ∙ ap (λ ns. law_at tree (get_or ns c.loop-number.number-index 0)) c.numbers_at-number-items.ensures in
    let all : length c.numbers_at-number-items.result.now ≡ length (numbers_at tree) = ap length c.numbers_at-number-items.ensures in
    let h = found_some (Passed c.step_by_law.new.walk.refused c.loop-number.typed c.loop-number.walk.path.items c.law_at-law.result)
    (λ s. s ≡ forward_step c.law_at-law.result c.loop-number.walk.path.items) c.loop-number.typed c.step_by_law.new.typed c.in_ok-step.field-0 c.in-Some.step
    c.in-Some.is c.in_ok-step.ensures.found in
    first_by c.loop-number.walk.refused c.step_by_law.new.walk.refused c.args.typed.now c.loop-number.typed c.step_by_law.new.typed c.args.walk.now.path.items
    c.loop-number.walk.path.items tree c.loop-number.number-index (step_of c.in-Some.step) c.step_by_law.ensures.keeps.1 c.loop-number.invariant.kept
    c.loop-number.invariant.path_kept (omega (arith, all)) c.loop-number.invariant.none
    (h.0, h.1 ∙ ap (λ z. forward_step z c.loop-number.walk.path.items) is)

pub returns-clause-found : goal.returns-clause-found
returns-clause-found c =
    let tree = seen c.args.place.tree in
    let all : length c.numbers_at-number-items.result.now ≡ length (numbers_at tree) = ap length c.numbers_at-number-items.ensures in (
      c.loop-number.invariant.kept,
      passed_at c.loop-number.walk.refused c.args.typed.now c.args.walk.now.path.items c.args.place.params c.args.place.olds tree c.requires
          (λ k h. c.loop-number.invariant.none k (omega (arith, all))),
    )
