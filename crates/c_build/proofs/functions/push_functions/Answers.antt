use Rattle.std.proofs.Common.{◌≡◌, ◌++◌, ◌∷◌, [], ℕ, List, length, map, ap, ◌∙◌, arith}
use Rattle.std.proofs.lemmas.Grind.{common_steps}
use Rattle.sample_core.specs.TypeView.{type_of}
use Rattle.c_text.specs.declared.tree.Function as V
use Rattle.c_meaning.specs.Syntax as C
use Rattle.c_file.specs.Compared.{leaves_of, number_among}
use Rattle.c_file.specs.FunctionC.{helpers_c, leaf_c}
use Rattle.c_build.specs.Frames.{bounds_in, layout_in}
use Rattle.c_build.specs.Functions.{functions_in, step_in}
use Rattle.c_build.proofs.FunctionRows.{one_more, put_together}
use Rattle.c_build.proofs.functions.push_functions.Goals as goal

pub returns : goal.returns
returns c = λ cs h.
    let F = c.args.frame in
    let L = layout_in F in
    let n = bounds_in F in
    let f = c.args.f.now in
    let k = length c.args.functions.now.items in
    let xs = functions_in F c.args.functions.now.items in
    let ls : List C.Function =
    map (leaf_c n (number_among (map type_of c.args.compared.now)) L.params) (leaves_of L f) in
    let hs : List C.Function = helpers_c cs L n k f in
    let first : c.len-first.result ≡ k = grind (arith, common_steps, c.len-first.ensures) in
    let most = c.in_ok-push_helpers.ensures cs h
    ∙ (ap (λ (j : ℕ). functions_in F c.push_leaves.new.functions.items ++ helpers_c cs L n j f) first
    ∙ ap (λ (ys : List C.Function). ys ++ hs) (c.in_ok-push_leaves.ensures cs h)) in
    let step = c.in_ok-step.ensures cs h ∙ ap (λ (j : ℕ). step_in F cs j f) first in
    ap (λ (ys : List V.Function). functions_in F ys) c.in_ok-push.ensures.items
    ∙ (one_more F c.push_helpers.new.functions.items c.in_ok-step.step ((xs ++ ls) ++ hs) (step_in F cs k f) most step
    ∙ put_together xs ls hs (step_in F cs k f ∷ []))
