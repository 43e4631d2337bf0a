use Rattle.std.proofs.Common.{◌≡◌, ◌++◌, ◌∷◌, [], ℕ, List, suc, map, ap, ◌∙◌, append_assoc, arith}
use Rattle.std.proofs.lemmas.Grind.{common_steps}
use Rattle.c_text.specs.declared.tree.Function as V
use Rattle.c_meaning.specs.Syntax as C
use Rattle.c_forms.specs.Members.{par_function}
use Rattle.c_file.specs.FunctionC.{element_type, numbers_from, olds, routed_c, shape_at}
use Rattle.c_build.specs.Frames.{bounds_in, layout_in}
use Rattle.c_build.specs.Functions.{functions_in}
use Rattle.c_build.proofs.FunctionRows.{one_more}
use Rattle.c_build.proofs.functions.push_parallel.Goals as goal

pub returns : goal.returns
returns c = λ cs h.
    let F = c.args.frame in
    let L = layout_in F in
    let n = bounds_in F in
    let fs = c.args.fs.now in
    let xs = functions_in F c.args.functions.now.items in
    let rs : List C.Function = routed_c cs L n c.args.k 0 fs in
    let next : c.in-Some.first ≡ suc c.args.k = grind (arith, common_steps, c.in-Some.ensures) in
    let p : List ℕ → C.Function =
    λ js. par_function n L.params (olds cs L) (map (shape_at cs) fs) L.input (element_type L.output) js in
    let step = c.in_ok-step.ensures cs h
    ∙ (ap p (c.as_slice.ensures.value ∙ c.in_ok-js.ensures) ∙ ap (λ (j : ℕ). p (numbers_from j fs)) next) in
    ap (λ (ys : List V.Function). functions_in F ys) c.in_ok-push.ensures.items
    ∙ (one_more F c.push_each_routed.new.functions.items c.in_ok-step.step (xs ++ rs) (p (numbers_from (suc c.args.k) fs))
    (c.in_ok-push_each_routed.ensures cs h) step
    ∙ append_assoc xs rs (p (numbers_from (suc c.args.k) fs) ∷ []))
