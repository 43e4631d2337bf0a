use Rattle.std.proofs.Common.{List, [], ◌∷◌, ◌++◌, sym, ap, ◌∙◌, ℕ}
use Rattle.code_fits.proofs.RuleTests.{takes-here}
use Rattle.code_fits.proofs.around.resumes.Goals as goal

pub returns : goal.returns
returns c =
    takes-here c.args.around.types.now c.args.around.earlier.now c.args.around.layout.now c.args.t c.in_ok-callee.callee.now c.args.by c.args.a c.args.b (c.args.around.layout.now.olds.items ++ c.args.frozen.now)
    c.in_ok-callee.ensures c.in_ok-same.ensures c.in_ok-same-2.ensures
    (sym c.as_slice.ensures.value ∙ c.in_ok-joined.ensures ∙ ap (λ (xs : List ℕ). xs ++ c.args.by ∷ []) c.as_slice-2.ensures.value) (sym c.as_slice-3.ensures.value ∙ c.in_ok-joined-2.ensures ∙ ap (λ (xs : List ℕ). xs ++ c.args.frozen.now) c.as_slice-4.ensures.value)
