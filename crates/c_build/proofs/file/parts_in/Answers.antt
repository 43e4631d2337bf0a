use Rattle.std.proofs.Common.{sym, refl, ◌∙◌, arith}
use Rattle.c_build.proofs.Files.{parts_over}
use Rattle.c_build.proofs.file.parts_in.Goals as goal

pub returns : goal.returns
returns c = λ h.
    parts_over c.args.program.now c.args.setting c.args.unchecked _ c.in_ok-scope.scope.table _ _ _ _ _
    c.in_ok-whole.whole h c.in_ok-scope.ensures.table c.as_slice.ensures.value c.as_slice-2.ensures.value
    (c.in_ok-functions.ensures h.known) (λ q g. c.in_ok-callees.ensures q h.known (sym h.types) g)
    c.in_ok-whole.ensures (λ d w. c.in_ok-push_ends.ensures d h.known c.in_ok-scope.ensures.table w)
    (c.len-init.ensures ∙ c.push_code.new.functions.ok.0)
    (omega (arith, c.saturating_sub-step.ensures, c.len.ensures, c.push_ends.new.functions.ok.0))
    c.in_ok-steps.ensures refl
