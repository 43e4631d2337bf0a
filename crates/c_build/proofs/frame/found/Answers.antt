use Rattle.std.proofs.Common.{Some, ap, sym, ◌∙◌}
use Rattle.c_build.proofs.Callees.{callee_found, got}
use Rattle.c_build.proofs.frame.found.Goals as goal

pub returns-in-Some : goal.returns-in-Some
returns-in-Some c =
    let at = got c.args.callees.now c.args.k c.in-Some.called.now c.in-Some.ensures.lookup.3.0 in
    λ Ts n cs h. callee_found Ts n cs c.args.callees.now c.args.k c.in-Some.called.now h
    (at ∙ ap (λ r. Some r) (sym c.in-Some.ensures.lookup.1))
