use Rattle.std.proofs.Common.{arith}
use Rattle.std.proofs.lemmas.Result.{err_from_is_err_and}
use Rattle.sample_core.specs.TypeView.{type_of}
use Rattle.net_tree.specs.NetworkView.{tree_of}
use Rattle.net_types.proofs.Checks.{within_limits, check_faults, is_measured, none_measured, too_large}
use Rattle.net_types.proofs.check.check_types.Goals as goal

pub new-requires-2 : goal.new-requires-2
new-requires-2 c =
    let m = is_measured c.in_ok-found.field-0 c.in-Some.found _ (tree_of c.args.net) c.in-Some.is c.in_ok-found.ensures in
    within_limits (type_of c.args.input) (type_of c.in_ok-output.output) (tree_of c.args.net) c.in-Some.found.weight c.in-Some.found.height
    (grind arith) (rw c.new.ensures at c.in_ok-output.ensures)
    m.0.1 m.0.2 (omega arith) (omega arith)

pub returns-in_err-output : goal.returns-in_err-output
returns-in_err-output c =
    let m = is_measured c.in_ok-found.field-0 c.in-Some.found _ (tree_of c.args.net) c.in-Some.is c.in_ok-found.ensures in
    let p = err_from_is_err_and c.from_residual-in_err-output.result c.from_residual-in_err-output.ensures.1 in
    rw (p.1, p.2)
    (λ h. check_faults (type_of c.args.input) (tree_of c.args.net) c.in_err-output.field-0.0 (grind arith) (omega (arith, m.1.0))
    (rw c.new.ensures at (c.in_err-output.ensures h)))

pub returns-in_default : goal.returns-in_default
returns-in_default c =
    let h = none_measured c.in_ok-found.field-0 _ (tree_of c.args.net) c.in_default.not-Some c.in_ok-found.ensures in
    λ e. too_large (type_of c.args.input) (tree_of c.args.net) _ h (grind arith) (omega arith) (omega arith) (omega arith)
