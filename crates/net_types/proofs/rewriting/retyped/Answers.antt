use Rattle.std.proofs.Common.{arith}
use Rattle.sample_core.specs.TypeView.{type_of}
use Rattle.net_tree.specs.LawStep.{part_of}
use Rattle.net_tree.specs.NetworkView.{tree_of}
use Rattle.net_types.proofs.Rewritings.{rewritten, none_outside, none_unkept}
use Rattle.net_types.proofs.Checks.{is_measured, none_measured}
use Rattle.net_types.proofs.rewriting.retyped.Goals as goal

pub returns-in_default : goal.returns-in_default
returns-in_default c =
    let h = none_measured c.in_ok-found.field-0 _ (tree_of c.args.changed) c.in_default.not-Some c.in_ok-found.ensures in
    none_outside c.args.net.now c.args.path.now (part_of c.args.tree.now) (tree_of c.args.changed) _ h c.requires (omega arith) (omega arith) (omega arith)

pub returns-then-not-branch : goal.returns-then-not-branch
returns-then-not-branch c =
    none_unkept c.args.net.now c.args.path.now (part_of c.args.tree.now) (tree_of c.args.changed) c.in_ok-keeps_type.ensures.limits c.requires (grind arith)

pub new-requires : goal.new-requires
new-requires c =
    let m = is_measured c.in_ok-found.field-0 c.in-Some.found _ (tree_of c.args.changed) c.in-Some.is c.in_ok-found.ensures in
    (rewritten c.args.net.now c.args.path.now (part_of c.args.tree.now) (type_of c.in_ok-input.input) (type_of c.in_ok-output.output) (tree_of c.args.changed)
    c.in-Some.found.weight c.in-Some.found.height c.in_ok-keeps_type.ensures.limits c.requires (grind arith) (grind arith) (grind arith) m.0.1 m.0.2 (omega (arith, m.1.1)) (omega (arith, m.1.2))).within

pub returns : goal.returns
returns c =
    let m = is_measured c.in_ok-found.field-0 c.in-Some.found _ (tree_of c.args.changed) c.in-Some.is c.in_ok-found.ensures in
    rw c.new.ensures
    (rewritten c.args.net.now c.args.path.now (part_of c.args.tree.now) (type_of c.in_ok-input.input) (type_of c.in_ok-output.output) (tree_of c.args.changed)
    c.in-Some.found.weight c.in-Some.found.height c.in_ok-keeps_type.ensures.limits c.requires (grind arith) (grind arith) (grind arith) m.0.1 m.0.2 (omega (arith, m.1.1)) (omega (arith, m.1.2)))
