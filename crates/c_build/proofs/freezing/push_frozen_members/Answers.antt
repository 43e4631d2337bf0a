use Rattle.std.proofs.Common.{◌+◌, ◌-◌, ap, ◌∙◌, arith}
use Rattle.c_forms.specs.Freezing.{frozen_members}
use Rattle.c_build.specs.Symbols.{Stacks, and_arguments}
use Rattle.c_build.specs.Scopes.{made}
use Rattle.c_build.proofs.FrozenPassing.{frozen_next}
use Rattle.c_build.proofs.freezing.push_frozen_members.Goals as goal

pub loop-i-preserved : goal.loop-i-preserved
loop-i-preserved c =
    let i = c.loop-i.i in
    let end = c.args.count in
    ap (λ (x : Stacks). and_arguments (frozen_members (i + 1) (end - (i + 1))) x) c.in_ok-add.ensures
    ∙ (frozen_next (made c.args.scope c.loop-i.out.items) i end (omega arith) ∙ c.loop-i.invariant)
