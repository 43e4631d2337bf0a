use Rattle.std.proofs.Common.{◌∙◌}
use Rattle.c_build.specs.Scopes.{made}
use Rattle.c_build.proofs.Passing.{local_next}
use Rattle.c_build.proofs.scope.Scope.push_locals.Goals as goal

pub loop-i-preserved : goal.loop-i-preserved
loop-i-preserved c =
    rw c.in_ok-add.ensures
    (local_next (made c.args.self c.loop-i.out.items) c.loop-i.i _ c.loop-i-test.true ∙ c.loop-i.invariant)
