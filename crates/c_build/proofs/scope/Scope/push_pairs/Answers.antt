use Rattle.std.proofs.Common.{◌+◌, ◌*◌, [], ◌∷◌, ◌∙◌, append_assoc}
use Rattle.c_meaning.specs.Syntax.{local, by_const, by_value}
use Rattle.c_build.specs.Scopes.{made}
use Rattle.c_build.proofs.Passing.{pair_next}
use Rattle.c_build.proofs.scope.Scope.push_pairs.Goals as goal

pub loop-i-preserved : goal.loop-i-preserved
loop-i-preserved c =
    let s = made c.args.self c.loop-i.out.items in
    let k = c.args.k + 2 * c.loop-i.i in
    rw (c.in_ok-add.ensures, append_assoc s.arguments (by_const (local k) ∷ []) (by_value (local (k + 1)) ∷ []))
    (pair_next s c.args.k c.loop-i.i c.args.count c.loop-i-test.true ∙ c.loop-i.invariant)
