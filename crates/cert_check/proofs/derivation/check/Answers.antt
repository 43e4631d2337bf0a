use Rattle.std.proofs.Common.{map, subst}
use Rattle.net_tree.specs.LawStep.{step_of}
use Rattle.cert_check.specs.CheckAnswer.{CheckAnswer}
use Rattle.cert_check.proofs.Taken.{accepted_types, accepted_same}
use Rattle.cert_check.proofs.derivation.check.Goals as goal

pub returns-clause-same_types : goal.returns-clause-same_types
returns-clause-same_types c =
    accepted_types c.args.source.now c.args.target.now (map step_of c.args.steps.now) c.derive.result c.net-from.ensures.typed c.net-to.ensures.typed
    (subst (λ t. CheckAnswer t c.args.target.now (map step_of c.args.steps.now) c.derive.result) c.in_ok-reached.ensures c.derive.ensures)

pub returns-clause-same : goal.returns-clause-same
returns-clause-same c =
    accepted_same c.args.source.now c.args.target.now (map step_of c.args.steps.now) c.derive.result c.net-from.ensures.typed
    (subst (λ t. CheckAnswer t c.args.target.now (map step_of c.args.steps.now) c.derive.result) c.in_ok-reached.ensures c.derive.ensures)
