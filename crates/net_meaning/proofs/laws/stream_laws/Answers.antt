use Rattle.leaf_core.specs.ExpressionValue.{value_of}
use Rattle.net_meaning.proofs.Meanings.{length-outputs, outputs-take, outputs-retime}
use Rattle.net_meaning.proofs.laws.stream_laws.Goals as goal

pub returns-clause-length : goal.returns-clause-length
returns-clause-length c = length-outputs value_of

pub returns-clause-causal : goal.returns-clause-causal
returns-clause-causal c = outputs-take value_of

pub returns-clause-retimed : goal.returns-clause-retimed
returns-clause-retimed c = outputs-retime value_of
