use Rattle.std.proofs.Common.{arith}
use Rattle.net_opt.proofs.OneOptimised.{one_optimised}
use Rattle.net_opt.proofs.laws.optimised_laws.Goals as goal

pub returns-clause-derives : goal.returns-clause-derives
returns-clause-derives c = λ source target steps optimised same. record {
  same_input = same;
  few = omega (arith, optimised.exhausts.few);
  last = optimised.last;
  leads = optimised.exhausts.lead;
  ends = optimised.ends;
}

pub returns-clause-one : goal.returns-clause-one
returns-clause-one c = one_optimised
