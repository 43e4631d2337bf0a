use Rattle.net_text.proofs.NetRows.{identity_is, constant_is, second_is, beside_is, fan_out_is, never_is, now_is, edge_is, accum_hold_by_is}
use Rattle.net_text.proofs.laws.sugar_laws.Goals as goal

pub returns-clause-identity : goal.returns-clause-identity
returns-clause-identity c = identity_is

pub returns-clause-constant : goal.returns-clause-constant
returns-clause-constant c = constant_is

pub returns-clause-second : goal.returns-clause-second
returns-clause-second c = second_is

pub returns-clause-beside : goal.returns-clause-beside
returns-clause-beside c = beside_is

pub returns-clause-fan_out : goal.returns-clause-fan_out
returns-clause-fan_out c = fan_out_is

pub returns-clause-never : goal.returns-clause-never
returns-clause-never c = never_is

pub returns-clause-now : goal.returns-clause-now
returns-clause-now c = now_is

pub returns-clause-edge : goal.returns-clause-edge
returns-clause-edge c = edge_is

pub returns-clause-accum_hold_by : goal.returns-clause-accum_hold_by
returns-clause-accum_hold_by c = accum_hold_by_is
