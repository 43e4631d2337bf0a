use Rattle.yampa_run.proofs.Networks.{network_in, text_refused, types_refused}
use Rattle.yampa_run.proofs.load.network_of.Goals as goal

pub returns-in-Err-clause-refused : goal.returns-in-Err-clause-refused
returns-in-Err-clause-refused c =
    text_refused c.args.role c.args.bytes.now c.in-Err.fault c.in-Err.ensures.refused c.in_ok-text_refusal-in-Err.field-0 c.in_ok-text_refusal-in-Err.ensures

pub returns-in-Ok-check_types-clause-network : goal.returns-in-Ok-check_types-clause-network
returns-in-Ok-check_types-clause-network c =
    network_in c.args.bytes.now _ _ c.in-Ok-check_types.typed c.in-Ok.ensures.found c.in-Ok-check_types.ensures

pub returns-in_ok-refusal-in-Err-check_types-clause-refused :
    goal.returns-in_ok-refusal-in-Err-check_types-clause-refused
returns-in_ok-refusal-in-Err-check_types-clause-refused c =
    types_refused c.args.role c.args.bytes.now _ _ c.in-Err-check_types.fault c.in-Ok.ensures.found c.in-Err-check_types.ensures c.in_ok-refusal-in-Err-check_types.field-0
    c.in_ok-refusal-in-Err-check_types.ensures
