use Rattle.yampa_run.proofs.Numbers.{greatest}
use Rattle.yampa_run.proofs.words.number_in.Goals as goal

pub returns-in-Err : goal.returns-in-Err
returns-in-Err c = greatest c.args.word.now c.in-Err.field-0 c.in-Err.ensures.value.0 c.if-not-is_number.ensures
