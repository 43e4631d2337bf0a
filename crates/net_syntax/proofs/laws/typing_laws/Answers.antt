use Rattle.net_meaning.proofs.StreamLaws.{outputs-typed, alike-outputs, same-outputs, one-output-type, within-typed}
use Rattle.net_syntax.proofs.NeedPlaces.{stands-at}
use Rattle.net_syntax.proofs.NeedOrder.{all-reached, in-order}
use Rattle.net_syntax.proofs.OneList.{one-list}
use Rattle.net_syntax.proofs.OneTypeAt.{one_type_at}
use Rattle.net_syntax.proofs.laws.typing_laws.Goals as goal

pub returns : goal.returns
returns c = record {
  typed = outputs-typed;
  alike = alike-outputs;
  same = same-outputs;
  one_type = one-output-type;
  one_list = one-list;
  positions = stands-at;
  all_reached = all-reached;
  in_order = in-order;
  within = within-typed;
  one_type_at = one_type_at;
}
