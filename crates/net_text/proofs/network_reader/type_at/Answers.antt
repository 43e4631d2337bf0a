use Rattle.leaf_expr.specs.Grammar.{type_sort}
use Rattle.leaf_expr.specs.ReadText.{type_left}
use Rattle.net_text.proofs.ReadSteps.{room_left}
use Rattle.net_text.proofs.network_reader.type_at.Goals as goal

pub returns : goal.returns
returns c =
    room_left type_sort c.args.text.now c.args.room c.args.at (type_left c.args.text.now) c.read_type_at.result c.requires
    c.read_type_at.ensures.found c.read_type_at.ensures.refused
