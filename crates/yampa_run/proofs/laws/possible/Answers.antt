use Rattle.std.proofs.Common.{option_map}
use Rattle.yampa_run.specs.Laws.{no_network}
use Rattle.yampa_run.proofs.Networks.{nothing_there}
use Rattle.yampa_run.proofs.laws.possible.Goals as goal

pub returns-in-Ok-load-clause-refused : goal.returns-in-Ok-load-clause-refused
returns-in-Ok-load-clause-refused g c =
    nothing_there (g.F.Files.told c.args.files.now c.args.name.now) (option_map (λ w. w.now) c.args.at) c.in-Ok-load.net c.in-Ok.place c.possible_at-text.result
    c.in-Ok-load.ensures.network c.in-Ok.ensures.place c.possible_at-text.ensures.refused

pub returns-clause-refused : goal.returns-clause-refused
returns-clause-refused g c = no_network c.in-Ok.place c.in-Ok.ensures.place c.in-Err-load.ensures.refused
