-- The steps that the readers' proofs take, in any language, for `using` on a module of readers.
use Rattle.leaf_expr.proofs.FrontSteps.{in_word, front_refused}
use Rattle.leaf_expr.proofs.ReadSteps.{given, made, told, told_memory}
use Rattle.leaf_expr.proofs.PartSteps.{headless, named, unnamed, part, no_part, ended, no_end, parts_made, parts_refused}
use Rattle.leaf_expr.proofs.ItemSteps.{done, gone}

pub ruleset whole_parts = (part, ended, parts_made, done)

pub ruleset refusals = (told, told_memory, front_refused, headless, unnamed, no_part, no_end, parts_refused, gone)

pub ruleset reading = (given, made, in_word, named, whole_parts, refusals)
