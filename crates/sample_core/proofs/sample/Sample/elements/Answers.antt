use Rattle.std.proofs.Common.{◌∙◌}
use Rattle.sample_core.proofs.Elements.{listed_items}
use Rattle.sample_core.proofs.sample.Sample.elements.Goals as goal

pub returns-in-List : goal.returns-in-List
returns-in-List c = c.as_slice.ensures ∙ listed_items c.args.self.now _ c.in-List.is
