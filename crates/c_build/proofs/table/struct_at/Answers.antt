use Rattle.std.proofs.Common.{sym, ◌∙◌}
use Rattle.c_build.proofs.table.struct_at.Goals as goal

pub returns-then-same_types : goal.returns-then-same_types
returns-then-same_types c = record {
  struct = c.in-Some.each.now;
  within = c.in-Some.ensures.lookup.3.0;
  there = c.in-Some.ensures.lookup.1;
  members = sym c.as_slice.ensures.value ∙ c.same_types.ensures c.if-same_types.true;
}
