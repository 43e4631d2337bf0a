use Rattle.std.proofs.Common.{◌≡◌, length}
use Rattle.c_text.specs.Meant.{structs_meant}
use Rattle.c_build.specs.Types.{Typed}
use Rattle.c_build.proofs.types.known_of.Given as goal

-- those so far are of their types, one by one
abbrev pub invariant-loop-entry : goal.invariant-loop-entry
invariant-loop-entry l = record {
  typed : Typed (structs_meant l.table.structs.now) l.types l.bounds l.all.items;
  count : length l.all.items ≡ l.entry-index;
}
