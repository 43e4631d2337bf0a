use Rattle.std.proofs.Common.{◌≡◌, drop}
use Rattle.c_text.specs.TypeText.{empties, empties_from}
use Rattle.c_text.proofs.types.empties.Given as goal

-- what is known, with the structs to come, is the whole
abbrev pub invariant-loop-each : goal.invariant-loop-each
invariant-loop-each l = empties_from l.empty.items (drop l.each-index l.structs) ≡ empties l.structs
