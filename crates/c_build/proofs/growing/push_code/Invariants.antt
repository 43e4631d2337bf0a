use Rattle.std.proofs.Common.{◌≡◌, []}
use Rattle.c_file.specs.Compared.{number_among}
use Rattle.c_file.specs.ProgramC.{Printed}
use Rattle.c_build.specs.LeafLines.{IsKnown}
use Rattle.c_build.specs.Growing.{IsGrown, compared_by, limits_in, structs_in}
use Rattle.c_build.proofs.Growths.{SoFar}
use Rattle.c_build.proofs.growing.push_code.Given as goal

-- the functions of the code so far, with those to come, are all
abbrev pub invariant-loop-k : goal.invariant-loop-k
invariant-loop-k l =
    (s : Printed) → IsKnown l.setting.known → l.program.types ≡ l.setting.known.types.now
    → IsGrown (structs_in l.setting) (limits_in l.setting) s l.initial.functions.items []
    → SoFar (structs_in l.setting) (limits_in l.setting) (number_among (compared_by l.setting)) l.program.types s
    l.program.functions.items l.program.layouts.items l.k l.functions.items l.callees.items
