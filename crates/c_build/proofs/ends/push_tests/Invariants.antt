use Rattle.std.proofs.Common.{◌≡◌, ◌++◌, drop, map}
use Rattle.sample_core.specs.TypeView.{type_of}
use Rattle.c_text.specs.Meant.{function_meant}
use Rattle.c_leaf.specs.Within.{within_function}
use Rattle.c_build.specs.LeafLines.{IsKnown}
use Rattle.c_build.specs.Testing.{tested_by}
use Rattle.c_build.specs.Growing.{known_limits}
use Rattle.c_build.specs.Scopes.{table}
use Rattle.c_build.proofs.ends.push_tests.Given as goal

-- those there, with those to come, are all
abbrev pub invariant-loop-ty : goal.invariant-loop-ty
invariant-loop-ty l =
    IsKnown l.known → l.scope.table ≡ l.known.table
    → map (function_meant (table l.scope)) l.functions.items
    ++ map (within_function (known_limits l.known) (tested_by l.tests)) (map type_of (drop l.ty-index l.types))
    ≡ map (function_meant (table l.scope)) l.initial.functions.items
    ++ map (within_function (known_limits l.known) (tested_by l.tests)) (map type_of l.types)
