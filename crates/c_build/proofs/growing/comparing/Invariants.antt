use Rattle.std.proofs.Common.{◌≡◌, ◌++◌, drop, map}
use Rattle.sample_core.specs.TypeView.{type_of}
use Rattle.c_text.specs.Meant.{function_meant}
use Rattle.c_leaf.specs.LeafC.{same_function}
use Rattle.c_file.specs.Compared.{number_among}
use Rattle.c_build.specs.LeafLines.{IsKnown}
use Rattle.c_build.specs.Growing.{compared_by, limits_in, structs_in}
use Rattle.c_build.proofs.growing.comparing.Given as goal

-- those there, with those to come, are all
abbrev pub invariant-loop-ty : goal.invariant-loop-ty
invariant-loop-ty l =
    IsKnown l.setting.known
    → map (function_meant (structs_in l.setting)) l.functions.items
    ++ map (same_function (limits_in l.setting) (number_among (compared_by l.setting)))
    (map type_of (drop l.ty-index l.compared))
    ≡ map (same_function (limits_in l.setting) (number_among (compared_by l.setting))) (map type_of l.compared)
