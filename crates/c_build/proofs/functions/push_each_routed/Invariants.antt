use Rattle.std.proofs.Common.{◌≡◌, ◌++◌, List, drop}
use Rattle.c_file.specs.FunctionC.{Callee, routed_c}
use Rattle.c_build.specs.Frames.{Stands, bounds_in, layout_in}
use Rattle.c_build.specs.Functions.{functions_in}
use Rattle.c_build.proofs.functions.push_each_routed.Given as goal

-- those there, with those to come, are all
abbrev pub invariant-loop-i : goal.invariant-loop-i
invariant-loop-i l =
    (cs : List Callee) → Stands l.frame cs
    → functions_in l.frame l.functions.items
    ++ routed_c cs (layout_in l.frame) (bounds_in l.frame) l.k l.i (drop l.i l.fs)
    ≡ functions_in l.frame l.initial.functions.items
    ++ routed_c cs (layout_in l.frame) (bounds_in l.frame) l.k 0 l.fs
