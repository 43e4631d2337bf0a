use Rattle.std.proofs.Common.{◌≡◌, ◌++◌, List, drop, map}
use Rattle.c_file.specs.FunctionC.{Callee, number_at}
use Rattle.c_build.specs.Frames.{Stands}
use Rattle.c_build.proofs.frame.Frame.numbers.Given as goal

-- those there, with those to come, are all
abbrev pub invariant-loop-f : goal.invariant-loop-f
invariant-loop-f l =
    (cs : List Callee) → Stands l.self cs
    → l.all.items ++ map (number_at cs) (drop l.f-index l.fs) ≡ map (number_at cs) l.fs
