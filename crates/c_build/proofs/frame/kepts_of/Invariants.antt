use Rattle.std.proofs.Common.{◌≡◌, ◌++◌, List, drop, map}
use Rattle.leaf_code.specs.Fitting.{Bounds}
use Rattle.c_meaning.specs.Object.{CType}
use Rattle.c_text.specs.Meant.{type_meant}
use Rattle.c_forms.specs.Keeping.{shape_type}
use Rattle.c_file.specs.FunctionC.{Callee, shape_at}
use Rattle.c_build.specs.Frames.{AreCallees}
use Rattle.c_build.proofs.frame.kepts_of.Given as goal

-- those there, with those to come, are all
abbrev pub invariant-loop-f : goal.invariant-loop-f
invariant-loop-f l =
    (Ts : List CType) (n : Bounds) (cs : List Callee) → AreCallees Ts n cs l.callees
    → map (type_meant Ts) l.all.items ++ map (shape_type n) (map (shape_at cs) (drop l.f-index l.fs))
    ≡ map (shape_type n) (map (shape_at cs) l.fs)
