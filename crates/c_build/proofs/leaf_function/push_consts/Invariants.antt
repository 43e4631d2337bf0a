use Rattle.std.proofs.Common.{◌≡◌, ◌++◌, drop}
use Rattle.c_build.specs.Frames.{const_rows}
use Rattle.c_build.proofs.leaf_function.push_consts.Given as goal

-- those there, with those to come, are all
abbrev pub invariant-loop-ty : goal.invariant-loop-ty
invariant-loop-ty l =
    l.params.items ++ const_rows (drop l.ty-index l.types) ≡ l.initial.params.items ++ const_rows l.types
