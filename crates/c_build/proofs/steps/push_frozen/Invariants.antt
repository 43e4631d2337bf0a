use Rattle.std.proofs.Common.{◌≡◌, ◌++◌, drop}
use Rattle.c_build.specs.Frames.{old_rows}
use Rattle.c_build.proofs.steps.push_frozen.Given as goal

-- those there, with those to come, are all
abbrev pub invariant-loop-ty : goal.invariant-loop-ty
invariant-loop-ty l =
    l.params.items ++ old_rows (drop l.ty-index l.types) ≡ l.initial.params.items ++ old_rows l.types
