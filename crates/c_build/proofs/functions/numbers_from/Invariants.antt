use Rattle.std.proofs.Common.{◌≡◌, ◌+◌, ◌++◌, drop}
use Rattle.c_file.specs.FunctionC.{numbers_from}
use Rattle.c_build.proofs.functions.numbers_from.Given as goal

-- those there, with those to come, are all
abbrev pub invariant-loop-i : goal.invariant-loop-i
invariant-loop-i l = l.all.items ++ numbers_from (l.first + l.i) (drop l.i l.fs) ≡ numbers_from l.first l.fs
