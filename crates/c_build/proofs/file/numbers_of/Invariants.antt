use Rattle.std.proofs.Common.{◌≡◌, ◌++◌, drop, map}
use Rattle.c_build.proofs.file.numbers_of.Given as goal

-- those there, with those to come, are all
abbrev pub invariant-loop-called : goal.invariant-loop-called
invariant-loop-called l =
    l.numbers.items ++ map (λ r. r.number) (drop l.called-index l.callees) ≡ map (λ r. r.number) l.callees
