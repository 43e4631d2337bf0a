use Rattle.std.proofs.Common.{◌≡◌, ◌+◌, drop, map}
use Rattle.sample_core.specs.TypeView.{type_of}
use Rattle.c_file.specs.Compared.{number_among}
use Rattle.c_build.proofs.same.number_among.Given as goal

-- its number among those to come, behind those before
abbrev pub invariant-loop-i : goal.invariant-loop-i
invariant-loop-i l =
    number_among (map type_of l.types) (type_of l.ty)
    ≡ l.i + number_among (map type_of (drop l.i l.types)) (type_of l.ty)
