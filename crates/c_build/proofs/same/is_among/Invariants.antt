use Rattle.std.proofs.Common.{◌≡◌, drop, map}
use Rattle.sample_core.specs.TypeView.{type_of}
use Rattle.c_file.specs.Compared.{is_among}
use Rattle.c_build.proofs.same.is_among.Given as goal

-- it is among those to come, if it is there at all
abbrev pub invariant-loop-other : goal.invariant-loop-other
invariant-loop-other l =
    is_among (type_of l.ty) (map type_of (drop l.other-index l.types))
    ≡ is_among (type_of l.ty) (map type_of l.types)
