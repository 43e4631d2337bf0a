use Rattle.std.proofs.Common.{◌≡◌, drop, map}
use Rattle.sample_core.specs.TypeView.{type_of}
use Rattle.code_fits.specs.Tables.{beside}
use Rattle.code_fits.proofs.around.most_of.Given as goal

-- the type is not among those before
abbrev pub invariant-loop-i : goal.invariant-loop-i
invariant-loop-i l =
    beside (type_of l.list) (map type_of l.known) l.bounds
    ≡ beside (type_of l.list) (map type_of (drop l.i l.known)) (drop l.i l.bounds)
