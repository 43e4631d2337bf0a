use Rattle.std.proofs.Common.{◌≡◌, drop, map}
use Rattle.sample_core.specs.TypeTree.{list_ty}
use Rattle.sample_core.specs.TypeView.{type_of}
use Rattle.code_fits.specs.Tables.{beside}
use Rattle.c_build.proofs.types.Known.bound.Given as goal

-- the type is not among those before
abbrev pub invariant-loop-i : goal.invariant-loop-i
invariant-loop-i l =
    beside (list_ty (type_of l.element)) (map type_of l.self.types.now.trees.items) l.self.bounds.now
    ≡ beside (list_ty (type_of l.element)) (map type_of (drop l.i l.self.types.now.trees.items)) (drop l.i l.self.bounds.now)
