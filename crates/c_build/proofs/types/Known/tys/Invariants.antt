use Rattle.std.proofs.Common.{◌≡◌, ◌++◌, drop, map}
use Rattle.code_fits.specs.Tables.{bound_of, trees_at}
use Rattle.c_text.specs.Meant.{type_meant, structs_meant}
use Rattle.c_leaf.specs.Representing.{c_type}
use Rattle.c_build.specs.Types.{Typed}
use Rattle.c_build.proofs.types.Known.tys.Given as goal

-- those there, with those to come, are all
abbrev pub invariant-loop-k : goal.invariant-loop-k
invariant-loop-k l =
    Typed (structs_meant l.self.table.structs.now) l.self.types.now l.self.bounds.now l.self.all.now
    → map (type_meant (structs_meant l.self.table.structs.now)) l.all.items
    ++ map (c_type (bound_of l.self.types.now l.self.bounds.now)) (trees_at l.self.types.now (drop l.k-index l.ks))
    ≡ map (c_type (bound_of l.self.types.now l.self.bounds.now)) (trees_at l.self.types.now l.ks)
