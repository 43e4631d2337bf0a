use Rattle.std.proofs.Common.{◌≡◌, fold, drop, map}
use Rattle.sample_core.specs.TypeView.{type_of}
use Rattle.std.specs.List.{flat_map}
use Rattle.leaf_core.specs.HashWrites.{type_writes}
use Rattle.leaf_core.proofs.key.LeafKeyHash.hash.Given as goal

abbrev pub invariant-loop-ty : goal.invariant-loop-ty
invariant-loop-ty g l =
    fold g.H.Hasher.write l.state (flat_map type_writes (map type_of (drop l.ty-index l.ty-items)))
    ≡ fold g.H.Hasher.write l.initial.state (flat_map type_writes (map type_of l.ty-items))
