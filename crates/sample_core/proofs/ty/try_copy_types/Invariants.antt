use Rattle.std.proofs.Common.{◌≡◌, take}
use Rattle.sample_core.proofs.ty.try_copy_types.Given as goal

abbrev pub invariant-loop-ty : goal.invariant-loop-ty
invariant-loop-ty l = l.copies.items ≡ take l.ty-index l.types
