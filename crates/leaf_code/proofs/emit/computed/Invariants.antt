use Rattle.std.proofs.Common.{◌≡◌, suc, drop, Some}
use Rattle.sample_core.specs.TypeView.{type_of}
use Rattle.leaf_code.specs.Keys.{register_of}
use Rattle.leaf_code.specs.CodeOf.{computed}
use Rattle.leaf_code.specs.CodeView.{steps_in}
use Rattle.leaf_code.proofs.emit.computed.Given as goal

-- none of the steps before sets it
abbrev pub invariant-loop-k : goal.invariant-loop-k
invariant-loop-k l =
    computed (type_of l.ty) (steps_in l.steps) (Some l.key)
    ≡ register_of (type_of l.ty) l.key (suc l.k) (drop l.k (steps_in l.steps))
