use Rattle.std.proofs.Common.{◌≡◌, ◌++◌, map, length, take}
use Rattle.net_code.specs.CodeOf.{freezable}
use Rattle.net_code.proofs.emit.with_frozen.Given as goal

-- those so far stand behind those that were there
abbrev pub invariant-loop-function : goal.invariant-loop-function
invariant-loop-function l = l.freezables.items ≡ l.around.freezables.now ++ map (freezable l.around.params (length l.around.freezables.now)) (take l.function-index l.frozen)
