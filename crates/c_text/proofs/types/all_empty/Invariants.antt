use Rattle.std.proofs.Common.{◌≡◌, drop}
use Rattle.c_text.specs.TypeText.{all_empty}
use Rattle.c_text.proofs.types.all_empty.Given as goal

-- those to come decide
abbrev pub invariant-loop-ty : goal.invariant-loop-ty
invariant-loop-ty l = all_empty l.empty (drop l.ty-index l.types) ≡ all_empty l.empty l.types
