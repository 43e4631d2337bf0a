-- What the code answers on its way to a position.
use Rattle.std.specs.Prelude.{◌≡◌, Option, Some, None, Result, Ok, Err}
use Rattle.net_syntax.specs.declared.output.Untyped.{Untyped}
use Rattle.net_syntax.specs.declared.output.Untyped.TheVariants.{NoType, Memory}

-- what is found, seen by view; `NoType` if there is none
abbrev pub Finds : {X Y : Type 0} → (X → Y) → Result X Untyped → Option Y → Type 0
Finds view (Ok x) found = found ≡ Some (view x)
Finds view (Err NoType) found = found ≡ None
Finds view (Err Memory) found = Unit {0}
