-- What is passed: what is frozen, and the beginning of a call.
use Rattle.std.specs.Prelude.{ℕ, List, Option, Some, None}
use Rattle.c_meaning.specs.Syntax.{Argument}
use Rattle.c_forms.specs.Freezing.{frozen_whole, frozen_members}
use Rattle.c_build.specs.Symbols.{Stacks}

-- as one network, or so many members one by one
abbrev pub frozen_as : Option ℕ → List Argument
frozen_as None = frozen_whole
frozen_as (Some m) = frozen_members 0 m

-- a call begins, and passes these
abbrev pub passing : List Argument → Stacks → Stacks
passing as1 s = record { terms = s.terms; arguments = as1; commands = s.commands }
