-- The functions that test an input's types with lists.
use Rattle.std.specs.Prelude.{ℕ, ◌+◌, map}
use Rattle.sample_core.specs.TypeTree.{TypeTree}
use Rattle.sample_core.specs.TypeView.{type_of}
use Rattle.c_file.specs.Compared.{number_among}
use Rattle.c_build.specs.declared.within.Tests.{Tests}

-- the number of the function that tests a type
abbrev pub tested_by : Tests → TypeTree → ℕ
tested_by t T = t.first + number_among (map type_of t.types.now) T
