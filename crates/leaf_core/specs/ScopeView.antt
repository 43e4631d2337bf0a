-- What expressions are worth over a scope, and the answer of the check under one.
use Rattle.std.specs.Prelude.{List, Result, map}
use Rattle.sample_core.specs.Datum.{Datum}
use Rattle.sample_core.specs.ValueView.{datum_of}
use Rattle.leaf_core.specs.Expression.{Expression, Expressions}
use Rattle.leaf_core.specs.ExpressionValue.{value_of, values_of}
use Rattle.sample_core.specs.TypeTree.{TypeTree}
use Rattle.sample_core.specs.TypeView.{type_of}
use Rattle.leaf_core.specs.ExpressionCheck.{type_walk}
use Rattle.leaf_core.specs.declared.typing.ExprFault.{ExprFault}
use Rattle.leaf_core.specs.declared.scope.Scope.{Scope}
use Rattle.leaf_core.specs.declared.scope.TypeScope.{TypeScope}

-- the value of an expression over the scope's parameters and input
abbrev pub value_in : Expression → Scope → Datum
value_in e s = value_of e (map datum_of s.params.now) (datum_of s.x.now)

-- the values of the elements of a list
abbrev pub values_in : Expressions → Scope → List Datum
values_in es s = values_of es (map datum_of s.params.now) (datum_of s.x.now)

-- the type of an expression under the scope's types, its height and size not tested
abbrev pub type_in : Expression → TypeScope → Result TypeTree ExprFault
type_in e s = type_walk (map type_of s.params.now) (type_of s.input.now) e
