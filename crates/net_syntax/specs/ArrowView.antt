-- What the types of a frozen network in the code are as trees.
use Rattle.sample_core.specs.TypeView.{type_of}
use Rattle.net_meaning.specs.Typing as T
use Rattle.net_syntax.specs.declared.arrow.Arrow.{Arrow}

-- the pair of types that an `Arrow` is
abbrev pub arrow_of : Arrow → T.Arrow
arrow_of o = T.arrow (type_of o.input) (type_of o.output)
