-- What is in scope where a network stands: the types of parameters and of frozen networks.
use Rattle.std.specs.Prelude.{ℕ, List, [], ◌∷◌, ◌++◌, refl}
use Rattle.std.specs.Coded.{Coded, code_by, coded×, coded_list}
use Rattle.sample_core.specs.TypeTree.{TypeTree}
use Rattle.sample_core.specs.TypeCode.{type_code}
use Rattle.net_meaning.specs.Typing.{Arrow, arrow, copies}

-- the types of the parameters and of the frozen networks in scope
pub record InScope : Type 0 where
  pub params : List TypeTree
  pub olds : List Arrow

-- these in scope
abbrev pub in_scope : List TypeTree → List Arrow → InScope
in_scope Ps Os = record { params = Ps; olds = Os }

-- nothing in scope
abbrev pub empty : InScope
empty = in_scope [] []

-- one more parameter, of type C
abbrev pub and_param : InScope → TypeTree → InScope
and_param S C = record { params = S.params ++ C ∷ []; olds = S.olds }

-- n more frozen networks of one input and output
abbrev pub and_olds : InScope → ℕ → Arrow → InScope
and_olds S n o = record { params = S.params; olds = S.olds ++ copies n o }

-- inputs and outputs, told apart by their codes
abbrev pub arrow_code : Coded Arrow
arrow_code =
    code_by (TypeTree × TypeTree) (coded× type_code type_code) (λ o. (o.input, o.output))
    (λ p. arrow p.0 p.1) (λ _. refl)

-- what is in scope, told apart by its code
abbrev pub in_scope_code : Coded InScope
in_scope_code =
    code_by (List TypeTree × List Arrow) (coded× (coded_list type_code) (coded_list arrow_code))
    (λ S. (S.params, S.olds)) (λ p. record { params = p.0; olds = p.1 }) (λ _. refl)
