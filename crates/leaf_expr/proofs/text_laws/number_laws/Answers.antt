use Rattle.std.proofs.Common.{arith}
use Rattle.leaf_expr.proofs.Numbers.{integer_back, integer_spelled, natural_back, natural_spelled}
use Rattle.leaf_expr.proofs.text_laws.number_laws.Goals as goal

pub returns-clause-integers : goal.returns-clause-integers
returns-clause-integers c = λ w z. (integer_back z w, integer_spelled z)

pub returns-clause-naturals : goal.returns-clause-naturals
returns-clause-naturals c = λ low high n w h. (natural_back low high n w h, λ l u. natural_spelled low high n l u (omega arith))
