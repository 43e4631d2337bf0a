use Rattle.std.proofs.Common.{◌≡◌, Ok, ap, sym, ◌∙◌, arith}
use Rattle.std.proofs.lemmas.Grind.{common_steps}
use Rattle.sample_core.specs.TypeView.{type_of}
use Rattle.leaf_core.specs.TypeLimits.{same_tree}
use Rattle.leaf_core.specs.ExpressionCheck.{check_that}
use Rattle.leaf_core.specs.declared.typing.ExprFault.TheVariants.{Mismatch}
use Rattle.leaf_core.proofs.Exactness.{as_same_tree}
use Rattle.leaf_core.proofs.typing.matching.Goals as goal

pub returns-then-same_type : goal.returns-then-same_type
returns-then-same_type c = grind (arith, common_steps, as_same_tree c.same_type.result (type_of c.args.found.now) (type_of c.args.ty.now) c.same_type.ensures)

pub returns-else-same_type : goal.returns-else-same_type
returns-else-same_type c =
    let e : c.same_type.result ≡ same_tree (type_of c.args.found.now) (type_of c.args.ty.now) = as_same_tree _ _ _ c.same_type.ensures in
    λ h. ap (λ b. check_that b Mismatch (Ok (type_of c.args.found.now))) (sym e ∙ c.if-same_type.false)
