use Rattle.std.proofs.Common.{◌≡◌, ◌+ℤ◌, ◌*ℤ◌, w64, to_z, of_z, rules}
use Rattle.std.specs.Int.{int_wrap}
use Rattle.sample_core.specs.ValueView.{datum_of}
use Rattle.leaf_core.specs.declared.shape.Shape.TheVariants as S
use Rattle.leaf_table.proofs.Shapes.{by_shape, affine_value}
use Rattle.leaf_table.proofs.run.run_affine.Goals as goal

pub returns : goal.returns
returns c =
    let p : c.product.result ≡ int_wrap w64 (c.args.a *ℤ c.number.result) = search rules in
    let s : to_z w64 (of_z w64 c.sum.result) ≡ int_wrap w64 (c.product.result +ℤ c.args.b) = search rules in
    by_shape (S.Affine c.args.a c.args.b) _ _
    (affine_value c.args.a c.args.b c.number.result c.product.result _ (datum_of c.args.x.now) c.number.ensures p s)
