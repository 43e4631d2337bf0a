use Rattle.std.proofs.Common.{◌∙◌, sym, ap}
use Rattle.std.specs.Option.{option_map}
use Rattle.leaf_expr.specs.Form.{form_production}
use Rattle.leaf_expr.proofs.Forms.{in_other, in_unary, in_binary, in_ternary, in_typed}
use Rattle.leaf_expr.proofs.form.form_named.Goals as goal

pub returns-in-Some : goal.returns-in-Some
returns-in-Some c = sym (in_other c.args.word.now _ (sym c.in-Some.ensures))

pub returns-in-Some-unary_named : goal.returns-in-Some-unary_named
returns-in-Some-unary_named c = sym (in_unary c.args.word.now (sym c.in_default.ensures) _ (sym c.in-Some-unary_named.ensures))

pub returns-in-Some-binary_named : goal.returns-in-Some-binary_named
returns-in-Some-binary_named c =
    sym (in_binary c.args.word.now (sym c.in_default.ensures) (sym c.in_default-unary_named.ensures) _ (sym c.in-Some-binary_named.ensures))

pub returns-in-Some-ternary_named : goal.returns-in-Some-ternary_named
returns-in-Some-ternary_named c =
    sym
    (in_ternary c.args.word.now (sym c.in_default.ensures) (sym c.in_default-unary_named.ensures) (sym c.in_default-binary_named.ensures) _
    (sym c.in-Some-ternary_named.ensures))

pub returns-in_err-form : goal.returns-in_err-form
returns-in_err-form c = ap (option_map form_production) c.from_residual.ensures ∙ c.in_err-form.ensures
    ∙ sym
    (in_typed c.args.word.now (sym c.in_default.ensures) (sym c.in_default-unary_named.ensures) (sym c.in_default-binary_named.ensures)
    (sym c.in_default-ternary_named.ensures))

pub returns-in_ok-form : goal.returns-in_ok-form
returns-in_ok-form c =
    sym
    (in_typed c.args.word.now (sym c.in_default.ensures) (sym c.in_default-unary_named.ensures) (sym c.in_default-binary_named.ensures)
    (sym c.in_default-ternary_named.ensures) ∙ sym c.in_ok-form.ensures)
