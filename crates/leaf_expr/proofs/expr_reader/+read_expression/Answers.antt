use Rattle.std.proofs.Common.{List, ◌∙◌, ◌≡◌, ◌∷◌, ◌++◌, [], length, map, refl, arith}
use Rattle.std.proofs.lemmas.Grind.{common_steps}
use Rattle.sample_core.specs.TypeTree.{TypeTree}
use Rattle.sample_core.specs.TypeView.{type_of}
use Rattle.leaf_core.specs.Expression.{Expression, list_expr, expressions_of}
use Rattle.leaf_expr.specs.Grammar.{leaf, type_sort, expression_sort}
use Rattle.leaf_expr.specs.Language.{places}
use Rattle.leaf_core.specs.ExpressionView.{expression_of}
use Rattle.leaf_expr.specs.Token.{tokens_from}
use Rattle.leaf_expr.proofs.FrontSteps.{in_form}
use Rattle.leaf_expr.proofs.ItemSteps.{more}
use Rattle.leaf_expr.proofs.ReadCounts.{read_shortens}
use Rattle.leaf_expr.proofs.PartSteps.{part, parts_made, parts_refused}
use Rattle.leaf_expr.proofs.expr_reader.+read_expression.Goals as goal

-- a list expression of those elements
abbrev listed : TypeTree → List Expression → Expression
listed T es = list_expr T (expressions_of es)

pub parts-returns-in-Param : goal.parts-returns-in-Param
parts-returns-in-Param t c = rw c.in-Param.is c.param.ensures

pub parts-returns-in-NoEvent : goal.parts-returns-in-NoEvent
parts-returns-in-NoEvent t c = rw c.in-NoEvent.is c.no_event.ensures

pub parts-returns-in-List : goal.parts-returns-in-List
parts-returns-in-List t c = rw c.in-List.is c.list.ensures

pub parts-returns-in-Unary : goal.parts-returns-in-Unary
parts-returns-in-Unary t c = rw c.in-Unary.is c.unary.ensures

pub parts-returns-in-Binary : goal.parts-returns-in-Binary
parts-returns-in-Binary t c = rw c.in-Binary.is c.binary.ensures

pub parts-returns-in-Ternary : goal.parts-returns-in-Ternary
parts-returns-in-Ternary t c = rw c.in-Ternary.is c.ternary.ensures

pub parts-returns-in-Typed : goal.parts-returns-in-Typed
parts-returns-in-Typed t c = rw c.in-Typed.is c.typed.ensures

pub read_expression-returns-in-Form : goal.read_expression-returns-in-Form
read_expression-returns-in-Form t c = in_form leaf expression_sort _ _ _ _ _ refl c.in-Form.is c.in_ok-start.ensures.front c.form.ensures

pub list-returns-in-Ok : goal.list-returns-in-Ok
list-returns-in-Ok t c =
    part leaf _ _ type_sort (places expression_sort) listed _ c.in_ok-ty.ensures
    ∙ parts_made leaf _ _ (listed (type_of c.in_ok-ty.ty)) (places expression_sort) (λ xs. xs) _ c.in-Ok.ensures

pub list-returns-in-Err : goal.list-returns-in-Err
list-returns-in-Err t c = λ m.
    part leaf _ _ type_sort (places expression_sort) listed _ c.in_ok-ty.ensures
    ∙ parts_refused leaf _ _ (listed (type_of c.in_ok-ty.ty)) _ (places expression_sort) (λ xs. xs) _ c.in-Err.ensures m

pub items-loop-end-smaller : goal.items-loop-end-smaller
items-loop-end-smaller t c = read_shortens leaf (length c.args.text.now) c.args.room expression_sort _ _ c.in_ok-expr.ensures

pub items-loop-end-preserved : goal.items-loop-end-preserved
items-loop-end-preserved t c =
    let p = c.in_ok-push.ensures.items in
    let m : map expression_of c.push.new.self.items ≡ map expression_of c.loop-end.all.items ++ expression_of c.in_ok-expr.expr ∷ [] =
    grind (arith, common_steps, p) in
    more leaf expression_sort (length c.args.text.now) c.args.room c.in_ok-expr.behind (map expression_of c.loop-end.all.items)
    (map expression_of c.push.new.self.items) (expression_of c.in_ok-expr.expr) (tokens_from c.loop-end.next c.args.text.now)
    (tokens_from c.in_ok-expr.behind c.args.text.now) _
    c.loop-end.invariant c.in_default.ensures.token c.in_ok-expr.ensures m
