use Rattle.std.proofs.Common.{◌∙◌, ap, [], ◌∷◌, ◌++◌, string_bytes}
use Rattle.std.specs.Prelude.{codes}
use Rattle.sample_core.specs.Spelling.{type_spelling}
use Rattle.net_tree.specs.Position.{position_spelling}
use Rattle.leaf_expr.proofs.Joined.{adds_behind}
use Rattle.net_view.specs.Outline.{line_of}
use Rattle.net_view.specs.Texts.{indent, tree_word, weight_spelling}
use Rattle.net_view.proofs.texts.push_line.Goals as goal

pub returns : goal.returns
returns c =
    let r = line_of c.args.line.now in
    let out = c.push_word-3.result in
    let all = string_bytes c.push_word-3.new.text in
    adds_behind out (string_bytes c.args.text.now) (string_bytes c.push_indent.new.text) all (indent r.position)
    (position_spelling r.position ++ (9 ∷ (tree_word r.tree ++ (9 ∷ (type_spelling r.output ++ (weight_spelling r.weight ++ 10 ∷ []))))))
    (c.in_ok-push_indent.ensures ∙ ap (λ z. string_bytes c.args.text.now ++ indent z) c.path.ensures)
    (adds_behind out (string_bytes c.push_indent.new.text) (string_bytes c.push_position.new.text) all (position_spelling r.position)
    (9 ∷ (tree_word r.tree ++ (9 ∷ (type_spelling r.output ++ (weight_spelling r.weight ++ 10 ∷ []))))) c.in_ok-push_position.ensures
    (adds_behind out (string_bytes c.push_position.new.text) (string_bytes c.push_word.new.text) all (codes "\t")
    (tree_word r.tree ++ (9 ∷ (type_spelling r.output ++ (weight_spelling r.weight ++ 10 ∷ [])))) c.in_ok-push_word.ensures
    (adds_behind out (string_bytes c.push_word.new.text) (string_bytes c.push_form.new.text) all (tree_word r.tree)
    (9 ∷ (type_spelling r.output ++ (weight_spelling r.weight ++ 10 ∷ []))) c.in_ok-push_form.ensures
    (adds_behind out (string_bytes c.push_form.new.text) (string_bytes c.push_word-2.new.text) all (codes "\t")
    (type_spelling r.output ++ (weight_spelling r.weight ++ 10 ∷ [])) c.in_ok-push_word-2.ensures
    (adds_behind out (string_bytes c.push_word-2.new.text) (string_bytes c.push_type.new.text) all (type_spelling r.output) (weight_spelling r.weight ++ 10 ∷ [])
    c.in_ok-push_type.ensures
    (adds_behind out (string_bytes c.push_type.new.text) (string_bytes c.push_weight.new.text) all (weight_spelling r.weight) (codes "\n") c.in_ok-push_weight.ensures
    c.push_word-3.ensures))))))
