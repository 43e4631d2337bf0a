use Rattle.std.proofs.Common.{◌∷◌, [], sym, subst, string_bytes}
use Rattle.sample_core.specs.Adding.{Adds}
use Rattle.sample_core.specs.TypeView.{type_of}
use Rattle.sample_core.specs.Spelling.{type_spelling}
use Rattle.leaf_expr.proofs.Joined.{adds_behind, type_spelled}
use Rattle.leaf_expr.proofs.print.push_next_type.Goals as goal

pub returns : goal.returns
returns c =
    let T = type_of c.args.ty.now in
    let old = string_bytes c.args.text.now in
    let mid = string_bytes c.push_word.new.text in
    let new = string_bytes c.push_type.new.text in
    subst (λ s. Adds c.push_type.result old new (32 ∷ s)) (sym (type_spelled T))
    (adds_behind c.push_type.result old mid new (32 ∷ []) (type_spelling T) c.in_ok-push_word.ensures c.push_type.ensures)
