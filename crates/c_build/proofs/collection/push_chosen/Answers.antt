use Rattle.std.proofs.Common.{refl}
use Rattle.std.proofs.lemmas.Result.{IfOk-weaker}
use Rattle.sample_core.specs.TypeTree.{int_ty, list_ty, pair_ty}
use Rattle.c_meaning.specs.Syntax.{local}
use Rattle.c_forms.specs.Switches.{value_beside}
use Rattle.c_build.proofs.collection.push_chosen.Goals as goal

pub returns : goal.returns
returns c =
    IfOk-weaker c.add-4.result _ _ (λ _ e8. λ n Ps Os V counts is_chosen named values.
    let h1 = c.in_ok-push_leaf_call.ensures n Ps Os (pair_ty (list_ty int_ty) (list_ty V)) (value_beside n Ps Os (local 2)) counts is_chosen (λ t. refl) in
    let h2 = rw h1 at c.in_ok-add.ensures in
    let h3 = rw h2 at (c.in_ok-push_name.ensures n Ps Os counts) in
    let h4 = rw h3 at c.in_ok-add-2.ensures in
    let h5 = rw h4 at (c.in_ok-push_value.ensures n Ps Os counts) in
    let h6 = rw h5 at c.in_ok-add-3.ensures in
    let h7 = rw h6 at (c.in_ok-push_turned.ensures n Ps Os counts) in
    let h8 = rw h7 at e8 in
    rw (h8, c.behind.ensures, c.behind-2.ensures, c.behind-3.ensures, c.behind-4.ensures, counts.params, counts.olds, named, values))
    c.add-4.ensures
