use Rattle.std.proofs.Common.{◌≡◌, ◌*◌, map, refl, sym, ap, ◌∙◌, subst}
use Rattle.sample_core.specs.TypeTree.{TypeTree, pair_ty, event_ty, list_ty}
use Rattle.sample_core.specs.TypeView.{type_of}
use Rattle.code_fits.specs.Saturated.{saturated}
use Rattle.code_fits.specs.Sizes.{rounded_up, value_size}
use Rattle.code_fits.specs.Tables.{beside, bound_of, entry_tree, tree_at}
use Rattle.code_fits.proofs.bytes.entry_bytes.Goals as goal

pub returns-in_ok-value_at-in-Pair-2 : goal.returns-in_ok-value_at-in-Pair-2
returns-in_ok-value_at-in-Pair-2 c =
    let size = λ (T : TypeTree). value_size (bound_of c.args.types.now c.args.bounds.now) T in
    let A = tree_at c.args.types.now c.in-Pair.a in
    let B = tree_at c.args.types.now c.in-Pair.b in
    let is : type_of c.args.ty.now ≡ pair_ty A B = c.requires.is_type ∙ ap (entry_tree c.args.types.now) c.in-Pair.is in
    subst (λ T. c.plus.result ≡ saturated (size T)) (sym is)
    (c.plus.ensures (rounded_up (size A)) (rounded_up (size B))
    (c.rounded-first.ensures (size A) (c.requires.sizes c.in-Pair.a _ c.in_ok-value_at-in-Pair.ensures))
    (c.rounded.ensures (size B) (c.requires.sizes c.in-Pair.b _ c.in_ok-value_at-in-Pair-2.ensures)))

pub returns-in_ok-value_at-in-Event : goal.returns-in_ok-value_at-in-Event
returns-in_ok-value_at-in-Event c =
    let size = λ (T : TypeTree). value_size (bound_of c.args.types.now c.args.bounds.now) T in
    let A = tree_at c.args.types.now c.in-Event.a in
    let is : type_of c.args.ty.now ≡ event_ty A = c.requires.is_type ∙ ap (entry_tree c.args.types.now) c.in-Event.is in
    subst (λ T. c.plus-in-Event.result ≡ saturated (size T)) (sym is)
    (c.plus-in-Event.ensures (rounded_up (size A)) 8
    (c.rounded-in-Event.ensures (size A) (c.requires.sizes c.in-Event.a _ c.in_ok-value_at-in-Event.ensures)) refl)

pub returns-in_ok-value_at-in-List : goal.returns-in_ok-value_at-in-List
returns-in_ok-value_at-in-List c =
    let bound = bound_of c.args.types.now c.args.bounds.now in
    let A = tree_at c.args.types.now c.in-List.a in
    let is : type_of c.args.ty.now ≡ list_ty A = c.requires.is_type ∙ ap (entry_tree c.args.types.now) c.in-List.is in
    let most : c.in_ok-most-in-List.most ≡ beside (list_ty A) (map type_of c.args.types.now.trees.items) c.args.bounds.now =
    c.in_ok-most-in-List.ensures ∙ ap (λ T. beside T (map type_of c.as_slice.result.now) c.args.bounds.now) is
    ∙ ap (λ ts. beside (list_ty A) (map type_of ts) c.args.bounds.now) c.as_slice.ensures.value in
    let elements : c.times-elements.result ≡ saturated (value_size bound A * beside (list_ty A) (map type_of c.args.types.now.trees.items) c.args.bounds.now) =
    subst (λ n. c.times-elements.result ≡ saturated (value_size bound A * n)) most
    (c.times-elements.ensures (value_size bound A) (c.requires.sizes c.in-List.a _ c.in_ok-value_at-in-List.ensures)) in
    subst (λ T. c.plus-in-List.result ≡ saturated (value_size bound T)) (sym is)
    (c.plus-in-List.ensures (rounded_up (value_size bound A * bound A)) 8
    (c.rounded-in-List.ensures (value_size bound A * bound A) elements) refl)
