use Rattle.std.proofs.Common.{◌≡◌, ◌+◌, ℕ, List, [], map, ap, sym, ◌∙◌}
use Rattle.sample_core.specs.declared.ty.Ty.{Ty}
use Rattle.sample_core.specs.TypeTree.{TypeTree}
use Rattle.sample_core.specs.TypeView.{type_of}
use Rattle.c_leaf.specs.LeafC.{has_no_list}
use Rattle.c_file.specs.Compared.{number_among, with_type}
use Rattle.c_build.specs.Growing.{known_limits}
use Rattle.c_build.specs.Scopes.{table}
use Rattle.c_build.proofs.Calls.{guarded_none, guarded_some}
use Rattle.c_build.proofs.ends.push_guards.Goals as goal

pub returns-then-has_no_list : goal.returns-then-has_no_list
returns-then-has_no_list c = λ d known same h.
    guarded_none (known_limits c.args.known) d c.args.j _
    (ap has_no_list (sym h.input) ∙ (sym c.has_no_list.ensures ∙ c.if-has_no_list.true))

pub returns : goal.returns
returns c = λ d known same h.
    let A = type_of c.args.whole.now.input in
    let k = c.len.result in
    let Cs = map type_of c.as_slice.result.now in
    let all = ap (map type_of) c.as_slice.ensures.value
    ∙ (c.in_ok-add_type.ensures
    ∙ (ap (λ (xs : List Ty). with_type A (map type_of xs)) c.new-tested.ensures.items
    ∙ ap (λ (B : TypeTree). with_type B []) h.input)) in
    let number = c.in-Some.ensures.1
    ∙ ap (λ (m : ℕ). k + m) (c.number_among-number.ensures ∙ ap (number_among Cs) h.input) in
    guarded_some (table c.args.scope) (known_limits c.args.known) d Cs c.args.j k _ _ _ _ _
    (ap has_no_list (sym h.input) ∙ (sym c.has_no_list.ensures ∙ c.if-has_no_list.false))
    all (c.len.ensures ∙ c.args.functions.now.ok.0) number (c.in_ok-push_tests.ensures known same) c.in_ok-push.ensures.items
    (c.in_ok-step.ensures (known_limits c.args.known) d h)
