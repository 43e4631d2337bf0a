use Rattle.std.proofs.Common.{◌≡◌, ◌-◌, length, pos}
use Rattle.sample_core.specs.TypeTree.{list_ty}
use Rattle.c_meaning.specs.Object.{u32}
use Rattle.c_meaning.specs.Syntax.{literal, define, answer}
use Rattle.c_leaf.specs.Representing.{c_type}
use Rattle.c_leaf.specs.LeafC.{pair_of}
use Rattle.c_forms.specs.Standing.{behind}
use Rattle.c_forms.specs.Members.{answers_term, list_lines}
use Rattle.c_build.specs.Scopes.{table, made}
use Rattle.c_build.specs.Making.{calls_from}
use Rattle.c_build.proofs.Many.{block_made, calls_length, calls_lines}
use Rattle.c_build.proofs.members.push_par.Goals as goal

pub returns : goal.returns
returns c = λ n Ps Os Ss A B counts is_element is_list is_room.
    let js = c.args.js.now in
    let e1 = c.in_ok-push_members.ensures n Ps Os B counts is_element in
    let e2 = c.in_ok-push_list.ensures n Ps Os B counts is_element is_list is_room in
    let e3 = c.in_ok-add.ensures in
    rw (e3, e2, e1)
    (rw (
      block_made (table c.args.scope) (calls_from n Ps Os B 0 js)
          (define (c_type n (list_ty B))
          (pair_of (literal u32 (pos (length js))) (answers_term n Ps Os B 0 (length js) (n B - length js))))
          (answer (behind n Ps Os (length js))) (length js) (made c.args.scope c.args.out.now.items)
          (calls_length n Ps Os B 0 js),
      calls_lines n Ps Os B 0 js (list_lines n Ps Os B (length js)),
    ))
