use Rattle.std.proofs.Common.{◌++◌, string_bytes, sym, ap, ◌∙◌}
use Rattle.c_text.specs.TermText.{braces_text, elements_text, has_none, term_text}
use Rattle.c_text.proofs.Rows.{braced_text}
use Rattle.c_text.proofs.term.+push_term.Goals as goal

pub push_term-returns-in_ok-push_braced-in-Braced :
    goal.push_term-returns-in_ok-push_braced-in-Braced
push_term-returns-in_ok-push_braced-in-Braced t c =
    let P = c.args.scope.prefix.now in
    let Ss = c.args.scope.structs.now in
    let L = c.args.scope.locals.now in
    let o = string_bytes c.args.text.now in
    let is = ap (term_text P Ss L) c.in-Braced.is ∙ braced_text P Ss L c.in-Braced.all c.in-Braced.tail in
    c.in_ok-push_braced-in-Braced.ensures
    ∙ (ap (λ xs. o ++ braces_text P (has_none xs) c.in-Braced.tail (elements_text P Ss L 0 xs)) c.as_slice.ensures.value
    ∙ ap (λ s. o ++ s) (sym is))
