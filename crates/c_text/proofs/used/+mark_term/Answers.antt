use Rattle.std.proofs.Common.{◌≡◌, IfOk, ap, sym, subst, ◌∙◌}
use Rattle.c_text.specs.Used.{term_used, terms_used}
use Rattle.c_text.proofs.UsedRows.{braced_used}
use Rattle.c_text.proofs.used.+mark_term.Goals as goal

pub mark_term-returns-in-Braced : goal.mark_term-returns-in-Braced
mark_term-returns-in-Braced t c =
    let U = c.args.used.now.items in
    let is = ap (term_used U) c.in-Braced.is ∙ braced_used U c.in-Braced.all c.in-Braced.field-1 in
    subst (λ V. IfOk c.mark_terms.result (λ x. c.mark_terms.new.used.items ≡ V))
    (ap (terms_used U) c.as_slice.ensures.value ∙ sym is) c.mark_terms.ensures
