use Rattle.std.proofs.Common.{◌∙◌, ap, sym, subst, ◌∷◌, ◌++◌, [], string_bytes}
use Rattle.std.specs.Prelude.{codes}
use Rattle.sample_core.specs.Adding.{Adds}
use Rattle.leaf_expr.specs.Sexpr.{sexprs_spelling}
use Rattle.net_tree.specs.Position.{position_spelling}
use Rattle.net_tree.specs.LawStep.{step_of}
use Rattle.net_text.specs.CertificatePrinting.{law_spelling, direction_spelling, given_sexprs}
use Rattle.net_text.proofs.CertificateLines.{step_spelled, six_added}
use Rattle.net_text.proofs.print_certificate.push_step.Goals as goal

pub returns : goal.returns
returns c =
    let s = step_of c.args.step.now in
    subst (Adds c.push_word-3.result (string_bytes c.args.text.now) (string_bytes c.push_word-3.new.text)) (sym (step_spelled s))
    (six_added c.push_word-3.result (string_bytes c.args.text.now) (string_bytes c.push_word.new.text) (string_bytes c.push_law.new.text)
    (string_bytes c.push_word-2.new.text) (string_bytes c.push_position.new.text) (string_bytes c.push_given.new.text)
    (string_bytes c.push_word-3.new.text) (codes "(step ") (law_spelling s.law) (32 ∷ direction_spelling s.direction ++ 32 ∷ [])
    (position_spelling s.position) (sexprs_spelling (given_sexprs s.given)) (codes ")\n") c.in_ok-push_word.ensures c.in_ok-push_law.ensures
    (c.in_ok-push_word-2.ensures ∙ ap (λ w. string_bytes c.push_law.new.text ++ w) c.direction_word.ensures) c.in_ok-push_position.ensures
    c.in_ok-push_given.ensures c.push_word-3.ensures)
