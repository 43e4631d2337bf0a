use Rattle.std.proofs.Common.{◌∙◌, sym, length}
use Rattle.std.specs.Prelude.{codes}
use Rattle.net_text.specs.ReadNet.{from_byte}
use Rattle.leaf_expr.specs.Language.{places}
use Rattle.leaf_expr.proofs.ReadSteps.{given}
use Rattle.leaf_expr.proofs.PartSteps.{named, unnamed}
use Rattle.net_text.specs.StepGrammar.{position_sort, child_sort}
use Rattle.net_text.specs.ReadCertificate.{step_language, step_part_left}
use Rattle.net_text.proofs.CertificateSteps.{at_named, at_unnamed}
use Rattle.net_text.proofs.certificate_reader.position_form_at.Goals as goal
use Rattle.net_text.specs.declared.certificate_reader.TheConstants.{POSITION_ROOM}

pub returns-then-word_is : goal.returns-then-word_is
returns-then-word_is c =
    let text = c.args.text.now in
    given (step_part_left text) c.children_at.result
    (named (step_language text) (length text.bytes.now) POSITION_ROOM POSITION_ROOM position_sort (from_byte c.args.at text)
    (record { name = codes "at"; takes = places child_sort; makes = λ ks. ks }) c.in_ok-start.ensures.head
    (at_named _ (sym c.word_is.ensures ∙ c.if-word_is.true))) c.children_at.ensures

pub returns-else-word_is : goal.returns-else-word_is
returns-else-word_is c =
    let text = c.args.text.now in
    λ m. unnamed (step_language text) (length text.bytes.now) POSITION_ROOM POSITION_ROOM position_sort (from_byte c.args.at text) c.in_ok-start.ensures.head
    (at_unnamed _ (sym c.word_is.ensures ∙ c.if-word_is.false))
