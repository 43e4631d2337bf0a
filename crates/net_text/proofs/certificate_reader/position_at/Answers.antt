use Rattle.std.proofs.Common.{Err, refl}
use Rattle.leaf_expr.proofs.FrontSteps.{in_form, in_word}
use Rattle.leaf_expr.specs.declared.text_fault.ExprTextFault.TheVariants as E
use Rattle.net_text.specs.StepGrammar.{position_sort}
use Rattle.net_text.specs.ReadCertificate.{step_language, step_part_left}
use Rattle.net_text.proofs.CertificateSteps.{at_no_word}
use Rattle.net_text.proofs.certificate_reader.position_at.Goals as goal
use Rattle.net_text.specs.declared.certificate_reader.TheConstants.{STEP_ROOM}

pub returns-in-Form : goal.returns-in-Form
returns-in-Form c =
    let text = c.args.text.now in
    in_form (step_language text) position_sort (step_part_left text) c.position_form_at.result text.bytes.now STEP_ROOM c.args.at refl c.in-Form.is
    c.in_ok-start.ensures.front c.position_form_at.ensures

pub returns-in-Word : goal.returns-in-Word
returns-in-Word c =
    let text = c.args.text.now in
    in_word (step_language text) position_sort (step_part_left text) (Err (E.Syntax c.in-Word.start)) text.bytes.now STEP_ROOM c.args.at c.in-Word.is
    c.in_ok-start.ensures.front (λ m. at_no_word _ _ _ _)
