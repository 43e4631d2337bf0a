use Rattle.std.proofs.Common.{◌∙◌, length}
use Rattle.leaf_expr.proofs.ItemSteps.{more, gone}
use Rattle.leaf_expr.proofs.ReadSteps.{told}
use Rattle.leaf_expr.proofs.ReadCounts.{read_shortens}
use Rattle.net_text.specs.Form.{version_of}
use Rattle.net_text.specs.ReadNet.{from_byte}
use Rattle.net_text.specs.StepGrammar.{child_sort}
use Rattle.net_text.specs.ReadCertificate.{step_language, step_part_left, children_from}
use Rattle.net_text.proofs.CertificateSteps.{child_read}
use Rattle.net_text.proofs.certificate_reader.children_at.Goals as goal
use Rattle.net_text.specs.declared.certificate_reader.TheConstants.{POSITION_ROOM}

pub loop-end-smaller : goal.loop-end-smaller
loop-end-smaller c =
    let text = c.args.text.now in
    let size = length text.bytes.now in
    let ts = from_byte c.loop-end.next text in
    read_shortens (step_language text) size POSITION_ROOM child_sort ts _ (child_read (version_of text.version) size POSITION_ROOM ts ∙ c.in_ok-child.ensures)

pub loop-end-preserved : goal.loop-end-preserved
loop-end-preserved c =
    let text = c.args.text.now in
    let size = length text.bytes.now in
    let ts = from_byte c.loop-end.next text in
    more (step_language text) child_sort size POSITION_ROOM c.in_ok-child.behind c.loop-end.path.items c.push.new.self.items c.in_ok-child.child
    ts (from_byte c.in_ok-child.behind text) _ c.loop-end.invariant c.in_default.ensures.token
    (child_read (version_of text.version) size POSITION_ROOM ts ∙ c.in_ok-child.ensures) c.in_ok-push.ensures.items

pub returns-in_err-child : goal.returns-in_err-child
returns-in_err-child c =
    let text = c.args.text.now in
    let size = length text.bytes.now in
    let ts = from_byte c.loop-end.next text in
    told (step_part_left text) c.from_residual.result _ (children_from text c.args.at) c.from_residual.ensures.1
    (gone (step_language text) child_sort size POSITION_ROOM c.loop-end.path.items _ ts (children_from text c.args.at) c.loop-end.invariant
    c.in_default.ensures.token (λ m. child_read (version_of text.version) size POSITION_ROOM ts ∙ c.in_err-child.ensures m))
