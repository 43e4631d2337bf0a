use Rattle.std.proofs.Common.{◌≡◌, ◌∷◌, ◌++◌, [], length, map, arith}
use Rattle.std.proofs.lemmas.Grind.{common_steps}
use Rattle.net_tree.specs.LawStep.{step_of}
use Rattle.net_text.specs.Form.{version_of}
use Rattle.net_text.specs.ReadNet.{from_byte}
use Rattle.net_text.specs.ReadCertificate.{steps_from}
use Rattle.net_text.proofs.CertificateRead.{step_shortens, steps_more}
use Rattle.net_text.proofs.certificate_reader.steps_at.Goals as goal

pub loop-alloc-smaller : goal.loop-alloc-smaller
loop-alloc-smaller c =
    let text = c.args.text.now in
    step_shortens (length text.bytes.now) (version_of text.version) (from_byte c.loop-alloc.next text)
    (step_of c.in_ok-step.step, from_byte c.in_ok-step.behind text) c.in_ok-step.ensures

pub loop-alloc-preserved : goal.loop-alloc-preserved
loop-alloc-preserved c =
    let text = c.args.text.now in
    let p = c.in_ok-push.ensures.items in
    let m : map step_of c.push.new.self.items ≡ map step_of c.loop-alloc.steps.items ++ step_of c.in_ok-step.step ∷ [] = grind (arith, common_steps, p) in
    steps_more (length text.bytes.now) (version_of text.version) (map step_of c.loop-alloc.steps.items) (map step_of c.push.new.self.items)
    (step_of c.in_ok-step.step) (from_byte c.loop-alloc.next text) (from_byte c.in_ok-step.behind text) (steps_from text c.args.at)
    c.loop-alloc.invariant c.in_ok-step.ensures m
