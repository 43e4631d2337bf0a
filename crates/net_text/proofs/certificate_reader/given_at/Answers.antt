use Rattle.std.proofs.Common.{◌∙◌, ap, length}
use Rattle.net_text.specs.Form.{version_of}
use Rattle.net_text.specs.ReadNet.{from_byte}
use Rattle.leaf_expr.proofs.ReadSteps.{given}
use Rattle.net_text.proofs.StepRead.{given_on, tree_and_end}
use Rattle.net_text.proofs.certificate_reader.given_at.Goals as goal

pub returns-in-E : goal.returns-in-E
returns-in-E c =
    let text = c.args.text.now in
    let size = length text.bytes.now in
    let v = version_of text.version in
    let ts = from_byte c.args.at text in
    given _ _ (given_on size v c.args.law ts c.in_default.ensures.token ∙ ap (λ l. tree_and_end size v l ts) c.in-E.is) c.given_expr_at.ensures

pub returns-in-L : goal.returns-in-L
returns-in-L c =
    let text = c.args.text.now in
    let size = length text.bytes.now in
    let v = version_of text.version in
    let ts = from_byte c.args.at text in
    given _ _ (given_on size v c.args.law ts c.in_default.ensures.token ∙ ap (λ l. tree_and_end size v l ts) c.in-L.is) c.given_net_at.ensures
