use Rattle.std.proofs.Common.{string_bytes}
use Rattle.net_view.proofs.TextParts.{blanks_more}
use Rattle.net_view.proofs.texts.push_indent.Goals as goal

pub children-preserved : goal.children-preserved
children-preserved c =
    blanks_more c.args.path.now c.children.index (string_bytes c.args.text.now) (string_bytes c.children.text) (string_bytes c.push_word.new.text) c.children-test.true
    c.in_ok-push_word.ensures c.children.invariant
