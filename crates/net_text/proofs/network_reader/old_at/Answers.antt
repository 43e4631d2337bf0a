use Rattle.std.proofs.Common.{◌∙◌}
use Rattle.leaf_expr.specs.Grammar.{index_sort}
use Rattle.leaf_expr.specs.Language.{no_place}
use Rattle.leaf_expr.proofs.ReadSteps.{told, given}
use Rattle.leaf_expr.proofs.PartSteps.{ended, no_end}
use Rattle.net_tree.specs.Network.{old}
use Rattle.net_text.specs.ReadNet.{language}
use Rattle.net_text.proofs.ReadSteps.{leaf_part, no_leaf}
use Rattle.net_text.proofs.network_reader.old_at.Goals as goal

pub returns-in_err-k : goal.returns-in_err-k
returns-in_err-k c = told _ _ _ _ c.from_residual.ensures.1 (no_leaf _ _ _ index_sort _ no_place old _ c.in_err-k.ensures)

pub returns-in_err-end : goal.returns-in_err-end
returns-in_err-end c = given _ _ (leaf_part _ _ _ index_sort no_place old _ c.in_ok-k.ensures)
    (told _ _ _ _ c.from_residual-in_err-end.ensures.1 (no_end (language c.args.text.now) _ _ _ _ _ c.in_err-end.ensures))

pub returns : goal.returns
returns c = leaf_part _ _ _ index_sort no_place old _ c.in_ok-k.ensures ∙ ended (language c.args.text.now) _ _ _ _ c.in_ok-end.ensures
