use Rattle.std.proofs.Common.{length, ◌∙◌}
use Rattle.leaf_expr.specs.Token.{tokens_from}
use Rattle.leaf_expr.proofs.NaturalSteps.{index_read}
use Rattle.leaf_expr.proofs.ReadSteps.{told, given}
use Rattle.leaf_expr.proofs.number_reader.read_index.Goals as goal

pub returns-in_err-k : goal.returns-in_err-k
returns-in_err-k c = given _ _ (index_read (length c.args.text.now) c.args.room (tokens_from c.args.at c.args.text.now))
    (told _ _ _ _ c.from_residual.ensures.1 c.in_err-k.ensures.number)

pub returns : goal.returns
returns c = index_read (length c.args.text.now) c.args.room (tokens_from c.args.at c.args.text.now) ∙ c.in_ok-k.ensures.number
