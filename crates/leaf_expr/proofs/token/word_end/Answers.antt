use Rattle.std.proofs.Common.{◌∙◌, sym, arith, length}
use Rattle.leaf_expr.proofs.TokenSteps.{word_stands, word_spelt}
use Rattle.leaf_expr.proofs.token.word_end.Goals as goal

pub returns-then-not-is_word_byte-clause-word : goal.returns-then-not-is_word_byte-clause-word
returns-then-not-is_word_byte-clause-word c =
    word_stands c.args.start c.loop-i.i c.args.text.now (omega arith) (omega arith) c.loop-i.invariant (λ h. sym c.is_word_byte.ensures
    ∙ c.if-not-is_word_byte.true)

pub returns-clause-word : goal.returns-clause-word
returns-clause-word c = word_stands c.args.start (length c.args.text.now) c.args.text.now (omega arith) (omega arith)
    (λ k a b. c.loop-i.invariant k a (omega arith)) (λ h. absurd (omega arith))

pub returns-then-not-is_word_byte-clause-spelt : goal.returns-then-not-is_word_byte-clause-spelt
returns-then-not-is_word_byte-clause-spelt c = word_spelt c.args.start c.loop-i.i c.args.text.now (omega arith) (omega arith) c.loop-i.invariant

pub returns-clause-spelt : goal.returns-clause-spelt
returns-clause-spelt c = word_spelt c.args.start (length c.args.text.now) c.args.text.now (omega arith) (omega arith)
    (λ k a b. c.loop-i.invariant k a (omega arith))
