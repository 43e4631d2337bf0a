use Rattle.std.proofs.Common.{sym, ap, ◌∙◌, get_or, take, arith}
use Rattle.code_fits.specs.Saturated.{saturated}
use Rattle.code_fits.specs.Sizes.{sizes_at}
use Rattle.code_fits.proofs.KeptSizes.{sum-all, sum-next}
use Rattle.code_fits.proofs.bytes.sum.Goals as goal

pub loop-k-preserved : goal.loop-k-preserved
loop-k-preserved c = λ ns h.
    c.plus-bytes.ensures (sizes_at ns (take c.loop-k.k-index c.args.ks.now)) (get_or ns (get_or c.args.ks.now c.loop-k.k-index 0) 0)
    (c.loop-k.invariant ns h) (c.at.ensures ns h)
    ∙ sym (ap saturated (sum-next ns c.args.ks.now c.loop-k.k-index 0 (omega arith)))

pub returns : goal.returns
returns c = λ ns h. c.loop-k.invariant ns h ∙ ap saturated (sum-all ns c.args.ks.now c.loop-k.k-index (omega arith))
