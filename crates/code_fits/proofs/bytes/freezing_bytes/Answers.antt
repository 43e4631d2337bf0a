use Rattle.std.proofs.Common.{◌+◌, ◌*◌, refl}
use Rattle.code_fits.specs.Sizes.{size_at}
use Rattle.code_fits.proofs.bytes.freezing_bytes.Goals as goal

pub returns : goal.returns
returns c = λ w v ns hw hv hn.
    let parts = c.plus-parts.ensures (size_at ns c.args.e) (size_at ns c.args.t) (c.at.ensures ns hn) (c.at-2.ensures ns hn) in
    let all = c.plus.ensures (w * 2) (size_at ns c.args.e + size_at ns c.args.t) (c.times.ensures w hw) parts in
    c.plus-3.ensures (w * 2 + (size_at ns c.args.e + size_at ns c.args.t) + v) 16
    (c.plus-2.ensures (w * 2 + (size_at ns c.args.e + size_at ns c.args.t)) v all hv) refl
