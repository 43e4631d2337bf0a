use Rattle.code_fits.specs.Layouts.{kept_type}
use Rattle.c_forms.specs.Keeping.{keeps_both, keeps_frozen}
use Rattle.c_file.specs.FunctionC.{shape_at}
use Rattle.c_build.specs.Frames.{bounds_in, layout_in}
use Rattle.c_build.proofs.keeping.kept_freezing.Goals as goal

pub returns : goal.returns
returns c = λ cs S h p.
    let n = bounds_in c.args.frame in
    let E = shape_at cs c.args.e in
    let T = shape_at cs c.args.t in
    let front = c.in_ok-front.ensures n S E p (c.in_ok-watcher.ensures cs h).kept in
    let frozen = c.in_ok-frozen.ensures n S T p (c.in_ok-taker.ensures cs h).kept in
    c.in_ok-kept.ensures n (kept_type (layout_in c.args.frame)) (keeps_both S E) (keeps_frozen S T)
    (c.in_ok-value.ensures cs h) front frozen
