use Rattle.std.proofs.Common.{refl}
use Rattle.sample_core.specs.TypeTree.{int_ty, list_ty}
use Rattle.code_fits.specs.Layouts.{kept_type}
use Rattle.c_build.specs.Frames.{layout_in}
use Rattle.c_build.proofs.switch_steps.gathered.Goals as goal

pub returns : goal.returns
returns c = λ cs h.
    let all = c.in_ok-answers.ensures cs h in
    let names = c.in_ok-names.ensures in
    let kept = c.in_ok-kept.ensures cs h in
    record {
      chosen = c.in_ok-chosen.ensures (list_ty int_ty) (list_ty (kept_type (layout_in c.args.frame))) names.0 kept.0;
      answer = all.element;
      answers = all.list;
      chooser = refl;
      taker = (c.in_ok-taker.ensures cs h).number;
      named = names.1;
      values = kept.1;
    }
