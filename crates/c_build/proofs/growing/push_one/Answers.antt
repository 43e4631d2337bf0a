use Rattle.std.proofs.Common.{◌≡◌, ℕ, List, ap, map, ◌∙◌}
use Rattle.c_forms.specs.Keeping.{shape_type}
use Rattle.c_leaf.specs.Representing.{c_type}
use Rattle.code_fits.specs.Tables.{trees_at}
use Rattle.c_file.specs.FunctionC.{shape_at}
use Rattle.c_build.specs.declared.frame.Frame.{Frame}
use Rattle.c_build.specs.Frames.{Stands}
use Rattle.c_build.specs.Growing.{limits_in, structs_in}
use Rattle.c_build.proofs.Growths.{grown_more}
use Rattle.c_build.proofs.Standing.{stands_made}
use Rattle.c_build.proofs.growing.push_one.Goals as goal

pub returns : goal.returns
returns c = λ s known g.
    let x = c.args.setting in
    let T = structs_in x in
    let n = limits_in x in
    let f : Frame = record {
      scope = c.in_ok-scope.scope;
      types = x.known.types;
      bounds = x.known.bounds;
      all = x.known.all;
      layout = c.args.layout;
      callees = c.args.callees;
    } in
    let params = c.in_ok-params.ensures known
    ∙ ap (λ (ks : List ℕ). map (c_type n) (trees_at x.known.types.now ks)) c.as_slice.ensures.value in
    let olds = c.in_ok-olds.ensures T n s.callees g.callees
    ∙ ap (λ (ks : List ℕ). map (shape_type n) (map (shape_at s.callees) ks)) c.as_slice-2.ensures.value in
    let stands : Stands f s.callees =
    stands_made f x.known.table c.in_ok-params.params.items c.in_ok-olds.olds.items s.callees
    c.in_ok-scope.ensures.table (c.in_ok-scope.ensures.params ∙ c.as_slice-3.ensures.value)
    (c.in_ok-scope.ensures.olds ∙ c.as_slice-4.ensures.value) known g.callees params olds in
    grown_more f x.known.table x.compared.now s c.args.code.now _ _ c.args.callees.now _
    c.in_ok-scope.ensures.table g (c.in_ok-called.ensures s stands)
