use Rattle.std.proofs.Common.{arith}
use Rattle.std.proofs.lemmas.Grind.{common_steps}
use Rattle.sample_core.specs.TypeView.{type_of}
use Rattle.net_types.specs.Sites.{site_of}
use Rattle.net_types.proofs.WalkTests.{same_at_equal, same_at_other}
use Rattle.net_types.proofs.walk.Walk.wanted_at.Goals as goal

pub returns-then-same_type : goal.returns-then-same_type
returns-then-same_type c =
    let e = same_at_equal (site_of c.args.self.now.path.items c.args.site) (type_of c.args.wanted.now) (type_of c.args.ty) in
    grind (arith, common_steps, e)

pub returns : goal.returns
returns c =
    let e = same_at_other (site_of c.args.self.now.path.items c.args.site) (type_of c.args.wanted.now) (type_of c.args.ty) in
    grind (arith, common_steps, e)
