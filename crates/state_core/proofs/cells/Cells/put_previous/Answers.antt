use Rattle.std.proofs.Common.{◌<◌, ap, ◌∙◌, map, take, length, arith}
use Rattle.std.proofs.Math.Seq.{take-set-lt}
use Rattle.std.proofs.lemmas.List.{map-set, length-map, length-take-le}
use Rattle.std.specs.Prelude.{slice_set}
use Rattle.cell_core.specs.CellView.{cell_of}
use Rattle.state_core.proofs.cells.Cells.put_previous.Goals as goal

pub returns : goal.returns
returns c =
    let is_within : c.args.i < c.self.inside.used = omega (
      arith,
      c.requires,
      ap length c.self.view_is,
      length-map (take c.self.inside.used c.self.inside.all.items) cell_of,
      length-take-le c.self.inside.used c.self.inside.all.items c.self.invariant,
    ) in
    ap (map cell_of) (take-set-lt c.self.inside.used c.self.inside.all.items c.args.i c.put_previous.new.self is_within)
    ∙ map-set cell_of (take c.self.inside.used c.self.inside.all.items) c.args.i c.put_previous.new.self
    ∙ (λ i. slice_set (c.self.view_is i) c.args.i (c.in_ok-put_previous.ensures i))
