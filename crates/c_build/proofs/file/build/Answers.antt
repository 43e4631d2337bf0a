use Rattle.std.proofs.Common.{refl, ◌∙◌}
use Rattle.c_build.proofs.Files.{built_of}
use Rattle.c_build.proofs.file.build.Goals as goal

pub returns : goal.returns
returns c =
    built_of c.args.program.now c.args.unchecked _ c.in_ok-parts.parts c.in_ok-table.table.structs.now
    c.as_slice-3.result.now (c.in_ok-table.ensures ∙ c.as_slice.ensures.value) c.as_slice-3.ensures.value
    c.in_ok-parts.ensures (rw c.as_slice-2.ensures.value at c.in_ok-types.ensures.known) c.in_ok-types.ensures.all
    refl refl refl refl refl
