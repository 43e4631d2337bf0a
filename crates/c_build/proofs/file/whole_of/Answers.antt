use Rattle.std.proofs.Common.{◌<◌, length, arith}
use Rattle.std.proofs.lemmas.Grind.{common_steps}
use Rattle.c_text.specs.Meant.{structs_meant}
use Rattle.c_build.proofs.Files.{whole_found}
use Rattle.c_build.proofs.file.whole_of.Goals as goal

pub returns : goal.returns
returns c = λ n cs callees inputs.
    let some : 0 < length c.args.callees.now = grind (arith, common_steps, c.is_empty.ensures, c.if-is_empty.false) in
    whole_found (structs_meant c.args.table.structs.now) n c.args.program.now.types cs c.args.callees.now
    c.args.program.now.layouts.items c.saturating_sub-last.result c.in-Some.layout.now _ callees inputs some
    (omega (arith, c.saturating_sub-last.ensures))
    (c.in_ok-called.ensures (structs_meant c.args.table.structs.now) n cs callees)
    (rw c.deref.ensures.value at c.in-Some.ensures.lookup.1) c.in_ok-input.ensures c.in_ok-state.ensures
