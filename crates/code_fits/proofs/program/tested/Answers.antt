use Rattle.std.proofs.Common.{◌^◌, map, subst}
use Rattle.net_code.specs.Running.{AllBelow}
use Rattle.code_fits.specs.Programs.{HasWhole}
use Rattle.code_fits.specs.Refusing.{RefusesSizes}
use Rattle.code_fits.specs.Room.{HasRoom}
use Rattle.code_fits.specs.Sizes.{kept_sizes}
use Rattle.code_fits.specs.Tables.{LayoutsFit, bound_of, layout_of}
use Rattle.code_fits.proofs.Refusals.{program-refused}
use Rattle.code_fits.proofs.program.tested.Goals as goal

pub returns-in-Err-state_bytes-clause-refused : goal.returns-in-Err-state_bytes-clause-refused
returns-in-Err-state_bytes-clause-refused c =
    let t = c.args.net.now in
    let ts = c.bounds_of.new.types in
    let ns = c.in-Ok.bounds in
    let fs = c.args.functions in
    let Ls = c.args.layouts.all in
    let r = c.in-Err-state_bytes.refused in
    program-refused t c.args.most fs Ls ts ns r c.requires c.in_default.ensures.table
    (subst (λ bs. LayoutsFit ts bs fs.items Ls.items) c.as_slice-3.ensures.value
    (subst (λ gs. LayoutsFit ts c.as_slice-3.result.now gs Ls.items) c.as_slice-4.ensures.value
    (subst (λ Ms. LayoutsFit ts c.as_slice-3.result.now c.as_slice-4.result.now Ms) c.as_slice-5.ensures.value c.in_default.ensures.layouts)))
    (subst (λ gs. HasWhole t ts gs Ls.items) c.as_slice-4.ensures.value
    (subst (λ Ms. HasWhole t ts c.as_slice-4.result.now Ms) c.as_slice-5.ensures.value c.in_default.ensures.whole))
    (subst (λ bs. HasRoom (bound_of ts bs) c.args.most t.input) c.as_slice-3.ensures.value c.in_default.ensures.room)
    (subst (λ bs. AllBelow (2 ^ 32) bs) c.as_slice-3.ensures.value c.in_default.ensures.small)
    (subst (λ bs. RefusesSizes (kept_sizes (bound_of ts bs) fs.items (map (layout_of ts) Ls.items)) Ls.items r) c.as_slice-8.ensures.value
    (subst (λ gs. RefusesSizes (kept_sizes (bound_of ts c.as_slice-8.result.now) gs (map (layout_of ts) Ls.items)) Ls.items r) c.as_slice-6.ensures.value
    (subst (λ Ms. RefusesSizes (kept_sizes (bound_of ts c.as_slice-8.result.now) c.as_slice-6.result.now (map (layout_of ts) Ms)) Ms r) c.as_slice-7.ensures.value
    c.in-Err-state_bytes.ensures.refused)))
