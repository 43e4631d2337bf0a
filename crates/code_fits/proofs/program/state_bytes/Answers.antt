use Rattle.std.proofs.Common.{◌-◌, length, map, get_or, ap, ◌∙◌, subst}
use Rattle.code_fits.specs.Sizes.{IsFirstOver, NoneOver, kept_sizes}
use Rattle.code_fits.specs.Tables.{bound_of, layout_of}
use Rattle.code_fits.proofs.Refusals.{first-refused}
use Rattle.code_fits.proofs.Saturation.{first-over, state-of}
use Rattle.code_fits.proofs.program.state_bytes.Goals as goal

pub returns-in-Some-clause-refused : goal.returns-in-Some-clause-refused
returns-in-Some-clause-refused c =
    let ns = kept_sizes (bound_of c.args.types.now c.args.bounds.now) c.args.functions.now (map (layout_of c.args.types.now) c.args.layouts.now) in
    first-refused ns c.args.layouts.now c.in-Some.k c.too_large.result
    (first-over ns c.in-Some.k (subst (λ xs. IsFirstOver xs c.in-Some.k) (c.as_slice.ensures.value ∙ c.in-Ok.ensures) c.in-Some.ensures))
    c.too_large.ensures

pub returns-clause-fits : goal.returns-clause-fits
returns-clause-fits c =
    let ns = kept_sizes (bound_of c.args.types.now c.args.bounds.now) c.args.functions.now (map (layout_of c.args.types.now) c.args.layouts.now) in
    state-of ns c.last_of.result c.saturating_add.result
    (subst (λ xs. NoneOver xs (length xs)) (c.as_slice.ensures.value ∙ c.in-Ok.ensures) c.in-None.ensures)
    (c.last_of.ensures ∙ ap (λ xs. get_or xs (length xs - 1) 0) (c.as_slice-in-None.ensures.value ∙ c.in-Ok.ensures))
    c.saturating_add.ensures
