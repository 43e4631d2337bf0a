use Rattle.std.proofs.Common.{[], ◌∷◌, ◌++◌, drop, map, sym, ap, ◌∙◌, subst, arith}
use Rattle.code_fits.specs.Saturated.{AreSizes, saturated}
use Rattle.code_fits.specs.Sizes.{function_size, kept_sizes, own_size}
use Rattle.code_fits.specs.Tables.{bound_of, layout_of, tree_if}
use Rattle.code_fits.proofs.Folds.{placed}
use Rattle.code_fits.proofs.KeptSizes.{and-saturated, kept-all, kept-next}
use Rattle.code_fits.proofs.bytes.kept_bytes.Goals as goal

pub loop-k-preserved : goal.loop-k-preserved
loop-k-preserved c =
    let ts = c.args.types.now in
    let bound = bound_of ts c.args.bounds.now in
    let ns = c.loop-k.invariant.0 in
    let f = c.index-functions-k.result in
    let L = c.in_ok-layout.layout.now in
    let v = own_size bound (tree_if ts L.kept) in
    let own = c.in_ok-own.ensures ts c.args.bounds.now (subst (AreSizes ts c.args.bounds.now) (sym c.as_slice.ensures.value) c.in_ok-values.ensures) in
    let one = c.function_bytes-bytes.ensures v ns own (c.as_slice-in-loop-k.ensures.value ∙ c.loop-k.invariant.1) in (
      ns ++ function_size v ns f ∷ [],
      c.in_ok-push.ensures.items ∙ ap (λ xs. xs ++ c.function_bytes-bytes.result ∷ []) c.loop-k.invariant.1
          ∙ ap (λ n. map saturated ns ++ n ∷ []) one ∙ sym (and-saturated ns (function_size v ns f)),
      kept-next bound ts c.args.functions.now c.args.layouts.now ns (kept_sizes bound c.args.functions.now (map (layout_of ts) c.args.layouts.now)) c.loop-k.k f L
          (placed c.args.functions.now c.loop-k.k f c.loop-k-test.true c.index-functions-k.is) c.in_ok-layout.ensures c.loop-k.invariant.2,
    )

pub returns : goal.returns
returns c =
    let ts = c.args.types.now in
    let bound = bound_of ts c.args.bounds.now in
    c.loop-k.invariant.1
    ∙ ap (map saturated)
    (kept-all bound c.args.functions.now (map (layout_of ts) (drop c.loop-k.k c.args.layouts.now)) c.loop-k.invariant.0
    (kept_sizes bound c.args.functions.now (map (layout_of ts) c.args.layouts.now)) c.loop-k.k (omega arith) c.loop-k.invariant.2)
