-- What values fit: lists, parameters, accumulators.
use Rattle.std.proofs.Common.{◌≤◌, ℕ, zero, suc, List, [], ◌∷◌, ◌++◌, length, take, sym, subst}
use Rattle.sample_core.specs.Datum.{Datum, list, list_of}
use Rattle.sample_core.specs.TypeTree.{TypeTree, pair_ty, event_ty, list_ty}
use Rattle.sample_core.proofs.Elements.{elements_of_list}
use Rattle.leaf_code.specs.Fitting.{Bounds, Fits, AllFit, pair_fits, no_event_fits, event_fits, list_fits, ParamsFit, no_param, and_param}
use Rattle.net_meaning.specs.SignalFunction.{latest_event, if_event}
use Rattle.cell_core.specs.Cell.{Cell}
use Rattle.cell_core.specs.CellLaws.{put_in}
use Rattle.cell_core.specs.declared.form.Form.TheVariants as C
use Rattle.net_machine.specs.Store.{Moment, start, step}
use Rattle.net_machine.specs.Stepper.{cell_at}
use Rattle.code_fits.specs.Standing.{CellFits, accumulator_fits}
use Rattle.code_fits.proofs.Cells.{At, BothFit}

module _ (bound : Bounds) where
  pub listed : (B : TypeTree) (vs : List Datum) → length vs ≤ bound B → AllFit bound (list_of vs) B → Fits bound (list (list_of vs)) (list_ty B)
  listed B vs l h = list_fits (subst (λ us. length us ≤ bound B) (sym (elements_of_list vs)) l) h

  -- one parameter more
  pub params-push : {Ps : List TypeTree} {ps : List Datum} {V : TypeTree} {c : Datum} → ParamsFit bound Ps ps → Fits bound c V → ParamsFit bound (Ps ++ V ∷ []) (ps ++ c ∷ [])
  params-push no_param h = and_param h no_param
  params-push (and_param k ks) h = and_param k (params-push ks h)

  pub params-take : (n : ℕ) {Ps : List TypeTree} {ps : List Datum} → ParamsFit bound Ps ps → ParamsFit bound (take n Ps) (take n ps)
  params-take zero h = no_param
  params-take (suc n) no_param = no_param
  params-take (suc n) (and_param k ks) = and_param k (params-take n ks)

  accum-fits : (V U A : TypeTree) (g : Datum → Datum) (acc : Datum) {v : Datum} → ((w : Datum) → Fits bound w (pair_ty V U) → Fits bound (g w) V) → Fits bound acc V → Fits bound v (event_ty U)
      → Fits bound (latest_event acc (put_in g acc v ∷ [])) V
  accum-fits V U A g acc f h no_event_fits = h
  accum-fits V U A g acc f h (event_fits k) = f _ (pair_fits h k)

  accum-answer : (V U : TypeTree) (g : Datum → Datum) (acc w : Datum) {v : Datum} → Fits bound w V → Fits bound v (event_ty U) → Fits bound (if_event (put_in g acc v) w) (event_ty V)
  accum-answer V U g acc w h no_event_fits = no_event_fits
  accum-answer V U g acc w h (event_fits k) = event_fits h

  -- what an accumulator is at a sample
  pub accum-both : (V U : TypeTree) (g : Datum → Datum) (c : Datum) (k : Cell) (m : Moment) (v : Datum) → ((w : Datum) → Fits bound w (pair_ty V U) → Fits bound (g w) V) → Fits bound c V
      → Fits bound v (event_ty U) → At m (CellFits bound C.AccumBy V k) → BothFit bound C.AccumBy V (event_ty V) (cell_at C.AccumBy c g k m v)
  accum-both V U g c _ start v f h x k =
      let l : Fits bound (latest_event c (put_in g c v ∷ [])) V = accum-fits V U V g c f h x in (accumulator_fits l, accum-answer V U g c _ l x)
  accum-both V U g c _ (step d) v f h x k = later k.2
    where
      later : {k : Cell} → CellFits bound C.AccumBy V k → BothFit bound C.AccumBy V (event_ty V) (cell_at C.AccumBy c g k (step d) v)
      later (accumulator_fits {v = acc} i) =
          let l : Fits bound (latest_event acc (put_in g acc v ∷ [])) V = accum-fits V U V g acc f i x in (accumulator_fits l, accum-answer V U g acc _ l x)
