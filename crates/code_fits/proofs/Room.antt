-- Samples whose lists are short enough fit where there is room for these.
use Rattle.std.proofs.Common.{◌≤◌, ℕ, Bool, true, false, [], ◌∷◌, arith}
use Rattle.sample_core.specs.Datum.{Datum, Datums}
use Rattle.sample_core.specs.TypeTree.{TypeTree, unit_ty, bool_ty, int_ty, pair_ty, event_ty, list_ty}
use Rattle.leaf_code.specs.Fitting.{Bounds, Fits, AllFit, unit_fits, bool_fits, int_fits, pair_fits, no_event_fits, event_fits, list_fits, end_fits, more_fits}
use Rattle.net_meaning.specs.SignalFunction.{TimedList}
use Rattle.code_fits.specs.FitLaw.{SamplesFit}
use Rattle.code_fits.specs.Room.{HasRoom, all_at}

module _ (bound : Bounds) (most : ℕ) where
  mutual
    value-fits : {v : Datum} (A : TypeTree) → HasRoom bound most A → Fits (all_at most) v A → Fits bound v A
    value-fits unit_ty r unit_fits = unit_fits
    value-fits bool_ty r bool_fits = bool_fits
    value-fits int_ty r (int_fits h) = int_fits h
    value-fits (pair_ty A B) r (pair_fits h k) = pair_fits (value-fits A r.0 h) (value-fits B r.1 k)
    value-fits (event_ty A) r no_event_fits = no_event_fits
    value-fits (event_ty A) r (event_fits h) = event_fits (value-fits A r h)
    value-fits (list_ty A) r (list_fits l hs) = list_fits (omega (arith, l, r.0)) (all-fit A r.1 hs)

    all-fit : {vs : Datums} (A : TypeTree) → HasRoom bound most A → AllFit (all_at most) vs A → AllFit bound vs A
    all-fit A r end_fits = end_fits
    all-fit A r (more_fits h hs) = more_fits (value-fits A r h) (all-fit A r hs)

  pub samples-fit : (A : TypeTree) (b : Bool) (xs : TimedList) → HasRoom bound most A → SamplesFit (all_at most) A b xs → SamplesFit bound A b xs
  samples-fit A b [] r h = tt
  samples-fit A false (x ∷ xs) r h = (value-fits A r h.0, samples-fit A true xs r h.1)
  samples-fit A true (x ∷ xs) r h = (h.0, h.1, value-fits A r h.2, samples-fit A true xs r h.3)
