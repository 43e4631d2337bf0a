-- The types of a layout's values.
use Rattle.std.proofs.Common.{◌≡◌, ℕ, zero, suc, List, [], ◌∷◌, get_or, Option, Some, None, refl, ap}
use Rattle.std.specs.List.{slice_get}
use Rattle.sample_core.specs.TypeTree.{unit_ty}
use Rattle.code_fits.specs.declared.types.Types.{Types}
use Rattle.code_fits.specs.Tables.{tree_at, trees_at}

pub value_found : (ts : Types) (ks : List ℕ) (k v : ℕ) → slice_get ks k ≡ Some v
    → get_or (trees_at ts ks) k unit_ty ≡ tree_at ts v
value_found ts [] k v e = absurd (cc)
value_found ts (j ∷ ks) zero v e = let same : j ≡ v = cc in ap (tree_at ts) same
value_found ts (j ∷ ks) (suc k) v e = value_found ts ks k v e

pub value_missing : (ts : Types) (ks : List ℕ) (k : ℕ) → slice_get ks k ≡ None
    → get_or (trees_at ts ks) k unit_ty ≡ unit_ty
value_missing ts [] k e = refl
value_missing ts (j ∷ ks) zero e = absurd (cc)
value_missing ts (j ∷ ks) (suc k) e = value_missing ts ks k e
