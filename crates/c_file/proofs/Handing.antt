-- There are objects for values that fit.
use Rattle.std.proofs.Common.{◌≡◌, ◌≤◌, ◌<◌, ◌^◌, ℕ, zero, suc, pos, Bool, true, false, List, [], ◌∷◌, length, refl, arith}
use Rattle.sample_core.specs.Datum.{Datum, Datums, elements}
use Rattle.sample_core.specs.TypeTree.{TypeTree}
use Rattle.leaf_code.specs.Fitting.{Bounds, Fits, unit_fits, bool_fits, int_fits, pair_fits, no_event_fits, event_fits, list_fits, AllFit, end_fits, more_fits}
use Rattle.net_meaning.specs.SignalFunction.{TimedList}
use Rattle.code_fits.specs.FitLaw.{SamplesFit}
use Rattle.c_meaning.specs.Object.{Scalar, u8, i64, u64, u32, CType, truth_type, number_type, no_member, member, array, Object, truth, number, zeros, repeated, has_type, each_has}
use Rattle.c_meaning.specs.Object as C
use Rattle.c_meaning.proofs.Alike.{yes-and}
use Rattle.c_leaf.specs.Representing.{two, c_type, Represents, c_unit, c_bool, c_int, c_pair, c_no_event, c_event, c_list, AllRepresent, c_end, c_more}
use Rattle.c_leaf.specs.LeafCLaw.{FewElements}
use Rattle.c_leaf.proofs.Values.{repeated-has}
use Rattle.c_file.specs.Samples.{Handed, handed, Hands, hands_none, hands_first, hands_next}

-- zeros are of their type
pub zeros-have : (T : CType) → has_type T (zeros T) ≡ true
zeros-have truth_type = refl
zeros-have (number_type u8) = refl
zeros-have (number_type i64) = refl
zeros-have (number_type u64) = refl
zeros-have (number_type u32) = refl
zeros-have no_member = refl
zeros-have (member A B) = yes-and (zeros-have A) (zeros-have B)
zeros-have (array n A) = repeated-has (has_type A) n (zeros A) (zeros-have A)

module _ (n : Bounds) (few : FewElements n) where
  mutual
    object-of : {v : Datum} {A : TypeTree} → Fits n v A → (o : Object) × Represents n A v o
    object-of unit_fits = (number u8 (pos 0), c_unit)
    object-of (bool_fits {b = b}) = (truth b, c_bool)
    object-of (int_fits {n = z} f) = (number i64 z, c_int f)
    object-of (pair_fits f g) = let a = object-of f in let b = object-of g in (two a.0 b.0, c_pair a.1 b.1)
    object-of (no_event_fits {A = A}) = (two (truth false) (zeros (c_type n A)), c_no_event (zeros-have (c_type n A)))
    object-of (event_fits f) = let a = object-of f in (two (truth true) a.0, c_event a.1)
    object-of (list_fits {vs = vs} {A = A} l f) =
        let a = objects-of (n A) l f in
        let s : n A < 2 ^ 32 = few A in
        (two (number u32 (pos (length (elements vs)))) a.0, c_list refl (omega arith) a.1)

    objects-of : {vs : Datums} {A : TypeTree} (m : ℕ) → length (elements vs) ≤ m → AllFit n vs A → (o : Object) × AllRepresent n A m vs o
    objects-of m l (end_fits {A = A}) = (repeated m (zeros (c_type n A)), c_end (repeated-has (has_type (c_type n A)) m (zeros (c_type n A)) (zeros-have (c_type n A))))
    objects-of zero l (more_fits f fs) = absurd (omega arith)
    objects-of (suc m) l (more_fits f fs) = let a = object-of f in let b = objects-of m (omega arith) fs in (C.more a.0 b.0, c_more a.1 b.1)

  -- objects for samples
  pub hands-for : (A B : TypeTree) (b : Bool) (xs : TimedList) → SamplesFit n A b xs → (hs : List Handed) × Hands n A B b xs hs
  hands-for A B b [] f = ([], hands_none)
  hands-for A B false (x ∷ xs) f =
      let i = object-of f.0 in
      let r = hands-for A B true xs f.1 in
      (handed (number i64 (pos 0)) i.0 (zeros (c_type n B)) ∷ r.0, hands_first refl i.1 (zeros-have (c_type n B)) r.1)
  hands-for A B true (x ∷ xs) f =
      let i = object-of f.2 in
      let r = hands-for A B true xs f.3 in
      (handed (number i64 (pos x.0)) i.0 (zeros (c_type n B)) ∷ r.0, hands_next f.0 f.1 i.1 (zeros-have (c_type n B)) r.1)
