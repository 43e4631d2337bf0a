-- Objects that represent values.
use Rattle.std.proofs.Common.{◌≡◌, ◌<◌, ◌^◌, ℕ, zero, suc, pos, Bool, true, ◌&&◌, List, [], ◌∷◌, ◌++◌, get_or, Some, None, refl, subst, ap₂, arith}
use Rattle.std.specs.Prelude.{slice_get}
use Rattle.sample_core.specs.Datum.{Datum, Datums, unit}
use Rattle.sample_core.specs.TypeTree.{TypeTree, unit_ty, bool_ty, int_ty, pair_ty, event_ty, list_ty}
use Rattle.leaf_code.specs.Running.{zero_of}
use Rattle.leaf_code.specs.Fitting.{Bounds}
use Rattle.c_meaning.specs.Object.{u32, Object, has_type, each_has, in_range, zeros, repeated}
use Rattle.c_meaning.proofs.Wrapping.{fits-range}
use Rattle.c_leaf.specs.Representing.{c_type, Represents, c_unit, c_bool, c_int, c_pair, c_no_event, c_event, c_list, AllRepresent, c_end, c_more, Registers, no_register, and_register}

pub and-yes : {a b : Bool} → a ≡ true → b ≡ true → (a && b) ≡ true
and-yes e f = ap₂ ◌&&◌ e f

-- two types' members
pub count-range : (k : ℕ) → k < 2 ^ 32 → in_range u32 (pos k) ≡ true
count-range k h = small k h
  where
    small : (k : ℕ) → k < 2 ^ 32 → in_range u32 (pos k) ≡ true
    small k h = grind arith

mutual
  pub has : (n : Bounds) {A : TypeTree} {v : Datum} {o : Object} → Represents n A v o → has_type (c_type n A) o ≡ true
  has n c_unit = refl
  has n c_bool = refl
  has n (c_int {z = z} f) = fits-range z f
  has n (c_pair h k) = and-yes (has n h) (and-yes (has n k) refl)
  has n (c_no_event e) = and-yes refl (and-yes e refl)
  has n (c_event h) = and-yes refl (and-yes (has n h) refl)
  has n (c_list {k = k} e l h) = and-yes (count-range k l) (and-yes (all-have n h) refl)

  pub all-have : (n : Bounds) {A : TypeTree} {m : ℕ} {vs : Datums} {o : Object} → AllRepresent n A m vs o → each_has (has_type (c_type n A)) m o ≡ true
  all-have n (c_end e) = e
  all-have n (c_more h hs) = and-yes (has n h) (all-have n hs)

pub repeated-has : (f : Object → Bool) (m : ℕ) (o : Object) → f o ≡ true → each_has f m (repeated m o) ≡ true
repeated-has f zero o e = refl
repeated-has f (suc m) o e = and-yes e (repeated-has f m o e)

pub zeros-represent : (n : Bounds) (A : TypeTree) → Represents n A (zero_of A) (zeros (c_type n A))
zeros-represent n unit_ty = c_unit
zeros-represent n bool_ty = c_bool
zeros-represent n int_ty = c_int (grind arith)
zeros-represent n (pair_ty A B) = c_pair (zeros-represent n A) (zeros-represent n B)
zeros-represent n (event_ty A) = c_no_event (has n (zeros-represent n A))
zeros-represent n (list_ty A) = c_list refl (omega arith) (c_end (repeated-has _ (n A) _ (has n (zeros-represent n A))))

-- register k
pub record Found (n : TypeTree → ℕ) (A : TypeTree) (v : Datum) (os : List Object) (k : ℕ) : Type 0 where
  pub object : Object
  pub at : slice_get os k ≡ Some object
  pub represents : Represents n A v object

nothing-there : {A : TypeTree} {P : Type 0} → None ≡ Some A → P
nothing-there e = absurd (grind arith)

same-some : {A B : TypeTree} → Some A ≡ Some B → A ≡ B
same-some e = cc

pub find : (n : Bounds) {As : List TypeTree} {vs : List Datum} {os : List Object} {A : TypeTree} (k : ℕ) → Registers n As vs os → slice_get As k ≡ Some A
    → Found n A (get_or vs k unit) os k
find n k no_register e = nothing-there e
find n zero (and_register {v = v} {o = o} h hs) e = record { object = o; at = refl; represents = subst (λ B. Represents n B v o) (same-some e) h }
find n (suc k) (and_register h hs) e =
    let r = find n k hs e in record { object = r.object; at = r.at; represents = r.represents }

pub append-register : (n : Bounds) {As : List TypeTree} {vs : List Datum} {os : List Object} {A : TypeTree} {v : Datum} {o : Object}
    → Registers n As vs os → Represents n A v o → Registers n (As ++ A ∷ []) (vs ++ v ∷ []) (os ++ o ∷ [])
append-register n no_register h = and_register h no_register
append-register n (and_register k ks) h = and_register k (append-register n ks h)
