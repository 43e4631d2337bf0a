-- A collection's members, on two sides.
use Rattle.std.proofs.Common.{◌≡◌, ◌≤◌, ℕ, pos, ◌-ℤ◌, Bool, true, false, not, List, Some, refl, ap, ◌∙◌}
use Rattle.sample_core.specs.TypeTree.{TypeTree}
use Rattle.leaf_code.specs.Fitting.{Bounds}
use Rattle.net_code.specs.Running.{Given}
use Rattle.c_meaning.specs.Object.{CType, number_type, member, array, Scalar, u32, Object, number, more, has_type, part_of, with_part, part_at, with_part_at}
use Rattle.c_meaning.specs.Syntax.{Term, dot}
use Rattle.c_meaning.specs.Syntax as C
use Rattle.c_meaning.specs.Meaning.{Frame, Linked, bind, eval, write, arithmetic}
use Rattle.c_meaning.proofs.Alike.{yes-and}
use Rattle.c_leaf.specs.Representing.{c_type}
use Rattle.c_forms.specs.Keeping.{Shape, shape_type, entry_type, collection_type, collection_object, two_sides, side_number, most_members}
use Rattle.c_forms.specs.Standing.{InScope}
use Rattle.c_forms.specs.Collection.{sides_of, running_of, spare_of}
use Rattle.c_forms.proofs.Lines.{at, member-range, side-range, sides-have, front-of, write-state}

-- what a place holds, and what is written there
module _ (f : Frame) where
  pub eval-at : (p t : Term) {S : Scalar} (a v : Object) (k : ℕ) → eval f p ≡ Some a → eval f t ≡ Some (number S (pos k)) → part_of a k ≡ Some v → eval f (C.at p t) ≡ Some v
  eval-at p t a v k ea et ev = ap (λ A. bind A (λ o. bind (eval f t) (λ w. part_at o w))) ea ∙ ap (λ I. bind I (λ w. part_at a w)) et ∙ ev

  pub eval-dot : (p : Term) (a v : Object) (k : ℕ) → eval f p ≡ Some a → part_of a k ≡ Some v → eval f (dot p k) ≡ Some v
  eval-dot p a v k ea ev = ap (λ A. bind A (λ o. part_of o k)) ea ∙ ev

  pub write-at : (g : Frame) (p t : Term) {S : Scalar} (a b v : Object) (k : ℕ) → eval f p ≡ Some a → eval f t ≡ Some (number S (pos k)) → with_part a k v ≡ Some b → write f p b ≡ Some g
      → write f (C.at p t) v ≡ Some g
  write-at g p t a b v k ea et ew eg =
      ap (λ A. bind A (λ o. bind (eval f t) (λ w. bind (with_part_at o w v) (write f p)))) ea ∙ ap (λ I. bind I (λ w. bind (with_part_at a w v) (write f p))) et
      ∙ ap (λ W. bind W (write f p)) ew ∙ eg

  pub write-dot : (g : Frame) (p : Term) (a b v : Object) (k : ℕ) → eval f p ≡ Some a → with_part a k v ≡ Some b → write f p b ≡ Some g → write f (dot p k) v ≡ Some g
  write-dot g p a b v k ea ew eg = ap (λ A. bind A (λ o. bind (with_part o k v) (write f p))) ea ∙ ap (λ W. bind W (write f p)) ew ∙ eg

current-is : (z : Bool) (a b : Object) → part_of (two_sides z a b) (side_number z) ≡ Some a
current-is false a b = refl
current-is true a b = refl

spare-is : (z : Bool) (a b : Object) → part_of (two_sides z a b) (side_number (not z)) ≡ Some b
spare-is false a b = refl
spare-is true a b = refl

with-current : (z : Bool) (a b v : Object) → with_part (two_sides z a b) (side_number z) v ≡ Some (two_sides z v b)
with-current false a b v = refl
with-current true a b v = refl

with-spare : (z : Bool) (a b v : Object) → with_part (two_sides z a b) (side_number (not z)) v ≡ Some (two_sides z a v)
with-spare false a b v = refl
with-spare true a b v = refl

pub other-number : (z : Bool) → arithmetic u32 (pos 1 -ℤ pos (side_number z)) ≡ Some (number u32 (pos (side_number (not z))))
other-number false = refl
other-number true = refl

pub swapped : (z : Bool) (a b : Object) → two_sides z a b ≡ two_sides (not z) b a
swapped false a b = refl
swapped true a b = refl

-- a member's parts
pub record EntryParts (V T M : CType) (o : Object) : Type 0 where
  pub origin : Object
  pub by : Object
  pub taker : Object
  pub all : Object
  pub is : o ≡ more origin (more by (more taker all))
  pub has_origin : has_type (number_type u32) origin ≡ true
  pub has_by : has_type V by ≡ true
  pub has_taker : has_type T taker ≡ true
  pub has_all : has_type M all ≡ true

pub entry-parts : (V T M : CType) (o : Object) → has_type (entry_type V T M) o ≡ true → EntryParts V T M o
entry-parts V T M o t =
    let m1 = front-of (number_type u32) (member V (member T M)) o t in
    let m2 = front-of V (member T M) m1.b m1.has_b in
    let m3 = front-of T M m2.b m2.has_b in
    record {
      origin = m1.a;
      by = m2.a;
      taker = m3.a;
      all = m3.b;
      is = m1.is ∙ ap (more m1.a) (m2.is ∙ ap (more m2.a) m3.is);
      has_origin = m1.has_a;
      has_by = m2.has_a;
      has_taker = m3.has_a;
      has_all = m3.has_b;
    }

module _ (n : Bounds) (Ps : List TypeTree) (Os : List Shape) (F : ℕ → Linked) (g : Given) (qs : List Object) (h : InScope n Ps Os g qs) (V : TypeTree) (M T : Shape) where
  abbrev pub E : CType
  E = entry_type (c_type n V) (shape_type n T) (shape_type n M)

  abbrev pub all-type : CType
  all-type = collection_type E

  abbrev pub side-type : CType
  side-type = array most_members E

  abbrev pub spot : Object → Object → Object → List Object → Frame
  spot o d i rs = at n Ps Os F g qs h o d i rs

  pub all-has : (c : ℕ) (z : Bool) (a b : Object) → c ≤ most_members → has_type side-type a ≡ true → has_type side-type b ≡ true → has_type all-type (collection_object c z a b) ≡ true
  all-has c z a b l ha hb = yes-and (member-range c l) (yes-and (side-range z) (yes-and (sides-have side-type z a b ha hb) refl))

  pub running : (c : ℕ) (z : Bool) (a b d i : Object) (rs : List Object) → eval (spot (collection_object c z a b) d i rs) running_of ≡ Some a
  running c z a b d i rs = current-is z a b

  pub spare : (c : ℕ) (z : Bool) (a b d i : Object) (rs : List Object) → eval (spot (collection_object c z a b) d i rs) spare_of ≡ Some b
  spare c z a b d i rs = ap (λ I. bind I (λ w. part_at (two_sides z a b) w)) (other-number z) ∙ spare-is z a b

  pub write-running : (c : ℕ) (z : Bool) (a b v d i : Object) (rs : List Object) → c ≤ most_members → has_type side-type a ≡ true → has_type side-type b ≡ true → has_type side-type v ≡ true
      → write (spot (collection_object c z a b) d i rs) running_of v ≡ Some (spot (collection_object c z v b) d i rs)
  write-running c z a b v d i rs l ha hb hv =
      ap (λ W. bind W (write (spot (collection_object c z a b) d i rs) sides_of)) (with-current z a b v)
      ∙ write-state n Ps Os F g qs h all-type (collection_object c z a b) (collection_object c z v b) d i rs (all-has c z a b l ha hb) (all-has c z v b l hv hb)

  pub write-spare : (c : ℕ) (z : Bool) (a b v d i : Object) (rs : List Object) → c ≤ most_members → has_type side-type a ≡ true → has_type side-type b ≡ true → has_type side-type v ≡ true
      → write (spot (collection_object c z a b) d i rs) spare_of v ≡ Some (spot (collection_object c z a v) d i rs)
  write-spare c z a b v d i rs l ha hb hv =
      ap (λ I. bind I (λ w. bind (with_part_at (two_sides z a b) w v) (write (spot (collection_object c z a b) d i rs) sides_of))) (other-number z)
      ∙ ap (λ W. bind W (write (spot (collection_object c z a b) d i rs) sides_of)) (with-spare z a b v)
      ∙ write-state n Ps Os F g qs h all-type (collection_object c z a b) (collection_object c z a v) d i rs (all-has c z a b l ha hb) (all-has c z a v l ha hv)
