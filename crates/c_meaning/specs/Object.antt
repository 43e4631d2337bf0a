-- What the objects of C hold: trees of numbers.
use Rattle.std.specs.Prelude.{ℕ, zero, suc, ℤ, pos, neg_ℤ, ◌^◌, ◌-◌, ◌&&◌, int_le, nat_eq, Bool, true, false, Option, Some, None}

-- the types of numbers: `uint8_t`, `int64_t`, `uint64_t`, `uint32_t`
pub data Scalar : Type 0 where
  u8 : Scalar
  i64 : Scalar
  u64 : Scalar
  u32 : Scalar

-- types of objects; a struct is its members, one in front of others
pub data CType : Type 0 where
  truth_type : CType
  number_type : Scalar → CType
  no_member : CType
  member : CType → CType → CType
  array : ℕ → CType → CType

-- what an object holds
pub data Object : Type 0 where
  -- nothing yet: to read it has no result
  unset : Object
  -- a `bool`
  truth : Bool → Object
  -- a number, by its type
  number : Scalar → ℤ → Object
  -- the members of a struct, or the elements of an array, one in front of others
  end : Object
  more : Object → Object → Object

-- a number of each type
abbrev pub scalar_code : Scalar → ℕ
scalar_code u8 = 0
scalar_code i64 = 1
scalar_code u64 = 2
scalar_code u32 = 3

abbrev pub same_scalar : Scalar → Scalar → Bool
same_scalar S T = nat_eq (scalar_code S) (scalar_code T)

-- the least and the greatest number of a type
abbrev pub least : Scalar → ℤ
least i64 = neg_ℤ (pos (2 ^ 63))
least _ = pos 0

abbrev pub greatest : Scalar → ℤ
greatest u8 = pos 255
greatest i64 = pos (2 ^ 63 - 1)
greatest u64 = pos (2 ^ 64 - 1)
greatest u32 = pos (2 ^ 32 - 1)

abbrev pub in_range : Scalar → ℤ → Bool
in_range T z = int_le (least T) z && int_le z (greatest T)

-- so many of the same
abbrev pub repeated : ℕ → Object → Object
repeated zero o = end
repeated (suc n) o = more o (repeated n o)

-- an object that is declared without a value
abbrev pub fresh : CType → Object
fresh truth_type = unset
fresh (number_type S) = unset
fresh no_member = end
fresh (member A B) = more (fresh A) (fresh B)
fresh (array n A) = repeated n (fresh A)

-- an object that is initialised by `{0}`
abbrev pub zeros : CType → Object
zeros truth_type = truth false
zeros (number_type S) = number S (pos 0)
zeros no_member = end
zeros (member A B) = more (zeros A) (zeros B)
zeros (array n A) = repeated n (zeros A)

-- so many elements, each of which is of a type
abbrev pub each_has : (Object → Bool) → ℕ → Object → Bool
each_has f zero end = true
each_has f (suc n) (more o os) = f o && each_has f n os
each_has f n _ = false

-- whether what an object holds is of a type
abbrev pub has_type : CType → Object → Bool
has_type truth_type unset = true
has_type truth_type (truth b) = true
has_type (number_type S) unset = true
has_type (number_type S) (number T z) = same_scalar S T && in_range S z
has_type no_member end = true
has_type (member A B) (more o os) = has_type A o && has_type B os
has_type (array n A) o = each_has (has_type A) n o
has_type _ _ = false

-- part k of a struct or of an array
abbrev pub part_of : Object → ℕ → Option Object
part_of (more o os) zero = Some o
part_of (more o os) (suc k) = part_of os k
part_of _ k = None

-- one in front of others, if these are there
abbrev pub in_front : Object → Option Object → Option Object
in_front o None = None
in_front o (Some os) = Some (more o os)

-- the same with another part k
abbrev pub with_part : Object → ℕ → Object → Option Object
with_part (more o os) zero v = Some (more v os)
with_part (more o os) (suc k) v = in_front o (with_part os k v)
with_part _ k v = None

-- what an index says
abbrev pub part_at : Object → Object → Option Object
part_at o (number S (pos k)) = part_of o k
part_at o _ = None

-- the same with another part there
abbrev pub with_part_at : Object → Object → Object → Option Object
with_part_at o (number S (pos k)) v = with_part o k v
with_part_at o _ v = None

-- whether an object may take the place of another: scalars of one type, or as many members
abbrev pub like : Object → Object → Bool
like unset (truth b) = true
like unset (number S z) = true
like (truth b) unset = true
like (number S z) unset = true
like unset unset = true
like (truth b) (truth c) = true
like (number S y) (number T z) = same_scalar S T
like end end = true
like (more o os) (more v vs) = like o v && like os vs
like _ _ = false
