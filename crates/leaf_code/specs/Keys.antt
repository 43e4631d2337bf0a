-- When an operation was computed already: it is known by its key.
use Rattle.std.specs.Prelude.{ℕ, suc, ℤ, pos, nat_eq, ltb, Bool, true, false, ◌&&◌, if◌then◌else◌, List, [], ◌∷◌, Option, Some, None}
use Rattle.std.specs.Ordering.{int_eq}
use Rattle.sample_core.specs.TypeTree.{TypeTree}
use Rattle.leaf_core.specs.TypeLimits.{same_tree}
use Rattle.leaf_code.specs.Operation.{Operation}
use Rattle.leaf_code.specs.Operation as O
use Rattle.leaf_code.specs.Running.{Step}
use Rattle.leaf_code.specs.declared.key.Key.{Key}

-- which operation, its registers, and its number
abbrev pub with_key : ℕ → ℕ → ℕ → ℕ → ℤ → Option Key
with_key o i j k z = Some (record { operation = o; first = i; second = j; third = k; number = z })

-- an operation on two registers
abbrev pub binary_key : ℕ → ℕ → ℕ → Option Key
binary_key o j k = with_key o j k 0 (pos 0)

-- on one
abbrev pub unary_key : ℕ → ℕ → Option Key
unary_key o j = with_key o j 0 0 (pos 0)

-- the key of an operation. A list, of any number of registers, has none
abbrev pub key_of : Operation → Option Key
key_of (O.param k) = with_key 0 0 0 0 (pos k)
key_of O.unit = with_key 1 0 0 0 (pos 0)
key_of (O.bool false) = with_key 2 0 0 0 (pos 0)
key_of (O.bool true) = with_key 3 0 0 0 (pos 0)
key_of (O.int z) = with_key 4 0 0 0 z
key_of (O.pair j k) = binary_key 5 j k
key_of (O.left j) = unary_key 6 j
key_of (O.right j) = unary_key 7 j
key_of (O.neg j) = unary_key 8 j
key_of (O.add j k) = binary_key 9 j k
key_of (O.sub j k) = binary_key 10 j k
key_of (O.mul j k) = binary_key 11 j k
key_of (O.less j k) = binary_key 12 j k
key_of (O.equal j k) = binary_key 13 j k
key_of (O.not j) = unary_key 14 j
key_of (O.and j k) = binary_key 15 j k
key_of (O.or j k) = binary_key 16 j k
key_of (O.choose c j k) = with_key 17 c j k (pos 0)
key_of O.no_event = with_key 18 0 0 0 (pos 0)
key_of (O.event j) = unary_key 19 j
key_of (O.is_event j) = unary_key 20 j
key_of (O.carried j) = unary_key 21 j
key_of (O.list js) = None
key_of (O.nth j k d) = with_key 22 j k d (pos 0)
key_of (O.len j) = unary_key 23 j

abbrev pub same_key : Key → Key → Bool
same_key a b =
    nat_eq a.operation b.operation
    && (nat_eq a.first b.first
    && (nat_eq a.second b.second && (nat_eq a.third b.third && int_eq a.number b.number)))

-- whether an operation has this key
abbrev pub has_key : Key → Option Key → Bool
has_key k None = false
has_key k (Some j) = same_key j k

-- whether all registers are below m
abbrev pub reads_below : ℕ → Key → Bool
reads_below m k = ltb k.first m && (ltb k.second m && ltb k.third m)

-- whether the step that sets register m gives what an operation of this key gives at type T, of registers
-- that were there
abbrev pub is_computed : ℕ → TypeTree → Key → Step → Bool
is_computed m T k s = has_key k (key_of s.operation) && (same_tree s.ty T && reads_below m k)

-- the first register that is set to that by steps, of which the first sets register m
abbrev pub register_of : TypeTree → Key → ℕ → List Step → Option ℕ
register_of T k m [] = None
register_of T k m (s ∷ ss) =
    if is_computed m T k s then Some m else register_of T k (suc m) ss
