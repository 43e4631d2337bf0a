-- What C does: the rules of C99 for this syntax. What C leaves undefined, or to the compiler, has no
-- result. Two things are left to a compiler, which refuses the text or is never asked: that nothing
-- that is `const` is written, and that a side of `?:` that is a struct, or isn't set, has the type of
-- the other.
use Rattle.std.specs.Prelude.{ℕ, zero, suc, ℤ, pos, ◌+ℤ◌, ◌-ℤ◌, ◌*ℤ◌, nat_eq, int_lt, int_le, ◌^◌, ◌%◌, Bool, true, false, not, ◌&&◌, if◌then◌else◌, List, [], ◌∷◌, ◌++◌, take, length, slice_get, set, Option, Some, None}
use Rattle.std.specs.Int.{int_rem_euclid}
use Rattle.std.specs.Ordering.{int_eq}
use Rattle.c_meaning.specs.Object.{Scalar, u8, i64, u64, u32, CType, truth_type, number_type, Object, unset, truth, number, end, more, same_scalar, in_range, fresh, zeros, has_type, part_of, part_at, with_part, with_part_at, like}
use Rattle.c_meaning.specs.Syntax.{Operator, plus, minus, times, remainder, less, at_most, equals, Term, local, dot, at, boolean, literal, zeroed, none, braced, binary, inverse, both, either, choice, cast, Parameter, value_param, const_param, pointer_param, Argument, by_value, by_const, by_pointer, Command, skip, sequence, declare, define, refer, assign, call, branch, loop, answer, Function, File}

-- what goes on with a result, if there is one
abbrev pub bind : {A B : Type 0} → Option A → (A → Option B) → Option B
bind None f = None
bind (Some a) f = f a

-- a number, if the type has it
abbrev pub checked : Scalar → ℤ → Option Object
checked T z = if in_range T z then Some (number T z) else None

-- a sum, a difference or a product: modulo 2^64 of `uint64_t`. Of `uint32_t` the number itself, since
-- whether it wraps hangs on the size of `int`; of `int64_t` an overflow is undefined
abbrev pub arithmetic : Scalar → ℤ → Option Object
arithmetic u64 z = Some (number u64 (int_rem_euclid z (pos (2 ^ 64))))
arithmetic i64 z = checked i64 z
arithmetic u32 z = checked u32 z
arithmetic u8 z = None

-- of two natural numbers; a remainder by 0 is undefined
abbrev pub remainder_of : Scalar → ℤ → ℤ → Option Object
remainder_of T (pos a) (pos (suc b)) = Some (number T (pos (a % suc b)))
remainder_of T _ _ = None

abbrev pub compute : Operator → Scalar → ℤ → ℤ → Option Object
compute plus T a b = arithmetic T (a +ℤ b)
compute minus T a b = arithmetic T (a -ℤ b)
compute times T a b = arithmetic T (a *ℤ b)
compute remainder T a b = remainder_of T a b
compute less T a b = Some (truth (int_lt a b))
compute at_most T a b = Some (truth (int_le a b))
compute equals T a b = Some (truth (int_eq a b))

-- two numbers of this type
abbrev pub operate : Operator → Scalar → Object → Object → Option Object
operate o T (number S a) (number R b) =
    if same_scalar T S && same_scalar T R then compute o T a b else None
operate o T _ _ = None

-- to `uint64_t` modulo 2^64; else the number itself
abbrev pub convert : Scalar → ℤ → Option Object
convert u64 z = Some (number u64 (int_rem_euclid z (pos (2 ^ 64))))
convert i64 z = checked i64 z
convert u32 z = checked u32 z
convert u8 z = checked u8 z

abbrev pub converted : Scalar → Object → Option Object
converted T (number S z) = convert T z
converted T _ = None

abbrev pub inverted : Object → Option Object
inverted (truth b) = Some (truth (not b))
inverted _ = None

-- a truth
abbrev pub a_truth : Object → Option Object
a_truth (truth b) = Some (truth b)
a_truth _ = None

-- the second is looked at only where the first hasn't settled it
abbrev pub both_of : Object → Option Object → Option Object
both_of (truth true) r = bind r a_truth
both_of (truth false) r = Some (truth false)
both_of _ r = None

abbrev pub either_of : Object → Option Object → Option Object
either_of (truth true) r = Some (truth true)
either_of (truth false) r = bind r a_truth
either_of _ r = None

abbrev pub choice_of : Object → Option Object → Option Object → Option Object
choice_of (truth true) r s = r
choice_of (truth false) r s = s
choice_of _ r s = None

-- the type of a `bool` or a number. Of what is not set none is known, and a struct has none here
abbrev pub basic_in : Option Object → Option CType
basic_in (Some (truth b)) = Some truth_type
basic_in (Some (number T z)) = Some (number_type T)
basic_in _ = None

abbrev pub same_basic : CType → CType → Bool
same_basic truth_type truth_type = true
same_basic (number_type S) (number_type T) = same_scalar S T
same_basic _ _ = false

-- two types are one, where both are known
abbrev pub one_type : Option CType → Option CType → Bool
one_type (Some A) (Some B) = same_basic A B
one_type _ _ = true

-- of a test and of a sum
abbrev pub basic_result : Operator → Scalar → CType
basic_result less T = truth_type
basic_result at_most T = truth_type
basic_result equals T = truth_type
basic_result _ T = number_type T

abbrev pub first_known : Option CType → Option CType → Option CType
first_known (Some A) r = Some A
first_known None r = r

-- a scalar that is not set has no value; a struct has, whatever its members hold
abbrev pub is_set : Object → Option Object
is_set unset = None
is_set o = Some o

-- a literal that its type has
abbrev pub literal_of : Scalar → ℤ → Option Object
literal_of T z = checked T z

-- the objects of a function's locals, parameters first
abbrev pub Frame : Type 0
Frame = List Object

-- what stands at such a place, wherever an index leads
abbrev pub like_place : Frame → Term → Option Object
like_place f (local k) = slice_get f k
like_place f (dot e k) = bind (like_place f e) (λ o. part_of o k)
like_place f (at e i) = bind (like_place f e) (λ o. part_of o 0)
like_place f (zeroed T) = Some (zeros T)
like_place f _ = None

-- the type of an expression, if it is a `bool` or a number
abbrev pub basic_of : Frame → Term → Option CType
basic_of f (boolean b) = Some truth_type
basic_of f (literal T z) = Some (number_type T)
basic_of f (binary o T a b) = Some (basic_result o T)
basic_of f (inverse e) = Some truth_type
basic_of f (both a b) = Some truth_type
basic_of f (either a b) = Some truth_type
basic_of f (choice c a b) = first_known (basic_of f a) (basic_of f b)
basic_of f (cast T e) = Some (number_type T)
basic_of f e = basic_in (like_place f e)

-- what an expression designates or computes. A scalar that is read must be set, also where it becomes a
-- part of a struct; one that is pointed to needn't be
abbrev pub eval : Frame → Term → Option Object
eval f (local k) = slice_get f k
eval f (dot e k) = bind (eval f e) (λ o. part_of o k)
eval f (at e i) = bind (eval f e) (λ o. bind (eval f i) (λ v. part_at o v))
eval f (boolean b) = Some (truth b)
eval f (literal T z) = literal_of T z
eval f (zeroed T) = Some (zeros T)
eval f none = Some end
eval f (braced e es) =
    bind (bind (eval f e) is_set) (λ o. bind (eval f es) (λ os. Some (more o os)))
eval f (binary o T a b) = bind (eval f a) (λ v. bind (eval f b) (λ w. operate o T v w))
eval f (inverse e) = bind (eval f e) inverted
eval f (both a b) = bind (eval f a) (λ v. both_of v (eval f b))
eval f (either a b) = bind (eval f a) (λ v. either_of v (eval f b))
-- sides of two types would be converted
eval f (choice c a b) =
    if one_type (basic_of f a) (basic_of f b)
    then bind (eval f c) (λ v. choice_of v (eval f a) (eval f b)) else None
eval f (cast T e) = bind (eval f e) (converted T)

-- an object's value
abbrev pub value : Frame → Term → Option Object
value f e = bind (eval f e) is_set

-- an object in the place of one that is like it
abbrev pub replaced : Frame → ℕ → Object → Object → Option Frame
replaced f k o v = if like o v then Some (set f k v) else None

-- the locals after a place holds another object
abbrev pub write : Frame → Term → Object → Option Frame
write f (local k) v = bind (slice_get f k) (λ o. replaced f k o v)
write f (dot e k) v = bind (eval f e) (λ o. bind (with_part o k v) (write f e))
write f (at e i) v = bind (eval f e) (λ o. bind (eval f i) (λ n. bind (with_part_at o n v) (write f e)))
write f _ v = None

-- a function: of its parameters' objects those afterwards, and the result
abbrev pub Linked : Type 0
Linked = List Object → Option (List Object × Object)

-- what is passed: of a pointer the object that it points to
abbrev pub given : Frame → Argument → Option Object
given f (by_value e) = value f e
given f (by_const e) = eval f e
given f (by_pointer e) = eval f e

-- where a term leads: the local, and the members on the way; all elements of an array count as one
abbrev pub path : Term → List ℕ
path (local k) = k ∷ []
path (dot e k) = path e ++ k ∷ []
path (at e i) = path e
path _ = []

-- objects that have nothing in common
abbrev pub apart : List ℕ → List ℕ → Bool
apart (j ∷ js) (k ∷ ks) = if nat_eq j k then apart js ks else true
apart _ _ = false

-- an object that is written through its pointer has nothing in common with what is read
abbrev pub unread : Term → List Argument → Bool
unread e [] = true
unread e (by_value v ∷ as1) = unread e as1
unread e (by_const v ∷ as1) = apart (path e) (path v) && unread e as1
unread e (by_pointer v ∷ as1) = apart (path e) (path v) && unread e as1

abbrev pub unwritten : Term → List Argument → Bool
unwritten e [] = true
unwritten e (by_pointer v ∷ as1) = apart (path e) (path v) && unwritten e as1
unwritten e (a ∷ as1) = unwritten e as1

-- so that to pass by pointer is to pass a copy, and to put it back
abbrev pub all_apart : List Argument → Bool
all_apart [] = true
all_apart (by_value e ∷ as1) = all_apart as1
all_apart (by_const e ∷ as1) = unwritten e as1 && all_apart as1
all_apart (by_pointer e ∷ as1) = unread e as1 && all_apart as1

-- what arguments hold
abbrev pub passed : Frame → List Argument → Option (List Object)
passed f [] = Some []
passed f (a ∷ as1) = bind (given f a) (λ o. bind (passed f as1) (λ os. Some (o ∷ os)))

-- what was passed by pointer is put back
abbrev pub put_back : Frame → List Argument → List Object → Option Frame
put_back f [] os = Some f
put_back f (by_pointer e ∷ as1) (o ∷ os) = bind (write f e o) (λ g. put_back g as1 os)
put_back f (a ∷ as1) (o ∷ os) = put_back f as1 os
put_back f (a ∷ as1) [] = None

-- the locals that a command writes, itself or through a pointer that it passes
abbrev pub root : Term → List ℕ
root (local k) = k ∷ []
root (dot e k) = root e
root (at e i) = root e
root _ = []

abbrev pub passed_roots : List Argument → List ℕ
passed_roots [] = []
passed_roots (by_pointer e ∷ as1) = root e ++ passed_roots as1
passed_roots (a ∷ as1) = passed_roots as1

abbrev pub written : Command → List ℕ
written (sequence a b) = written a ++ written b
written (assign e v) = root e
written (call T k as1) = passed_roots as1
written (branch c a b) = written a ++ written b
written (loop n c a) = written a
written _ = []

-- whether a local is none of these
abbrev pub is_none_of : ℕ → List ℕ → Bool
is_none_of k [] = true
is_none_of k (j ∷ js) = not (nat_eq k j) && is_none_of k js

-- what a command comes to: the locals, and what was returned
abbrev pub Outcome : Type 0
Outcome = Option (Frame × Option Object)

-- goes on, unless something was returned
abbrev pub go_on : (Frame → Outcome) → Frame × Option Object → Outcome
go_on g (f, None) = g f
go_on g (f, Some o) = Some (f, Some o)

-- one local more, of this type
abbrev pub pushed : CType → Frame → Object → Outcome
pushed T f o = if has_type T o then Some (f ++ o ∷ [], None) else None

-- at the end of a block the locals that it declared are gone
abbrev pub leave : Frame → Frame × Option Object → Outcome
leave f r = Some (take (length f) r.0, r.1)

-- a block, by a truth
abbrev pub by_truth : Object → Outcome → Outcome → Outcome
by_truth (truth true) r s = r
by_truth (truth false) r s = s
by_truth _ r s = None

-- from i on so many times, while a test holds
abbrev pub looped : (Frame → Option Object) → (Frame → Outcome) → ℕ → ℕ → Frame → Outcome
looped c g zero i f = Some (f, None)
looped c g (suc n) i f =
    bind (c (f ++ number u32 (pos i) ∷ []))
    (λ v. by_truth v
    (bind (bind (g (f ++ number u32 (pos i) ∷ [])) (leave f)) (go_on (looped c g n (suc i))))
    (Some (f, None)))

module _ (F : ℕ → Linked) where
  -- the result of a call, with what was put back
  abbrev pub called : CType → Frame → List Argument → List Object × Object → Outcome
  called T f as1 r = bind (put_back f as1 r.0) (λ g. pushed T g r.1)

  abbrev pub run : Command → Frame → Outcome
  run skip f = Some (f, None)
  run (sequence a b) f = bind (run a f) (go_on (run b))
  run (declare T) f = pushed T f (fresh T)
  run (define T e) f = bind (value f e) (pushed T f)
  run (refer T e) f = bind (eval f e) (pushed T f)
  run (assign e v) f = bind (value f v) (λ o. bind (write f e o) (λ g. Some (g, None)))
  run (call T k as1) f =
      if all_apart as1 then bind (passed f as1) (λ os. bind (F k os) (called T f as1)) else None
  run (branch c a b) f =
      bind (value f c) (λ v. by_truth v (bind (run a f) (leave f)) (bind (run b f) (leave f)))
  -- the counter, which is the next local, is not written
  run (loop n c a) f =
      if is_none_of (length f) (written a) && in_range u32 (pos n)
      then looped (λ g. value g c) (run a) n 0 f else None
  run (answer e) f = bind (value f e) (λ o. Some (f, Some o))

-- the locals to parts of which a command keeps pointers
abbrev pub referred : Command → List ℕ
referred (sequence a b) = referred a ++ referred b
referred (refer T e) = root e
referred (branch c a b) = referred a ++ referred b
referred (loop n c a) = referred a
referred _ = []

-- whether two lists share nothing
abbrev pub none_shared : List ℕ → List ℕ → Bool
none_shared [] ws = true
none_shared (k ∷ ks) ws = is_none_of k ws && none_shared ks ws

-- what a pointer to `const` leads to is never written: so that it is what it was
abbrev pub steady : Command → Bool
steady c = none_shared (referred c) (written c)

-- the type of a parameter's object
abbrev pub param_type : Parameter → CType
param_type (value_param T) = T
param_type (const_param T) = T
param_type (pointer_param T) = T

-- whether objects are of the parameters' types
abbrev pub all_have : List Parameter → List Object → Bool
all_have [] [] = true
all_have (p ∷ ps) (o ∷ os) = has_type (param_type p) o && all_have ps os
all_have _ _ = false

-- a function returns, and its result is of its type
abbrev pub returned : CType → ℕ → Frame × Option Object → Option (List Object × Object)
returned T n (f, None) = None
returned T n (f, Some o) = if has_type T o then Some (take n f, o) else None

-- a function over earlier ones
abbrev pub function_run : (ℕ → Linked) → Function → Linked
function_run F h os =
    if all_have h.params os && steady h.body
    then bind (run F h.body os) (returned h.result (length os)) else None

-- a function that is not there
abbrev pub no_function : Linked
no_function os = None

abbrev pub numbered : List Linked → ℕ → Linked
numbered fs k = elim (slice_get fs k) [ None ↦ no_function | Some g ↦ g ]

-- functions, each over the earlier ones, behind these
abbrev pub link : List Linked → File → List Linked
link fs [] = fs
link fs (h ∷ hs) = link (fs ++ function_run (numbered fs) h ∷ []) hs
