-- The C function of `rpSwitchB`.
use Rattle.std.specs.Prelude.{◌≤◌, ◌^◌, ◌<◌, ◌+◌, ℕ, zero, suc, pos, List, [], ◌∷◌, ◌++◌, map, length}
use Rattle.sample_core.specs.Datum.{Datum}
use Rattle.sample_core.specs.TypeTree.{TypeTree, int_ty, pair_ty, event_ty, list_ty}
use Rattle.leaf_code.specs.Fitting.{Bounds}
use Rattle.net_machine.specs.Stepper.{Stepper, rp_switch_step}
use Rattle.net_code.specs.Running.{Given, given_value}
use Rattle.c_meaning.specs.Object.{number_type, i64, u64, u32}
use Rattle.c_meaning.specs.Syntax.{plus, minus, less, equals, Term, local, dot, at, literal, binary, both, choice, cast, Argument, by_value, by_const, by_pointer, Command, skip, sequence, declare, define, assign, call, branch, loop, answer, Function}
use Rattle.c_meaning.specs.Meaning.{Linked, function_run}
use Rattle.c_leaf.specs.Representing.{c_type}
use Rattle.c_leaf.specs.LeafCLaw.{Computes}
use Rattle.c_forms.specs.Keeping.{Shape, keeps_collection, most_members}
use Rattle.c_forms.specs.Standing.{Right, behind, param_args, old_args, scope_args, leaf_call, stepping}
use Rattle.c_forms.specs.Forms.{lines}
use Rattle.c_forms.specs.Cells.{kept_at, number_term, at_first}
use Rattle.c_forms.specs.Switches.{event_beside_of, value_beside}
use Rattle.c_forms.specs.Members.{members_shape, MembersRight}

abbrev pub count_term : ℕ → Term
count_term k = literal u32 (pos k)

-- how many members run, and on which side they stand
abbrev pub count_of : Term
count_of = kept_at 0

abbrev pub side_of : Term
side_of = kept_at 1

-- `s->m[s->side]`, and `s->m[1 - s->side]`
abbrev pub sides_of : Term
sides_of = kept_at 2

abbrev pub running_of : Term
running_of = at sides_of side_of

abbrev pub other_side : Term
other_side = binary minus u32 (count_term 1) side_of

abbrev pub spare_of : Term
spare_of = at sides_of other_side

-- of a member: which it is, the value that started it, what it keeps then; what written member k keeps
abbrev pub origin_of : Term → Term
origin_of e = dot e 0

abbrev pub started_by : Term → Term
started_by e = dot e 1

abbrev pub started_of : Term → Term
started_of e = dot e 2

abbrev pub written_of : ℕ → Term → Term
written_of k e = dot e (3 + k)

-- the count and the elements of a list
abbrev pub size_of_list : Term → Term
size_of_list e = dot e 0

abbrev pub element : Term → Term → Term
element e i = at (dot e 1) i

-- `e = e + 1;`
abbrev pub one_more : Term → Command
one_more e = assign e (binary plus u32 e (count_term 1))

-- `s->m[s->side][i].origin = i;` of so many members, from i on
abbrev pub origins : ℕ → ℕ → Command
origins i zero = skip
origins i (suc m) =
    sequence (assign (origin_of (at running_of (count_term i))) (count_term i)) (origins (suc i) m)

-- at the first sample the written members run
abbrev pub beginning : ℕ → Command
beginning m =
    sequence (assign count_of (count_term m))
    (sequence (assign side_of (count_term 0)) (origins 0 m))

module _ (n : Bounds) (Ps : List TypeTree) (Os : List Shape) where
  -- how many members go on, the first ones
  abbrev pub kept_local : Term
  kept_local = behind n Ps Os 0

  -- at an event: what it chooses, the loops' counters, and how many run from now on
  abbrev pub chosen_local : Term
  chosen_local = behind n Ps Os 1

  abbrev pub named_list : Term
  named_list = dot chosen_local 0

  abbrev pub value_list : Term
  value_list = dot chosen_local 1

  abbrev pub named_index : Term
  named_index = behind n Ps Os 2

  abbrev pub all_local : Term
  all_local = behind n Ps Os 2

  abbrev pub value_index : Term
  value_index = behind n Ps Os 3

  -- `(i < w.n) && (k < 64)`
  abbrev pub has_next : Term → Term → Term → Term
  has_next i w k =
      both (binary less u32 i (size_of_list w)) (binary less u32 k (count_term most_members))

  -- the members that are named go on, on the other side
  abbrev pub name_lines : Command
  name_lines =
      branch
      (binary less u64 (cast u64 (element named_list named_index)) (cast u64 count_of))
      (sequence
      (assign (at spare_of kept_local) (at running_of (element named_list named_index)))
      (one_more kept_local)) skip

  -- others start behind them; m: how many are written
  abbrev pub value_lines : ℕ → Command
  value_lines m =
      sequence (assign (origin_of (at spare_of all_local)) (count_term m))
      (sequence
      (assign (started_by (at spare_of all_local)) (element value_list value_index))
      (one_more all_local))

  -- what function r makes of the event's value is chosen
  abbrev pub choice_lines : TypeTree → ℕ → ℕ → Command
  choice_lines V r m =
      lines
      (leaf_call n Ps Os (pair_ty (list_ty int_ty) (list_ty V)) r (value_beside n Ps Os (local 2))
      ∷ assign kept_local (count_term 0)
      ∷ loop (n int_ty) (has_next named_index named_list kept_local) name_lines
      ∷ declare (number_type u32)
      ∷ assign all_local kept_local
      ∷ loop (n V) (has_next value_index value_list all_local) (value_lines m)
      ∷ assign count_of all_local
      ∷ []) (assign side_of other_side)

  -- the members' answers, the loop's counter, and the moment of a member: 0 of one that starts
  abbrev pub answers_local : Term
  answers_local = behind n Ps Os 1

  abbrev pub turn_index : Term
  turn_index = behind n Ps Os 2

  abbrev pub turn_moment : Term
  turn_moment = behind n Ps Os 3

  abbrev pub turn_of : Term
  turn_of = at running_of turn_index

  -- `y.e[i] = f(&part, at, &x->a, ..);`
  abbrev pub turn_call : TypeTree → ℕ → Term → List Argument → Command
  turn_call B j part zs =
      sequence
      (call (c_type n B) j
      (by_pointer part ∷ by_value turn_moment ∷ by_const (dot (local 2) 0) ∷ zs))
      (assign (element answers_local turn_index) (behind n Ps Os 4))

  -- what is in scope, with the value that started the member
  abbrev pub started_args : List Argument
  started_args =
      param_args 3 (length Ps)
      ++ (by_const (started_by turn_of) ∷ old_args (3 + length Ps) (length Os))

  -- functions js are of the written members, from number i on; function k of those that start
  abbrev pub turn_cases : TypeTree → ℕ → List ℕ → ℕ → Command
  turn_cases B i [] k = turn_call B k (started_of turn_of) started_args
  turn_cases B i (j ∷ js) k =
      branch (binary equals u32 (origin_of turn_of) (count_term i))
      (turn_call B j (written_of i turn_of) (scope_args n Ps Os)) (turn_cases B (suc i) js k)

  abbrev pub turn_lines : TypeTree → List ℕ → ℕ → Command
  turn_lines B js k =
      sequence
      (define (number_type i64)
      (choice (binary less u32 turn_index kept_local) (local 1) (number_term 0)))
      (turn_cases B 0 js k)

  abbrev pub collection_function : List Shape → Shape → TypeTree → TypeTree → TypeTree → TypeTree → List ℕ → ℕ → ℕ → Function
  collection_function Ss T A B V C js r k =
      stepping n Ps Os (keeps_collection V (members_shape Ss) T) (pair_ty A (event_ty C)) (list_ty B)
      (lines
      (at_first (beginning (length js))
      ∷ declare (number_type u32)
      ∷ assign kept_local count_of
      ∷ branch (event_beside_of n Ps Os (local 2)) (choice_lines V r (length js)) skip
      ∷ declare (c_type n (list_ty B))
      ∷ assign (size_of_list answers_local) count_of
      ∷ loop most_members (binary less u32 turn_index count_of) (turn_lines B js k)
      ∷ []) (answer answers_local))

  abbrev pub CollectionLaw : (ℕ → Linked) → Type 0
  CollectionLaw F = (Ss : List Shape) (T : Shape) (A B V C : TypeTree) (js : List ℕ) (r k : ℕ)
      (h : List Datum → Datum → Datum) (fs : List (Given → Stepper)) (t : Given → Stepper)
      → length js ≤ most_members → most_members ≤ n B → n B < 2 ^ 32 → n int_ty < 2 ^ 32 → n V < 2 ^ 32
      → MembersRight n Ps Os F A B js Ss fs
      → Computes n Ps C (pair_ty (list_ty int_ty) (list_ty V)) h (F r)
      → Right n (Ps ++ V ∷ []) Os T A B t (F k)
      → Right n Ps Os (keeps_collection V (members_shape Ss) T) (pair_ty A (event_ty C)) (list_ty B)
      (λ g. rp_switch_step (h g.params) (map (λ f. f g) fs) (λ v. t (given_value g v)))
      (function_run F (collection_function Ss T A B V C js r k))
