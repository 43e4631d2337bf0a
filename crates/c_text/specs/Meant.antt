-- What trees mean: those of `c_meaning`, with each struct in the place of its number.
use Rattle.std.specs.Prelude.{List, [], ◌∷◌, ◌++◌, map, get_or, pos, Option, Some, None}
use Rattle.c_text.specs.declared.tree.Scalar.TheVariants as DS
use Rattle.c_text.specs.declared.tree.Scalar as D
use Rattle.c_text.specs.declared.tree.Operator.TheVariants as DO
use Rattle.c_text.specs.declared.tree.Operator as DO'
use Rattle.c_text.specs.declared.tree.Base.{Base}
use Rattle.c_text.specs.declared.tree.Base.TheVariants as B
use Rattle.c_text.specs.declared.tree.CType as Y
use Rattle.c_text.specs.declared.tree.CType.TheVariants as T
use Rattle.c_text.specs.declared.tree.Literal.{Literal}
use Rattle.c_text.specs.declared.tree.Literal.TheVariants as L
use Rattle.c_text.specs.declared.tree.Struct.{Struct}
use Rattle.c_text.specs.declared.tree.Term.{Row_of-Term, end_of-Term, more_of-Term}
use Rattle.c_text.specs.declared.tree.Term as E
use Rattle.c_text.specs.declared.tree.Argument.{Argument}
use Rattle.c_text.specs.declared.tree.Argument.TheVariants as A
use Rattle.c_text.specs.declared.tree.Command.{Row_of-Command, end_of-Command, more_of-Command}
use Rattle.c_text.specs.declared.tree.Command as C
use Rattle.c_text.specs.declared.tree.Param.{Param}
use Rattle.c_text.specs.declared.tree.Param.TheVariants as Q
use Rattle.c_text.specs.declared.tree.Function as F
use Rattle.c_text.specs.declared.tree.File as I
use Rattle.c_meaning.specs.Object as O
use Rattle.c_meaning.specs.Object.{CType, truth_type, number_type, no_member, member, array}
use Rattle.c_meaning.specs.Wrapping.{wrapped}
use Rattle.c_meaning.specs.Syntax as M
use Rattle.c_meaning.specs.Syntax.{Operator, Term, local, dot, at, boolean, literal, zeroed, none, braced, binary, inverse, both, either, choice, cast, by_value, by_const, by_pointer, Command, skip, sequence, declare, define, refer, assign, call, branch, loop, answer, Parameter, value_param, const_param, pointer_param, Function, File}

abbrev pub scalar_meant : D.Scalar → O.Scalar
scalar_meant DS.Uint8 = O.u8
scalar_meant DS.Int64 = O.i64
scalar_meant DS.Uint64 = O.u64
scalar_meant DS.Uint32 = O.u32

abbrev pub operator_meant : DO'.Operator → Operator
operator_meant DO.Plus = M.plus
operator_meant DO.Minus = M.minus
operator_meant DO.Times = M.times
operator_meant DO.Remainder = M.remainder
operator_meant DO.Less = M.less
operator_meant DO.AtMost = M.at_most
operator_meant DO.Equals = M.equals

abbrev pub literal_meant : Literal → Term
literal_meant (L.Bool b) = boolean b
literal_meant (L.Uint8 n) = literal O.u8 (pos n)
literal_meant (L.Int64 z) = literal O.i64 z
literal_meant (L.Uint64 n) = literal O.u64 (pos n)
literal_meant (L.Uint32 n) = literal O.u32 (pos n)

-- Ts: the structs as types; one that isn't there has no member
abbrev pub base_meant : List CType → Base → CType
base_meant Ts B.Bool = truth_type
base_meant Ts (B.Number S) = number_type (scalar_meant S)
base_meant Ts (B.Struct k) = get_or Ts k no_member

abbrev pub type_meant : List CType → Y.CType → CType
type_meant Ts (T.One b) = base_meant Ts b
type_meant Ts (T.Array n b) = array n (base_meant Ts b)
type_meant Ts (T.Grid m n b) = array m (array n (base_meant Ts b))

abbrev pub members_meant : List CType → List Y.CType → CType
members_meant Ts [] = no_member
members_meant Ts (A ∷ As) = member (type_meant Ts A) (members_meant Ts As)

-- structs, each over the earlier ones
abbrev pub structs_from : List CType → List Struct → List CType
structs_from Ts [] = Ts
structs_from Ts (s ∷ ss) = structs_from (Ts ++ members_meant Ts s.members.items ∷ []) ss

abbrev pub structs_meant : List Struct → List CType
structs_meant ss = structs_from [] ss

module _ (Ts : List CType) where
  -- behind elements: zeros, or nothing
  abbrev pub tail_meant : Option Y.CType → Term
  tail_meant None = none
  tail_meant (Some T) = zeroed (type_meant Ts T)

  abbrev mutual
    pub term_meant : E.Term → Term
    term_meant (E.Local k) = local k
    term_meant (E.Dot' p e k) = dot (term_meant e) k
    term_meant (E.At' p e q i) = at (term_meant e) (term_meant i)
    term_meant (E.Literal l) = literal_meant l
    term_meant (E.Zeroed T) = zeroed (type_meant Ts T)
    term_meant (E.Braced' shape all tail) = elements_meant (tail_meant tail) all
    term_meant (E.Binary' o S p a q b) =
        binary (operator_meant o) (scalar_meant S) (term_meant a) (term_meant b)
    term_meant (E.Inverse' p a) = inverse (term_meant a)
    term_meant (E.Both' p a q b) = both (term_meant a) (term_meant b)
    term_meant (E.Either' p a q b) = either (term_meant a) (term_meant b)
    term_meant (E.Choice' p c q a r b) = choice (term_meant c) (term_meant a) (term_meant b)
    term_meant (E.Cast' S p a) = cast (scalar_meant S) (term_meant a)
    term_meant (E.Signed' p a) = wrapped (term_meant a)

    pub elements_meant : Term → {m : _} → Row_of-Term m → Term
    elements_meant t end_of-Term = t
    elements_meant t (more_of-Term e es) = braced (term_meant e) (elements_meant t es)

  abbrev pub argument_meant : Argument → M.Argument
  argument_meant (A.Value e) = by_value (term_meant e)
  argument_meant (A.Const e) = by_const (term_meant e)
  argument_meant (A.Pointer e) = by_pointer (term_meant e)

  abbrev mutual
    pub command_meant : C.Command → Command
    command_meant C.Skip = skip
    command_meant (C.Block' shape all) = block_meant all
    command_meant (C.Declare T) = declare (type_meant Ts T)
    command_meant (C.Define T e) = define (type_meant Ts T) (term_meant e)
    command_meant (C.Refer T e) = refer (type_meant Ts T) (term_meant e)
    command_meant (C.Assign e v) = assign (term_meant e) (term_meant v)
    command_meant (C.Call T k as1) = call (type_meant Ts T) k (map argument_meant as1.items)
    command_meant (C.Branch' c p a q b) =
        branch (term_meant c) (command_meant a) (command_meant b)
    command_meant (C.Loop' n c p a) = loop n (term_meant c) (command_meant a)
    command_meant (C.Answer e) = answer (term_meant e)

    -- the last one stands alone
    pub block_meant : {m : _} → Row_of-Command m → Command
    block_meant end_of-Command = skip
    block_meant (more_of-Command c end_of-Command) = command_meant c
    block_meant (more_of-Command c (more_of-Command d cs)) =
        sequence (command_meant c) (block_meant (more_of-Command d cs))

  abbrev pub param_meant : Param → Parameter
  param_meant (Q.Value T) = value_param (type_meant Ts T)
  param_meant (Q.Const T) = const_param (type_meant Ts T)
  param_meant (Q.Pointer T) = pointer_param (type_meant Ts T)

  abbrev pub function_meant : F.Function → Function
  function_meant f = record {
    params = map param_meant f.params.items;
    result = type_meant Ts f.result;
    body = command_meant f.body;
  }

abbrev pub file_meant : I.File → File
file_meant f = map (function_meant (structs_meant f.structs.items)) f.functions.items
