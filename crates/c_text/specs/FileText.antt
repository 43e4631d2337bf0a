-- The text of macros, structs and functions.
use Rattle.std.specs.Prelude.{ℕ, suc, Bool, true, false, if◌then◌else◌, List, [], ◌∷◌, ◌++◌, codes, map, get_or}
use Rattle.c_text.specs.declared.name.Name.{Name}
use Rattle.c_text.specs.declared.name.Name.TheVariants as N
use Rattle.c_text.specs.declared.tree.CType.{CType}
use Rattle.c_text.specs.declared.tree.Kind.{Kind}
use Rattle.c_text.specs.declared.tree.Struct.{Struct}
use Rattle.c_text.specs.declared.tree.Local.{Local}
use Rattle.c_text.specs.declared.tree.Param.{Param}
use Rattle.c_text.specs.declared.tree.Param.TheVariants as Q
use Rattle.c_text.specs.declared.tree.Function.{Function}
use Rattle.c_text.specs.NameText.{name_text}
use Rattle.c_text.specs.TypeText.{type_text, declared_text, is_empty, left_out}
use Rattle.c_text.specs.Used.{is_used, command_used}
use Rattle.c_text.specs.CommandText.{by_value, by_pointer, separator_text, command_text}

abbrev pub param_type : Param → CType
param_type (Q.Value T) = T
param_type (Q.Const T) = T
param_type (Q.Pointer T) = T

-- the local that a parameter is
abbrev pub local_of : Param → Local
local_of (Q.Value T) = by_value T
local_of (Q.Const T) = by_pointer T
local_of (Q.Pointer T) = by_pointer T

-- parameter k: `T r`, `const T *r`, `T *r`
abbrev pub param_text : List ℕ → ℕ → Param → List ℕ
param_text P k (Q.Value T) = declared_text P T (N.Local k)
param_text P k (Q.Const T) =
    codes "const " ++ (type_text P T ++ (codes " *" ++ name_text P (N.Local k)))
param_text P k (Q.Pointer T) = type_text P T ++ (codes " *" ++ name_text P (N.Local k))

-- a line for parameter k where it isn't used, so that no compiler warns of it; U: which locals are
abbrev pub unused_param : List ℕ → List Bool → ℕ → List ℕ
unused_param P U k =
    if is_used U k then [] else codes "    (void)" ++ (name_text P (N.Local k) ++ codes ";\n")

-- before a function of this name: it is the file's own, unless it is one that a program calls
abbrev pub linkage_text : Name → List ℕ
linkage_text (N.Function k) = codes "static "
linkage_text f = codes ""

-- P: the prefix of names; E: which structs have no member
module _ (P : List ℕ) (E : List Bool) where
  -- the parameters from number k on; whether none was printed before; `void`, if there is none
  abbrev pub params_text : Bool → ℕ → List Param → List ℕ
  params_text true k [] = codes "void"
  params_text false k [] = []
  params_text first k (p ∷ ps) =
      if is_empty E (param_type p) then params_text first (suc k) ps
      else separator_text first ++ (param_text P k p ++ params_text false (suc k) ps)

  -- a line for each that isn't used
  abbrev pub unused_params : List Bool → ℕ → List Param → List ℕ
  unused_params U k [] = []
  unused_params U k (p ∷ ps) =
      left_out E (param_type p) (unused_param P U k) ++ unused_params U (suc k) ps

  -- the type of a result; `void`, if it has no member
  abbrev pub result_text : CType → List ℕ
  result_text T = if is_empty E T then codes "void" else type_text P T

  -- `T f(`, the parameters, and `)`
  abbrev pub prototype_text : Name → Function → List ℕ
  prototype_text f a =
      result_text a.result
      ++ (codes " " ++ (name_text P f ++ (codes "(" ++ (params_text true 0 a.params.items ++ codes ")"))))

  -- what stands before a body
  abbrev pub head_text : Name → Function → List ℕ
  head_text f a = linkage_text f ++ (prototype_text f a ++ codes "\n")

  abbrev pub body_text : List Struct → Function → List ℕ
  body_text Ss f =
      codes "{\n"
      ++ (unused_params (command_used [] f.body) 0 f.params.items
      ++ (command_text P E Ss f.result (command_used [] f.body) (codes "    ")
      (map local_of f.params.items) f.body
      ++ codes "}\n"))

  -- a function, under this name
  abbrev pub function_text : List Struct → Name → Function → List ℕ
  function_text Ss f a = head_text f a ++ body_text Ss a

  -- the members of a struct of a kind, from number k on
  abbrev pub members_text : Kind → ℕ → List CType → List ℕ
  members_text K k [] = []
  members_text K k (T ∷ Ts) =
      left_out E T (codes "    " ++ (declared_text P T (N.Member K k) ++ codes ";\n"))
      ++ members_text K (suc k) Ts

  abbrev pub struct_text : ℕ → Struct → List ℕ
  struct_text k s =
      codes "struct "
      ++ (name_text P (N.Struct k)
      ++ (codes " {\n" ++ (members_text s.kind 0 s.members.items ++ codes "};\n")))

  -- structs, from number k on, each behind an empty line, but for those without members
  abbrev pub structs_text : ℕ → List Struct → List ℕ
  structs_text k [] = []
  structs_text k (s ∷ ss) =
      (if get_or E k false then [] else codes "\n" ++ struct_text k s) ++ structs_text (suc k) ss

-- a macro of T
abbrev pub macro_text : List ℕ → Name → List ℕ → List ℕ
macro_text P x s = codes "#define " ++ (name_text P x ++ (codes "(T) " ++ s))

-- a `uint64_t`, of which this is the text, as an `int64_t`: as the tree is printed that `Signed` means
-- (`SignedRows`)
abbrev pub wrapped_text : List ℕ → List ℕ
wrapped_text s =
    codes "("
    ++ (s
    ++ (codes " <= UINT64_C(9223372036854775807)) ? ((int64_t)"
    ++ (s
    ++ (codes ") : ((INT64_C(0) - ((int64_t)(UINT64_C(18446744073709551615) - "
    ++ (s ++ codes "))) - INT64_C(1))")))))

-- the macro of that
abbrev pub signed_macro : List ℕ → List ℕ
signed_macro P =
    codes "#define "
    ++ (name_text P N.Signed ++ (codes "(n) (" ++ (wrapped_text (codes "(n)") ++ codes ")\n")))

-- the macros: that one, and two because C++ has no compound literals
abbrev pub macros_text : List ℕ → List ℕ
macros_text P =
    signed_macro P
    ++ (codes "#ifdef __cplusplus\n"
    ++ (macro_text P N.Of (codes "T\n")
    ++ (macro_text P N.Zeros (codes "T()\n#else\n")
    ++ (macro_text P N.Of (codes "(struct T)\n") ++ macro_text P N.Zeros (codes "(struct T){0}\n#endif\n")))))
