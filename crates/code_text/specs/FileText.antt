-- The C of a network: a file.
use Rattle.std.specs.Prelude.{◌≡◌, ℕ, suc, ◌+◌, ◌==◌, nat_lt, Bool, true, false, if◌then◌else◌, List, [], ◌∷◌, ◌++◌, codes, map, slice_get, Option, Some, None}
use Rattle.sample_core.specs.TypeTree.{TypeTree}
use Rattle.sample_core.specs.TypeView.{type_of}
use Rattle.code_fits.specs.declared.layout.Program.{Program}
use Rattle.c_text.specs.declared.name.Name.{Name}
use Rattle.c_text.specs.declared.name.Name.TheVariants as N
use Rattle.c_text.specs.declared.tree.Base.TheVariants as B
use Rattle.c_text.specs.declared.tree.CType.{CType}
use Rattle.c_text.specs.declared.tree.CType.TheVariants as T
use Rattle.c_text.specs.declared.tree.Function.{Function}
use Rattle.c_text.specs.TypeText.{empties}
use Rattle.c_text.specs.NameText.{name_text}
use Rattle.c_text.specs.FileText.{macros_text, structs_text, function_text}
use Rattle.c_build.specs.declared.file.Built.{Built}
use Rattle.c_build.specs.Building.{IsBuilt}
use Rattle.code_text.specs.declared.file.Printed.{Printed}
use Rattle.code_text.specs.declared.file.Printed.TheVariants as P
use Rattle.code_text.specs.declared.file.Options as D
use Rattle.code_text.specs.declared.file_text.TheConstants.{POSIX, FILTER_INCLUDES, PRAGMAS}
use Rattle.code_text.specs.Piece.{Piece, text, name, number, ty, letter, spelt, pieces_text}
use Rattle.code_text.specs.NamedText.{with_each}
use Rattle.code_text.specs.FixedText.{use_pieces, opening_pieces, bounded_pieces, prototypes_text}
use Rattle.code_text.specs.FoldedText.{folded_lines}
use Rattle.code_text.specs.Fingerprint.{fingerprint}
use Rattle.code_text.specs.CommentText.{comment_of}
use Rattle.code_text.specs.FilterText.{filter_text}

-- how a network's C is printed: the prefix of its names, what of it, how many elements the lists of
-- its input have at most, whether its step is unchecked, the program's version, and the network: its
-- text, its weight, and the types that it goes from and to
pub record Options : Type 0 where
  pub prefix : List ℕ
  pub printed : Printed
  pub most : ℕ
  pub unchecked : Bool
  pub version : List ℕ
  pub network : List ℕ
  pub weight : ℕ
  pub input : TypeTree
  pub output : TypeTree

-- the ones that an `Options` is
abbrev pub options_in : D.Options → Options
options_in o = record {
  prefix = o.prefix.now;
  printed = o.printed;
  most = o.most;
  unchecked = o.unchecked;
  version = o.version.now;
  network = o.network.now;
  weight = o.weight;
  input = type_of o.input.now;
  output = type_of o.output.now;
}

-- the types of a program
abbrev pub types_of : Program → List TypeTree
types_of p = map type_of p.types.trees.items

-- what POSIX has, where there is a filter
abbrev pub posix_pieces : Printed → List Piece
posix_pieces P.Filter = text POSIX.now ∷ []
posix_pieces P.Functions = []
posix_pieces P.Header = []

-- the word for an unchecked step, with a blank before it
abbrev pub unchecked_word : Bool → List ℕ
unchecked_word true = codes " --unchecked"
unchecked_word false = codes ""

-- the comment at the top: the types, the version, the options, the network, how it is used, and its
-- figures; the state has at most so many bytes
module _ (o : Options) where
  abbrev pub types_pieces : List Piece
  types_pieces =
      text (codes "/* ") ∷ name ∷ text (codes ": ") ∷ spelt o.input ∷ text (codes " -> ")
      ∷ spelt o.output ∷ text (codes "\n *\n * By yampa ") ∷ []

  abbrev pub options_pieces : List Piece
  options_pieces =
      text (codes ":\n * `yampa compile --name ") ∷ name ∷ text (codes " --most ") ∷ number o.most
      ∷ text (unchecked_word o.unchecked) ∷ text (codes "`, of the network\n *\n * ") ∷ []

  abbrev pub figures_pieces : ℕ → List Piece
  figures_pieces bytes =
      text (codes " *\n * Weight ") ∷ number o.weight ∷ text (codes ". The state has at most ")
      ∷ number bytes ∷ text (codes " bytes, lists of the input at most ") ∷ number o.most
      ∷ text (codes " elements. */\n") ∷ []

  abbrev pub about_text : ℕ → List ℕ
  about_text bytes =
      pieces_text o.prefix types_pieces
      ++ (with_each 10 (codes ", ") o.version
      ++ (pieces_text o.prefix options_pieces
      ++ (folded_lines [] o.network
      ++ (pieces_text o.prefix (use_pieces o.unchecked)
      ++ pieces_text o.prefix (figures_pieces bytes)))))

-- the struct of a type has the type's letters as a second name
abbrev pub letters_pieces : TypeTree → CType → List Piece
letters_pieces A (T.One (B.Struct k)) =
    text (codes "\n#define ") ∷ name ∷ text (codes "_") ∷ letter A ∷ text (codes " ") ∷ name
    ∷ text (codes "_t") ∷ number k ∷ text (codes " /* ") ∷ spelt A ∷ text (codes " */") ∷ []
letters_pieces A C = []

-- the same where the type is one of C
abbrev pub letters_if : TypeTree → Option CType → List Piece
letters_if A None = []
letters_if A (Some C) = letters_pieces A C

-- those of types, from number k on, of which these are the types of C
abbrev pub all_letters : List ℕ → List CType → ℕ → List TypeTree → List ℕ
all_letters P Cs k [] = []
all_letters P Cs k (A ∷ As) =
    pieces_text P (letters_if A (slice_get Cs k)) ++ all_letters P Cs (suc k) As

-- a name for a type
abbrev pub type_name : TypeTree → List ℕ → List Piece
type_name A s =
    text (codes "\ntypedef ") ∷ ty A ∷ text (codes " ") ∷ name ∷ text s ∷ text (codes "; /* ")
    ∷ spelt A ∷ text (codes " */") ∷ []

-- the name of the state's struct
abbrev pub state_pieces : CType → List Piece
state_pieces (T.One (B.Struct k)) =
    text (codes "\n\n#define ") ∷ name ∷ text (codes "_state ") ∷ name ∷ text (codes "_t")
    ∷ number k ∷ text (codes "\n") ∷ []
state_pieces C = []

-- the names of types, of the input's and the output's, and of the state's struct, with its bound
abbrev pub names_text : Program → Options → Built → List ℕ
names_text p o b =
    all_letters o.prefix b.types.items 0 (types_of p)
    ++ (pieces_text o.prefix (type_name o.input (codes "_input"))
    ++ (pieces_text o.prefix (type_name o.output (codes "_output"))
    ++ (pieces_text o.prefix (state_pieces b.state) ++ pieces_text o.prefix bounded_pieces)))

-- whether function i of the file is this one
abbrev pub is_this : ℕ → Option ℕ → Bool
is_this i None = false
is_this i (Some j) = j == i

-- whether function i of the file is the step of function k of the code
abbrev pub is_step : Built → ℕ → ℕ → Bool
is_step b i k = is_this i (slice_get b.steps.items k)

-- then there is a comment above it
abbrev pub comment_at : Program → Built → ℕ → ℕ → List ℕ
comment_at p b i k = if is_step b i k then comment_of p k else []

-- and the next step is that of the next function of the code
abbrev pub behind : Built → ℕ → ℕ → ℕ
behind b i k = if is_step b i k then suc k else k

-- the name of function i of the file: two have names of their own, by which a program calls them
abbrev pub name_at : Built → ℕ → Name
name_at b i = if i == b.init then N.Init else if i == b.step then N.Step else N.Function i

-- the function behind `init`: the step of an input whose lists are within their arrays
abbrev pub within_name : Built → Name
within_name b = if nat_lt b.init b.step then name_at b (b.init + 1) else N.Step

-- the step that the filter calls, which needn't test lists: its reader has
abbrev pub within_text : List ℕ → Built → List ℕ
within_text P b =
    pieces_text P (text (codes "\n#define ") ∷ name ∷ text (codes "_step_within ") ∷ [])
    ++ (name_text P (within_name b) ++ pieces_text P (text (codes "\n") ∷ []))

-- p, b: a program and its C; E: which of its structs have no member
module _ (p : Program) (o : Options) (b : Built) (E : List Bool) where
  -- function i of the file, where the next step is that of function k of the code
  abbrev pub function_at : ℕ → ℕ → Function → List ℕ
  function_at i k f =
      codes "\n" ++ (comment_at p b i k ++ function_text o.prefix E b.file.structs.items (name_at b i) f)

  -- the functions from number i on
  abbrev pub functions_text : ℕ → ℕ → List Function → List ℕ
  functions_text i k [] = []
  functions_text i k (f ∷ fs) = function_at i k f ++ functions_text (suc i) (behind b i k) fs

  -- the declarations with a fingerprint: structs, names, and what a program calls
  abbrev pub declared_text : ℕ → List ℕ
  declared_text sum =
      pieces_text o.prefix (posix_pieces o.printed)
      ++ (pieces_text o.prefix (opening_pieces sum p.state_bytes)
      ++ (structs_text o.prefix E 0 b.file.structs.items
      ++ (names_text p o b ++ prototypes_text o.prefix o.unchecked)))

  -- the comment, and the declarations with its fingerprint
  abbrev pub declarations_text : List ℕ
  declarations_text =
      about_text o p.state_bytes ++ declared_text (fingerprint (about_text o p.state_bytes))

  -- the functions, behind macros
  abbrev pub definitions_text : List ℕ
  definitions_text =
      pieces_text o.prefix (text PRAGMAS.now ∷ [])
      ++ (macros_text o.prefix ++ functions_text 0 0 b.file.functions.items)

  -- the same with a filter, and what that stands on
  abbrev pub filtered_text : List ℕ
  filtered_text =
      pieces_text o.prefix (text FILTER_INCLUDES.now ∷ [])
      ++ (definitions_text
      ++ (within_text o.prefix b ++ filter_text o.prefix (types_of p) o.input o.output o.most))

  -- what stands behind the declarations
  abbrev pub printed_text : Printed → List ℕ
  printed_text P.Header = []
  printed_text P.Functions = definitions_text
  printed_text P.Filter = filtered_text

  abbrev pub parts_text : List ℕ
  parts_text = declarations_text ++ printed_text o.printed

-- the file of a program, whose C this is
abbrev pub file_text : Program → Options → Built → List ℕ
file_text p o b = parts_text p o b (empties b.file.structs.items)

-- the text is the file of a program: of trees that mean its C
pub record IsCOf (p : Program) (o : Options) (text : List ℕ) : Type 0 where
  pub built : Built
  pub is_built : IsBuilt p o.unchecked built
  pub text_is : text ≡ file_text p o built
