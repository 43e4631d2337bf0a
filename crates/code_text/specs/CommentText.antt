-- The comment above the C function that does the step of a function of the code.
use Rattle.std.specs.Prelude.{ℕ, List, [], ◌∷◌, ◌++◌, codes, slice_get, Option, Some, None}
use Rattle.std.specs.Fmt.{decimal}
use Rattle.sample_core.specs.Spelling.{type_spelling}
use Rattle.cell_core.specs.declared.form.Form.{Form}
use Rattle.cell_core.specs.declared.form.Form.TheVariants as M
use Rattle.net_code.specs.declared.statement.Function.{Function}
use Rattle.net_code.specs.declared.statement.Function.TheVariants as F
use Rattle.code_fits.specs.declared.layout.Layout.{Layout}
use Rattle.code_fits.specs.declared.layout.Program.{Program}
use Rattle.code_fits.specs.declared.types.Types.{Types}
use Rattle.code_fits.specs.Tables.{tree_at}

-- the word of a cell's form
abbrev pub cell_word : Form → List ℕ
cell_word M.IPre = codes "iPre"
cell_word (M.Delay q) = codes "delay"
cell_word M.Hold = codes "hold"
cell_word M.AccumBy = codes "accumBy"
cell_word (M.After q) = codes "after"
cell_word (M.Repeatedly q) = codes "repeatedly"
cell_word M.Time = codes "time"
cell_word M.Integral = codes "integral"

-- the word of a function's form
abbrev pub word_of : Function → List ℕ
word_of (F.Arr e) = codes "arr"
word_of (F.Seq f g) = codes ">>>"
word_of (F.First f) = codes "first"
word_of (F.Par fs) = codes "parB"
word_of (F.Loop e f) = codes "loopPre"
word_of (F.Cell form e) = cell_word form
word_of (F.Clock form) = cell_word form
word_of (F.Accum e z) = codes "accumBy"
word_of (F.Switch f t) = codes "switch"
word_of (F.DSwitch f t) = codes "dSwitch"
word_of (F.RSwitch f t) = codes "rSwitch"
word_of (F.DrSwitch f t) = codes "drSwitch"
word_of (F.KSwitch f e t) = codes "kSwitch"
word_of (F.PSwitch r fs e t) = codes "pSwitch"
word_of (F.Old k f n m) = codes "old"
word_of F.Same = codes "old"
word_of (F.InitialOut e f) = codes "-->"
word_of (F.InitialIn e f) = codes ">--"
word_of (F.Collection fs e t) = codes "rpSwitchB"

-- a position in the network
abbrev pub position_text : List ℕ → List ℕ
position_text [] = []
position_text (k ∷ ks) = codes " " ++ (decimal k ++ position_text ks)

-- the types that a function goes from and to
abbrev pub types_text : Types → Layout → List ℕ
types_text ts L =
    type_spelling (tree_at ts L.input) ++ (codes " -> " ++ type_spelling (tree_at ts L.output))

-- which form it is of, where that stands, and its types
abbrev pub comment_text : Types → Function → Layout → List ℕ
comment_text ts f L =
    codes "/* "
    ++ (word_of f
    ++ (codes " at (at"
    ++ (position_text L.position.items ++ (codes "): " ++ (types_text ts L ++ codes " */\n")))))

-- the same where it has a layout, and of function k of a program, if there is one
abbrev pub comment_over : Types → Function → Option Layout → List ℕ
comment_over ts f None = []
comment_over ts f (Some L) = comment_text ts f L

abbrev pub comment_if : Program → ℕ → Option Function → List ℕ
comment_if p k None = []
comment_if p k (Some f) = comment_over p.types f (slice_get p.layouts.items k)

abbrev pub comment_of : Program → ℕ → List ℕ
comment_of p k = comment_if p k (slice_get p.functions.items k)
