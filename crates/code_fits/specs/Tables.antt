-- What layouts say whose types are numbers in a table, and what the table's bounds say.
use Rattle.std.specs.Prelude.{◌≡◌, ℕ, if◌then◌else◌, List, [], ◌∷◌, length, map, get_or, slice_get, Option, Some, None}
use Rattle.sample_core.specs.TypeTree.{TypeTree, unit_ty, bool_ty, int_ty, pair_ty, event_ty, list_ty}
use Rattle.sample_core.specs.TypeView.{type_of}
use Rattle.leaf_core.specs.TypeLimits.{same_tree}
use Rattle.leaf_code.specs.Operation.{Operation}
use Rattle.leaf_code.specs.Operation as O
use Rattle.leaf_code.specs.Fitting.{Bounds}
use Rattle.net_code.specs.declared.statement.Function.{Function}
use Rattle.code_fits.specs.declared.types.Types.{Types}
use Rattle.code_fits.specs.declared.types.TypeEntry.{TypeEntry}
use Rattle.code_fits.specs.declared.types.TypeEntry.TheVariants as R
use Rattle.code_fits.specs.declared.layout.Layout as N
use Rattle.code_fits.specs.Layouts.{Layout, layout}
use Rattle.code_fits.specs.Rules.{FunctionFits, CodeFits}

-- the type of a number in a table, `Unit` where it isn't there
abbrev pub tree_at : Types → ℕ → TypeTree
tree_at ts k = get_or (map type_of ts.trees.items) k unit_ty

-- the types of numbers
abbrev pub trees_at : Types → List ℕ → List TypeTree
trees_at ts ks = map (tree_at ts) ks

-- the type of a number, if there is one
abbrev pub tree_if : Types → Option ℕ → Option TypeTree
tree_if ts None = None
tree_if ts (Some k) = Some (tree_at ts k)

-- the layout that a `Layout` is
abbrev pub layout_of : Types → N.Layout → Layout
layout_of ts L =
    layout (trees_at ts L.params.items) L.olds.items (tree_at ts L.input) (tree_at ts L.output)
    (trees_at ts L.values.items) (tree_if ts L.kept)

-- an entry as a type, whose parts have these numbers
abbrev pub entry_tree : Types → TypeEntry → TypeTree
entry_tree ts R.Unit = unit_ty
entry_tree ts R.Bool = bool_ty
entry_tree ts R.Int = int_ty
entry_tree ts (R.Pair a b) = pair_ty (tree_at ts a) (tree_at ts b)
entry_tree ts (R.Event a) = event_ty (tree_at ts a)
entry_tree ts (R.List a) = list_ty (tree_at ts a)

-- each entry of a table is the tree at its number
abbrev pub TableHolds : Types → Type 0
TableHolds ts = (k : ℕ) (r : TypeEntry) → slice_get ts.entries.items k ≡ Some r → tree_at ts k ≡ entry_tree ts r

-- the number beside the first of some types that is this one, 0 where none is
abbrev pub beside : TypeTree → List TypeTree → List ℕ → ℕ
beside A [] ns = 0
beside A (T ∷ Ts) [] = 0
beside A (T ∷ Ts) (n ∷ ns) = if same_tree T A then n else beside A Ts ns

-- how long lists may be, by the type of their elements: the number beside the type of these lists
abbrev pub bound_of : Types → List ℕ → Bounds
bound_of ts ns A = beside (list_ty A) (map type_of ts.trees.items) ns

-- how many registers an operation makes a list of
abbrev pub elements_in : Operation → ℕ
elements_in (O.list js) = length js
elements_in o = 0

-- functions fit their layouts, under the bounds
abbrev pub LayoutsFit : Types → List ℕ → List Function → List N.Layout → Type 0
LayoutsFit ts ns fs Ls = CodeFits (bound_of ts ns) [] fs (map (layout_of ts) Ls)

-- where the table holds, a function fits its layout over those of earlier ones
abbrev pub FitsOver : Types → List ℕ → List N.Layout → N.Layout → Function → Type 0
FitsOver ts ns Es L f =
    TableHolds ts → FunctionFits (bound_of ts ns) (map (layout_of ts) Es) (layout_of ts L) f
