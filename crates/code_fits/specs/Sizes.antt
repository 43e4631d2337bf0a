-- How many bytes values, and what functions keep, take in C at most, where no type is aligned to more
-- than 8 bytes.
use Rattle.std.specs.Prelude.{◌≡◌, ◌≤◌, ◌<◌, ◌+◌, ◌-◌, ◌*◌, ℕ, List, [], ◌∷◌, ◌++◌, length, get_or, slice_get, Option, Some, None}
use Rattle.std.specs.List.{sum_by}
use Rattle.std.specs.Int.{div_ceil}
use Rattle.sample_core.specs.TypeTree.{TypeTree, unit_ty, bool_ty, int_ty, pair_ty, event_ty, list_ty}
use Rattle.leaf_code.specs.Fitting.{Bounds}
use Rattle.cell_core.specs.declared.form.Form.{Form}
use Rattle.cell_core.specs.declared.form.Form.TheVariants as C
use Rattle.net_code.specs.declared.statement.Function.{Function}
use Rattle.net_code.specs.declared.statement.Function.TheVariants as F
use Rattle.code_fits.specs.declared.program.TheConstants.{MOST_STATE}
use Rattle.code_fits.specs.Layouts.{Layout}

-- a size, rounded up to a multiple of 8
abbrev pub rounded_up : ℕ → ℕ
rounded_up n = div_ceil n 8 * 8

-- a value of the type: a list has room for as many elements as its bound says, and their number
abbrev pub value_size : Bounds → TypeTree → ℕ
value_size bound unit_ty = 1
value_size bound bool_ty = 1
value_size bound int_ty = 8
value_size bound (pair_ty A B) = rounded_up (value_size bound A) + rounded_up (value_size bound B)
value_size bound (event_ty A) = rounded_up (value_size bound A) + 8
value_size bound (list_ty A) = rounded_up (value_size bound A * bound A) + 8

-- the value that a function keeps itself
abbrev pub own_size : Bounds → Option TypeTree → ℕ
own_size bound None = 0
own_size bound (Some T) = rounded_up (value_size bound T)

-- what a cell keeps whose values take so much: a queue of `delay` its values, each with a time
abbrev pub cell_size : Form → ℕ → ℕ
cell_size (C.Delay q) v = (v + 8) * q + v + 16
cell_size (C.After q) v = v + 16
cell_size (C.Repeatedly q) v = v + 8
cell_size form v = v

-- what function k keeps, of these
abbrev pub size_at : List ℕ → ℕ → ℕ
size_at ns k = get_or ns k 0

-- what some of them keep
abbrev pub sizes_at : List ℕ → List ℕ → ℕ
sizes_at ns fs = sum_by (size_at ns) fs

-- where a function's own value takes so much, and earlier functions keep that
module _ (v : ℕ) (ns : List ℕ) where
  -- a switch: whether t has taken over from f, and by which value
  abbrev pub switch_size : ℕ → ℕ → ℕ
  switch_size f t = size_at ns f + size_at ns t + v + 8

  -- one that freezes: what it watches is there twice, once with a time
  abbrev pub freezing_size : ℕ → ℕ → ℕ → ℕ
  freezing_size watched e t = watched * 2 + (size_at ns e + size_at ns t) + v + 16

  -- a collection: two sides of 64 members, each of which may be any
  abbrev pub collection_size : List ℕ → ℕ → ℕ
  collection_size fs t = (sizes_at ns fs + size_at ns t + v + 8) * 128 + 8

  -- what a function keeps
  abbrev pub function_size : Function → ℕ
  function_size (F.Arr e) = 0
  function_size F.Same = 0
  function_size (F.Seq f g) = size_at ns f + size_at ns g
  function_size (F.First f) = size_at ns f
  function_size (F.Old k f n m) = size_at ns f
  function_size (F.InitialOut c f) = size_at ns f
  function_size (F.InitialIn c f) = size_at ns f
  function_size (F.Par fs) = sizes_at ns fs.items
  function_size (F.Loop c f) = size_at ns f + v
  function_size (F.Cell form c) = cell_size form v
  function_size (F.Clock form) = 16
  function_size (F.Accum g z) = v
  function_size (F.Switch f t) = switch_size f t
  function_size (F.DSwitch f t) = switch_size f t
  function_size (F.RSwitch f t) = switch_size f t
  function_size (F.DrSwitch f t) = switch_size f t
  function_size (F.KSwitch f e t) = freezing_size (size_at ns f) e t
  function_size (F.PSwitch r fs e t) = freezing_size (sizes_at ns fs.items) e t
  function_size (F.Collection fs m t) = collection_size fs.items t

-- what functions keep, each over the earlier ones, behind these
abbrev pub sizes_behind : Bounds → List ℕ → List Function → List Layout → List ℕ
sizes_behind bound ns [] Ls = ns
sizes_behind bound ns (f ∷ fs) [] = ns
sizes_behind bound ns (f ∷ fs) (L ∷ Ls) =
    sizes_behind bound (ns ++ function_size (own_size bound L.kept) ns f ∷ []) fs Ls

-- what each function of code keeps
abbrev pub kept_sizes : Bounds → List Function → List Layout → List ℕ
kept_sizes bound fs Ls = sizes_behind bound [] fs Ls

-- a state: what the last function keeps, and whether there was a sample
abbrev pub state_size : List ℕ → ℕ
state_size ns = get_or ns (length ns - 1) 0 + 8

-- none of the first k keeps more than a state may have
abbrev pub NoneOver : List ℕ → ℕ → Type 0
NoneOver ns k = (j n : ℕ) → j < k → slice_get ns j ≡ Some n → n ≤ MOST_STATE

-- function k is the first that keeps more
pub record IsFirstOver (ns : List ℕ) (k : ℕ) : Type 0 where
  pub size : ℕ
  pub there : slice_get ns k ≡ Some size
  pub over : MOST_STATE < size
  pub before : NoneOver ns k

-- where no function keeps more, the state has so many bytes
pub record IsStateOf (ns : List ℕ) (bytes : ℕ) : Type 0 where
  pub few : NoneOver ns (length ns)
  pub is_size : bytes ≡ state_size ns
