-- What holds of a network's program.
use Rattle.std.specs.Prelude.{◌≡◌, ◌^◌, ℕ, false, List, [], map, slice_get, Some}
use Rattle.sample_core.specs.TypeTree.{TypeTree}
use Rattle.leaf_core.specs.declared.expr.Expr.{Expr}
use Rattle.net_meaning.specs.SignalFunction.{TimedList}
use Rattle.net_meaning.specs.TypedNetwork.{TypedNetwork, HasItsTypes, stream_of}
use Rattle.net_machine.specs.Store.{Store}
use Rattle.net_code.specs.declared.statement.Function.{Function}
use Rattle.net_code.specs.Running.{AllBelow, latest, run_code}
use Rattle.net_code.specs.CodeView.{code_in}
use Rattle.net_code.specs.CodeLaw.{leaf_in}
use Rattle.code_fits.specs.declared.types.Types.{Types}
use Rattle.code_fits.specs.declared.layout.Layout.{Layout}
use Rattle.code_fits.specs.declared.layout.Program.{Program}
use Rattle.code_fits.specs.declared.program.Refused.{Refused}
use Rattle.code_fits.specs.declared.program.Refused.TheVariants as R
use Rattle.code_fits.specs.Standing.{stands_of}
use Rattle.code_fits.specs.FitLaw.{SamplesFit, AlwaysWell}
use Rattle.code_fits.specs.CodeOfNet.{IsCodeOf}
use Rattle.code_fits.specs.Room.{HasRoom, all_at}
use Rattle.code_fits.specs.Sizes.{kept_sizes, IsStateOf, IsFirstOver}
use Rattle.code_fits.specs.Tables.{tree_at, layout_of, bound_of, TableHolds, LayoutsFit}

-- the layout of a whole network: it has nothing in scope, and goes from the network's input to its
-- output
pub record IsWhole (t : TypedNetwork) (ts : Types) (L : Layout) : Type 0 where
  pub params : L.params.items ≡ []
  pub olds : L.olds.items ≡ []
  pub input : tree_at ts L.input ≡ t.input
  pub output : tree_at ts L.output ≡ t.output

-- the layout of the last function is that of the whole network
pub record HasWhole (t : TypedNetwork) (ts : Types) (fs : List Function) (Ls : List Layout) : Type 0 where
  pub layout : Layout
  pub last : slice_get Ls (latest (code_in fs)) ≡ Some layout
  pub whole : IsWhole t ts layout

-- a program is a typed network's code, its functions fit their layouts, the last is the network, lists of
-- the input have room for so many elements, and the greatest lengths of lists have 32 bits
pub record IsProgramOf (t : TypedNetwork) (most : ℕ) (p : Program) : Type 0 where
  pub code : IsCodeOf t p.functions.items
  pub table : TableHolds p.types
  pub layouts : LayoutsFit p.types p.bounds.items p.functions.items p.layouts.items
  pub whole : HasWhole t p.types p.functions.items p.layouts.items
  pub room : HasRoom (bound_of p.types p.bounds.items) most t.input
  pub small : AllBelow (2 ^ 32) p.bounds.items

-- how many bytes each function of a program keeps
abbrev pub sizes_of : Program → List ℕ
sizes_of p =
    kept_sizes (bound_of p.types p.bounds.items) p.functions.items
    (map (layout_of p.types) p.layouts.items)

-- no function keeps more than a state may have, and the state has so many bytes
abbrev pub StateFits : Program → Type 0
StateFits p = IsStateOf (sizes_of p) p.state_bytes

-- the node of function k stands at this position
pub record StandsAt (Ls : List Layout) (k : ℕ) (P : List ℕ) : Type 0 where
  pub layout : Layout
  pub there : slice_get Ls k ≡ Some layout
  pub position : P ≡ layout.position.items

-- function k is the first that keeps more than a state may have, and stands at the position
abbrev pub IsTooLarge : List ℕ → List Layout → List ℕ → Type 0
IsTooLarge ns Ls P = (k : ℕ) × IsFirstOver ns k × StandsAt Ls k P

-- of a network's program, whose functions fit their layouts
pub record KeepsTooMuch (t : TypedNetwork) (most : ℕ) (P : List ℕ) : Type 0 where
  pub program : Program
  pub fits : IsProgramOf t most program
  pub too_large : IsTooLarge (sizes_of program) program.layouts.items P

-- why a network has no program; `Untyped` and `Memory` say nothing about it
abbrev pub HasNoProgram : TypedNetwork → ℕ → Refused → Type 0
HasNoProgram t most (R.State P) = KeepsTooMuch t most P
HasNoProgram t most refused = Unit {0}

-- a program outputs, on any samples and from whatever is kept at the start, the network's stream,
-- whichever types its expressions are compiled under
abbrev pub ProgramOutputs : Type 0
ProgramOutputs = (t : TypedNetwork) (most : ℕ) (p : Program) → HasItsTypes t → IsProgramOf t most p
    → (types : Expr → List TypeTree × TypeTree) (s : Store) (xs : TimedList)
    → run_code (leaf_in types) (code_in p.functions.items) s xs ≡ stream_of t.net xs

-- and while it runs on samples of the input's type whose lists have at most so many elements, all that
-- stands fits
abbrev pub ProgramStands : Type 0
ProgramStands = (t : TypedNetwork) (most : ℕ) (p : Program) → IsProgramOf t most p
    → (s : Store) (xs : TimedList) → SamplesFit (all_at most) t.input false xs
    → AlwaysWell (bound_of p.types p.bounds.items)
    (stands_of (code_in p.functions.items) (map (layout_of p.types) p.layouts.items) s xs)
