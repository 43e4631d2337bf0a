-- Why there is no program.
use Rattle.std.proofs.Common.{◌^◌, ℕ, List, map}
use Rattle.std.specs.declared.vec.Vec.{Vec}
use Rattle.std.specs.declared.alloc.Global.{Global}
use Rattle.net_meaning.specs.TypedNetwork.{TypedNetwork}
use Rattle.net_code.specs.Running.{AllBelow}
use Rattle.net_code.specs.declared.statement.Function.{Function}
use Rattle.code_fits.specs.declared.layout.Layout.{Layout}
use Rattle.code_fits.specs.declared.program.Refused.{Refused}
use Rattle.code_fits.specs.declared.program.Refused.TheVariants as R
use Rattle.code_fits.specs.declared.types.Types.{Types}
use Rattle.code_fits.specs.CodeOfNet.{IsCodeOf}
use Rattle.code_fits.specs.Programs.{HasNoProgram, HasWhole}
use Rattle.code_fits.specs.Refusing.{IsNoState, RefusesAt, RefusesSizes}
use Rattle.code_fits.specs.Room.{HasRoom}
use Rattle.code_fits.specs.Sizes.{IsFirstOver, kept_sizes}
use Rattle.code_fits.specs.Tables.{LayoutsFit, TableHolds, bound_of, layout_of}

pub unsized-at : (Ls : List Layout) (k : ℕ) (r : Refused) → IsNoState r → RefusesAt Ls k r
unsized-at Ls k (R.State P) h = absurd h
unsized-at Ls k R.Untyped h = tt
unsized-at Ls k R.Memory h = tt

pub unsized : (ns : List ℕ) (Ls : List Layout) (r : Refused) → IsNoState r → RefusesSizes ns Ls r
unsized ns Ls (R.State P) h = absurd h
unsized ns Ls R.Untyped h = tt
unsized ns Ls R.Memory h = tt

pub no-program : (t : TypedNetwork) (most : ℕ) (r : Refused) → IsNoState r → HasNoProgram t most r
no-program t most (R.State P) h = absurd h
no-program t most R.Untyped h = tt
no-program t most R.Memory h = tt

-- the first function that keeps too much, and where it stands
pub first-refused : (ns : List ℕ) (Ls : List Layout) (k : ℕ) (r : Refused) → IsFirstOver ns k → RefusesAt Ls k r → RefusesSizes ns Ls r
first-refused ns Ls k (R.State P) f s = (k, f, s)
first-refused ns Ls k R.Untyped f s = tt
first-refused ns Ls k R.Memory f s = tt

-- of functions that fit their layouts
pub program-refused : (t : TypedNetwork) (most : ℕ) (fs : Vec Function Global) (Ls : Vec Layout Global) (ts : Types) (ns : Vec ℕ Global) (r : Refused)
    → IsCodeOf t fs.items → TableHolds ts → LayoutsFit ts ns.items fs.items Ls.items → HasWhole t ts fs.items Ls.items
    → HasRoom (bound_of ts ns.items) most t.input → AllBelow (2 ^ 32) ns.items
    → RefusesSizes (kept_sizes (bound_of ts ns.items) fs.items (map (layout_of ts) Ls.items)) Ls.items r → HasNoProgram t most r
program-refused t most fs Ls ts ns (R.State P) code table layouts whole room below h = record {
  program = record { functions = fs; layouts = Ls; types = ts; bounds = ns; state_bytes = 0 };
  fits = record { code = code; table = table; layouts = layouts; whole = whole; room = room; small = below };
  too_large = h;
}
program-refused t most fs Ls ts ns R.Untyped code table layouts whole room below h = tt
program-refused t most fs Ls ts ns R.Memory code table layouts whole room below h = tt
