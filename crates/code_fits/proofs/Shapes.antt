-- What a function finds at a step: a store of its shape.
use Rattle.std.proofs.Common.{ℕ, zero, suc, List, [], ◌∷◌, map, Option, Some, None}
use Rattle.sample_core.specs.Datum.{Datum}
use Rattle.sample_core.specs.TypeTree.{TypeTree}
use Rattle.leaf_code.specs.Fitting.{Bounds, Fits}
use Rattle.cell_core.specs.declared.form.Form.{Form}
use Rattle.cell_core.specs.declared.form.Form.TheVariants as C
use Rattle.net_machine.specs.Store.{Store, Origin, written, made, Entry, entries, one, other, fed_value, looped, mode_of, front_part, taker_part, frozen_when, frozen_part, resumer_part, cell_in}
use Rattle.net_code.specs.declared.statement.Function.{Function}
use Rattle.net_code.specs.declared.statement.Function.TheVariants as F
use Rattle.code_fits.specs.Layouts.{Layout, kept_type}
use Rattle.code_fits.specs.Standing.{CellFits}
use Rattle.code_fits.proofs.Cells.{At}

pub data Shape : Type 0 where
  none : Shape
  both : Shape → Shape → Shape
  fed : TypeTree → Shape → Shape
  cell : Form → TypeTree → Shape
  mode : TypeTree → Shape → Shape → Shape
  frozen : TypeTree → Shape → Shape → Shape → Shape
  collection : TypeTree → Shape → Shape → Shape

-- members, one behind the other
abbrev pub chain : List Shape → Shape
chain [] = none
chain (a ∷ as1) = both a (chain as1)

-- before something has taken over, and after
abbrev pub by_mode : Option Datum → Type 0 → (Datum → Type 0) → Type 0
by_mode None P Q = P
by_mode (Some c) P Q = Q c

module _ (bound : Bounds) where
  -- a member of a collection
  abbrev pub EntryFits : (ℕ → Store → Type 0) → (Store → Type 0) → TypeTree → Origin → Store → Type 0
  EntryFits ms t V (written k) a = ms k a
  EntryFits ms t V (made v) a = Fits bound v V × t a

  abbrev pub EntriesFit : (ℕ → Store → Type 0) → (Store → Type 0) → TypeTree → List Entry → Type 0
  EntriesFit ms t V [] = Unit {0}
  EntriesFit ms t V (e ∷ es) = EntryFits ms t V e.0 e.1 × EntriesFit ms t V es

  abbrev mutual
    pub StoreFits : Shape → Store → Type 0
    StoreFits none s = Unit {0}
    StoreFits (both a b) s = StoreFits a (one s) × StoreFits b (other s)
    StoreFits (fed T a) s = Fits bound (fed_value s) T × StoreFits a (looped s)
    StoreFits (cell form T) s = CellFits bound form T (cell_in s)
    StoreFits (mode T a b) s = by_mode (mode_of s) (StoreFits a (front_part s)) (λ c. Fits bound c T × StoreFits b (taker_part s))
    StoreFits (frozen T a w t) s =
        by_mode (mode_of s) (StoreFits a (one (front_part s)) × StoreFits w (other (front_part s)))
        (λ c. Fits bound c T × At (frozen_when (taker_part s)) (StoreFits a (frozen_part (taker_part s))) × StoreFits t (resumer_part (taker_part s)))
    StoreFits (collection T ms t) s = EntriesFit (λ k a. MemberFits ms k a) (λ a. StoreFits t a) T (entries s)

    -- member k
    pub MemberFits : Shape → ℕ → Store → Type 0
    MemberFits (both a b) zero s = StoreFits a s
    MemberFits (both a b) (suc k) s = MemberFits b k s
    MemberFits _ k s = ⊥

-- what a function keeps, over what earlier ones do
abbrev pub shape_of : (ℕ → Shape) → Layout → Function → Shape
shape_of S L (F.Arr e) = none
shape_of S L (F.Seq f g) = both (S f) (S g)
shape_of S L (F.First f) = S f
shape_of S L (F.Par fs) = chain (map S fs.items)
shape_of S L (F.Loop c f) = fed (kept_type L) (S f)
shape_of S L (F.Cell form c) = cell form (kept_type L)
shape_of S L (F.Clock form) = cell form (kept_type L)
shape_of S L (F.Accum g z) = cell C.AccumBy (kept_type L)
shape_of S L (F.Switch f t) = mode (kept_type L) (S f) (S t)
shape_of S L (F.DSwitch f t) = mode (kept_type L) (S f) (S t)
shape_of S L (F.RSwitch f t) = mode (kept_type L) (S f) (S t)
shape_of S L (F.DrSwitch f t) = mode (kept_type L) (S f) (S t)
shape_of S L (F.KSwitch f e t) = frozen (kept_type L) (S f) (S e) (S t)
shape_of S L (F.PSwitch r fs e t) = frozen (kept_type L) (chain (map S fs.items)) (S e) (S t)
shape_of S L (F.Old k f n m) = S f
shape_of S L F.Same = none
shape_of S L (F.InitialOut c f) = S f
shape_of S L (F.InitialIn c f) = S f
shape_of S L (F.Collection fs m t) = collection (kept_type L) (chain (map S fs.items)) (S t)
