-- What is tested of the parts of a switch, whose types are numbers in a table.
use Rattle.std.specs.Prelude.{◌≡◌, ℕ, List, [], ◌∷◌, ◌++◌, map, slice_get, Some}
use Rattle.code_fits.specs.declared.types.Types.{Types}
use Rattle.code_fits.specs.declared.types.TypeEntry.TheVariants as R
use Rattle.code_fits.specs.declared.layout.Layout.{Layout}
use Rattle.code_fits.specs.Rules.{Goes}
use Rattle.code_fits.specs.Tables.{tree_at, trees_at, layout_of}

-- function j goes from a to b, with the same in scope as where the layout stands
abbrev pub GoesHere : Types → List Layout → Layout → ℕ → ℕ → ℕ → Type 0
GoesHere ts Es L j a b =
    Goes (map (layout_of ts) Es) j (trees_at ts L.params.items) L.olds.items (tree_at ts a)
    (tree_at ts b)

-- function t goes from a to b, with a parameter more, and with these frozen networks in scope
abbrev pub TakesOver : Types → List Layout → Layout → List ℕ → ℕ → ℕ → ℕ → ℕ → Type 0
TakesOver ts Es L os t by a b =
    Goes (map (layout_of ts) Es) t (trees_at ts L.params.items ++ tree_at ts by ∷ []) os
    (tree_at ts a) (tree_at ts b)

-- entry k of the table is of pairs of a and b
abbrev pub IsPair : Types → ℕ → ℕ → ℕ → Type 0
IsPair ts k a b = slice_get ts.entries.items k ≡ Some (R.Pair a b)

-- entry k of the table is of events of a
abbrev pub IsEvent : Types → ℕ → ℕ → Type 0
IsEvent ts k a = slice_get ts.entries.items k ≡ Some (R.Event a)

-- a switch watches what f answers, of a type of pairs with an event; its value starts t
pub record Watches (ts : Types) (Es : List Layout) (L : Layout) (f t answer event by : ℕ) : Type 0
  where
    pub kept : L.kept ≡ Some by
    pub pairs : IsPair ts answer L.output event
    pub events : IsEvent ts event by
    pub front : GoesHere ts Es L f L.input answer
    pub taker : TakesOver ts Es L L.olds.items t by L.input L.output

-- a switch gets an event beside its input of type a; its value starts t
pub record Restarts (ts : Types) (Es : List Layout) (L : Layout) (f t a event by : ℕ) : Type 0 where
  pub kept : L.kept ≡ Some by
  pub pairs : IsPair ts L.input a event
  pub events : IsEvent ts event by
  pub front : GoesHere ts Es L f a L.output
  pub taker : TakesOver ts Es L L.olds.items t by a L.output

-- a switch that freezes functions: e, which gets pairs of the input and the answer, looks for the
-- event, whose value starts t
pub record Freezes (ts : Types) (Es : List Layout) (L : Layout) (fs : List ℕ)
    (e t both event by : ℕ) : Type 0 where
  pub kept : L.kept ≡ Some by
  pub pairs : IsPair ts both L.input L.output
  pub events : IsEvent ts event by
  pub watcher : GoesHere ts Es L e both event
  pub resumer : TakesOver ts Es L (L.olds.items ++ fs) t by L.input L.output
  pub values : L.values.items ≡ L.output ∷ L.output ∷ both ∷ event ∷ L.output ∷ L.output ∷ []
