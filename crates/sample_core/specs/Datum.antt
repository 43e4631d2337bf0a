-- Values as mathematical trees: what a `Sample` is to every contract.
use Rattle.std.specs.Prelude.{ℕ, suc, ◌+◌, ℤ, pos, Bool, List, [], ◌∷◌}

mutual
  -- a value: what a sample holds
  pub data Datum : Type 0 where
    unit : Datum
    bool : Bool → Datum
    int : ℤ → Datum
    pair : Datum → Datum → Datum
    no_event : Datum
    event : Datum → Datum
    list : Datums → Datum

  -- the elements of a list value, in order
  pub data Datums : Type 0 where
    end : Datums
    more : Datum → Datums → Datums

-- the elements of a list value as a list
abbrev pub elements : Datums → List Datum
elements end = []
elements (more v vs) = v ∷ elements vs

-- a list as the elements of a list value
abbrev pub list_of : List Datum → Datums
list_of [] = end
list_of (v ∷ vs) = more v (list_of vs)

-- the first part of a pair; a value that is no pair is its own part
abbrev pub left : Datum → Datum
left (pair v w) = v
left v = v

-- the second part of a pair
abbrev pub right : Datum → Datum
right (pair v w) = w
right v = v

-- the number of a number value; 0 of another
abbrev pub int_of : Datum → ℤ
int_of (int n) = n
int_of v = pos 0

-- the elements of a list value; none of another value
abbrev pub items_of : Datum → List Datum
items_of (list vs) = elements vs
items_of _ = []

-- how many forms stand inside one another: what falls in a recursion
abbrev mutual
  pub datum_size : Datum → ℕ
  datum_size unit = 0
  datum_size (bool b) = 0
  datum_size (int n) = 0
  datum_size (pair v w) = suc (datum_size v + datum_size w)
  datum_size no_event = 0
  datum_size (event v) = suc (datum_size v)
  datum_size (list vs) = suc (datums_size vs)

  -- the same of the elements of a list
  pub datums_size : Datums → ℕ
  datums_size end = 0
  datums_size (more v vs) = suc (datum_size v + datums_size vs)
