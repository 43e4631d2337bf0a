-- The value that is looked at.
use Rattle.std.specs.Prelude.{◌≡◌, List}
use Rattle.sample_core.specs.Datum.{Datum}
use Rattle.sample_core.specs.ValueView.{datum_of}
use Rattle.leaf_core.specs.Expression.{Expression}
use Rattle.leaf_core.specs.ExpressionValue.{value_of}
use Rattle.leaf_core.specs.declared.looked.Looked.{Looked}
use Rattle.leaf_core.specs.declared.looked.Looked.TheVariants.{There, Made}

-- the value that is looked at, whether it stands elsewhere or was made to be looked at
abbrev pub looked_value : Looked → Datum
looked_value (There v) = datum_of v.now
looked_value (Made v) = datum_of v

-- v is the expression's value at the input x, whatever the parameters
abbrev pub IsValueAt : Datum → Expression → Datum → Type 0
IsValueAt x e v = (ps : List Datum) → v ≡ value_of e ps x
