-- Each value inside a value is smaller than it.
use Rattle.std.specs.Prelude.{◌≤◌, max, List, [], ◌∷◌, map}
use Rattle.std.proofs.Common.{arith}
use denote.Param.Weighed.{most}
use Rattle.sample_core.specs.Datum.{list_of, datum_size, datums_size}
use Rattle.sample_core.specs.declared.sample.Sample.{Sample}
use Rattle.sample_core.specs.declared.sample.Sample.TheVariants as V
use Rattle.sample_core.specs.declared.sample.SampleChild.TheDeep.{deep-Sample}
use Rattle.sample_core.specs.ValueView.{datum_of}

-- a value's depth in the code is at most its size
pub depth_le : (n : Sample) → max (deep-Sample n) 0 ≤ datum_size (datum_of n)
depth_le V.Unit = omega arith
depth_le (V.Bool b) = omega arith
depth_le (V.Int n) = omega arith
depth_le (V.Pair p) = omega arith
depth_le V.NoEvent = omega arith
depth_le (V.Event a) = omega arith
depth_le (V.List vs) = omega arith

-- each element's depth in the code is at most the size of all elements
pub depths_le : (ks : List Sample) → most deep-Sample ks ≤ datums_size (list_of (map datum_of ks))
depths_le [] = omega arith
depths_le (k ∷ ks) = omega (arith, depth_le k, depths_le ks)
