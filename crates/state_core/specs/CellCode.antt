-- The codes of cells, by which the check tells them apart.
use Rattle.std.specs.Prelude.{◌≡◌, ℕ, refl, List}
use Rattle.std.proofs.Common.{ap, arith}
use Rattle.std.specs.Coded.{Coded, coded_ℕ, coded_ℤ, coded_list, coded×}
use base.Stored.{Gv, gnil, gnum, num, coded_via}
use denote.Struct.Codes.{itself}
use Rattle.sample_core.specs.Datum.{Datum}
use Rattle.sample_core.specs.DatumCode.{datum_code}
use Rattle.sample_core.specs.CodeNode.{node, tag_of, part0, part1, part2}
use Rattle.cell_core.specs.Cell.{Cell, previous, queue, latest, accumulating, waiting, over, recurring, ticking, summing}

-- waiting values and the time that is left to them
abbrev pub waiting_code : Coded (List (ℕ × Datum))
waiting_code = coded_list (coded× coded_ℕ datum_code)

-- a cell's code: the number of its form, and then its parts
abbrev pub cell_to_code : Cell → Gv
cell_to_code (previous v) = node 0 (datum_code.code v) gnil gnil gnil
cell_to_code (queue q out is) = node 1 (gnum q) (datum_code.code out) (waiting_code.code is) gnil
cell_to_code (latest v) = node 2 (datum_code.code v) gnil gnil gnil
cell_to_code (waiting left c) = node 3 (gnum left) (datum_code.code c) gnil gnil
cell_to_code over = node 4 gnil gnil gnil gnil
cell_to_code (recurring q left c) = node 5 (gnum q) (gnum left) (datum_code.code c) gnil
cell_to_code (ticking z) = node 6 (coded_ℤ.code z) gnil gnil gnil
cell_to_code (summing z before) = node 7 (coded_ℤ.code z) (coded_ℤ.code before) gnil gnil
cell_to_code (accumulating acc) = node 8 (datum_code.code acc) gnil gnil gnil

-- cells with one code are the same
pub cell_to_code_inj : (x y : Cell) → cell_to_code x ≡ cell_to_code y → x ≡ y
cell_to_code_inj (previous v) (previous w) e = ap previous (datum_code.inj v w (ap part0 e))
cell_to_code_inj (queue q v is) (queue q' w js) e = λ i. queue (num (part0 (e i)))
    (datum_code.inj v w (ap part1 e) i) (waiting_code.inj is js (ap part2 e) i)
cell_to_code_inj (latest v) (latest w) e = ap latest (datum_code.inj v w (ap part0 e))
cell_to_code_inj (waiting l v) (waiting l' w) e = λ i. waiting (num (part0 (e i)))
    (datum_code.inj v w (ap part1 e) i)
cell_to_code_inj over over e = refl
cell_to_code_inj (recurring q l v) (recurring q' l' w) e = λ i. recurring (num (part0 (e i)))
    (num (part1 (e i))) (datum_code.inj v w (ap part2 e) i)
cell_to_code_inj (ticking z) (ticking z') e = ap ticking (coded_ℤ.inj z z' (ap part0 e))
cell_to_code_inj (summing z b) (summing z' b') e = λ i. summing (coded_ℤ.inj z z' (ap part0 e) i)
    (coded_ℤ.inj b b' (ap part1 e) i)
cell_to_code_inj (accumulating v) (accumulating w) e = ap accumulating
    (datum_code.inj v w (ap part0 e))
cell_to_code_inj _ _ e = absurd (omega (arith, ap tag_of e))

-- cells told apart by their codes
abbrev pub cell_code : Coded Cell
cell_code = coded_via itself cell_to_code cell_to_code_inj
