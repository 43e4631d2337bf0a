use Rattle.std.proofs.Common.{◌+◌, ◌*◌}
use Rattle.leaf_expr.proofs.type_reader.+read_type.Given as goal

abbrev pub decreases-read_type : goal.decreases-read_type
decreases-read_type l = 6 * l.room + 1

abbrev pub decreases-type_form : goal.decreases-type_form
decreases-type_form l = 6 * l.room + 6

abbrev pub decreases-type_parts : goal.decreases-type_parts
decreases-type_parts l = 6 * l.room + 5

abbrev pub decreases-pair_type : goal.decreases-pair_type
decreases-pair_type l = 6 * l.room + 4

abbrev pub decreases-last_type : goal.decreases-last_type
decreases-last_type l = 6 * l.room + 3

abbrev pub decreases-type_part : goal.decreases-type_part
decreases-type_part l = 6 * l.room + 2
