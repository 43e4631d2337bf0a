use Rattle.std.proofs.Common.{arith, ◌≡◌, ◌<◌, take}
use Rattle.std.specs.Char.{is_ascii_digit}
use Rattle.std.proofs.lemmas.Grind.{common_steps}
use Rattle.std.proofs.lemmas.List.Sums.{prefix_len_passes}
use Rattle.stream_text.proofs.step_text.split_digits.Goals as goal

pub step_value-requires : goal.step_value-requires
step_value-requires c k l =
    let front : c.split_at.result.0.now ≡ take c.digits_len.result c.in_ok-text.text.now = c.split_at.ensures.front in
    let within : k < c.digits_len.result = grind (arith, common_steps) in
    rw c.split_at.ensures.front (grind (arith, common_steps, prefix_len_passes is_ascii_digit c.in_ok-text.text.now k 0))
