use Rattle.std.proofs.Common.{◌≡◌, true, take}
use Rattle.std.specs.Str.{all_ascii_digits}
use Rattle.std.specs.Str.Parse.{digits_value}
use Rattle.sample_core.proofs.front_number.front_digits.Given as goal

-- what was passed is digits, and they write the number
abbrev pub invariant-loop-len : goal.invariant-loop-len
invariant-loop-len l = record {
  digits : all_ascii_digits (take l.len l.text) ≡ true;
  value : l.n ≡ digits_value 10 (take l.len l.text);
}
