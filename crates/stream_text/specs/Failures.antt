-- How often a reader or a writer failed.
use Rattle.std.specs.Prelude.{◌≡◌, ◌⊎◌, ◌<◌, ◌+◌, ◌-◌, ◌^◌, ℕ, min, nat_eq, Result, Ok, Err, if◌then◌else◌}

-- one more, up to 2^64 - 1
abbrev pub counted_up : ℕ → ℕ
counted_up n = min (n + 1) (2 ^ 64 - 1)

-- the count after a read: it fails, or gives bytes or the end
abbrev pub after_read : {E : Type 0} → ℕ → Result ℕ E → ℕ
after_read n (Ok taken) = n
after_read n (Err e) = counted_up n

-- the count after a write: it fails where it takes no byte
abbrev pub after_write : {E : Type 0} → ℕ → Result ℕ E → ℕ
after_write n (Ok taken) = if nat_eq taken 0 then counted_up n else n
after_write n (Err e) = counted_up n

-- the count rose in a call; at its greatest, it counts as risen in each
abbrev pub Rose : ℕ → ℕ → Type 0
Rose old new = (old < new) ⊎ (new ≡ 2 ^ 64 - 1)
