-- What a contract sees of a reader or writer that counts its failures.
use Rattle.std.specs.Prelude.{ℕ}
use Rattle.stream_text.specs.declared.device.Counted.{Counted}

-- the reader or writer itself
abbrev pub counted_inner : {T : Type 0} → Counted T → T
counted_inner c = c.inner

-- how often it failed
abbrev pub counted_failures : {T : Type 0} → Counted T → ℕ
counted_failures c = c.failures
