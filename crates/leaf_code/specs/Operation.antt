-- What a step of code does: of registers, by their numbers, a value.
use Rattle.std.specs.Prelude.{ℕ, ℤ, Bool, List}

-- an operation on registers j, k ..
pub data Operation : Type 0 where
  -- parameter k
  param : ℕ → Operation
  -- literals
  unit : Operation
  bool : Bool → Operation
  int : ℤ → Operation
  pair : ℕ → ℕ → Operation
  left : ℕ → Operation
  right : ℕ → Operation
  neg : ℕ → Operation
  add : ℕ → ℕ → Operation
  sub : ℕ → ℕ → Operation
  mul : ℕ → ℕ → Operation
  less : ℕ → ℕ → Operation
  equal : ℕ → ℕ → Operation
  not : ℕ → Operation
  and : ℕ → ℕ → Operation
  or : ℕ → ℕ → Operation
  -- register j where register c is true, else register k
  choose : ℕ → ℕ → ℕ → Operation
  no_event : Operation
  event : ℕ → Operation
  -- whether register j is an event
  is_event : ℕ → Operation
  -- what the event in register j carries
  carried : ℕ → Operation
  -- the list of these registers
  list : List ℕ → Operation
  -- the element of list j at k; register d outside
  nth : ℕ → ℕ → ℕ → Operation
  len : ℕ → Operation
