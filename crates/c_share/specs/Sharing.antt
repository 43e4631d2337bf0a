-- Files whose equal functions stand once. What a function does hangs on its tree and on what it calls alone.
use Rattle.std.specs.Prelude.{◌≡◌, ℕ, ltb, Bool, true, ◌&&◌, List, [], ◌∷◌, ◌++◌, length, get_or, slice_get, Some}
use Rattle.c_meaning.specs.Object.{Object}
use Rattle.c_meaning.specs.Syntax.{Command, sequence, call, branch, loop, Function, File}
use Rattle.c_meaning.specs.Meaning.{numbered, link}

-- a command whose callees have other numbers
abbrev pub renumbered : (ℕ → ℕ) → Command → Command
renumbered r (sequence a b) = sequence (renumbered r a) (renumbered r b)
renumbered r (call T k as1) = call T (r k) as1
renumbered r (branch c a b) = branch c (renumbered r a) (renumbered r b)
renumbered r (loop n c a) = loop n c (renumbered r a)
renumbered r c = c

-- the same of a function
abbrev pub with_numbers : (ℕ → ℕ) → Function → Function
with_numbers r h = record { params = h.params; result = h.result; body = renumbered r h.body }

-- whether this holds of the number of each callee
abbrev pub all_called : (ℕ → Bool) → Command → Bool
all_called p (sequence a b) = all_called p a && all_called p b
all_called p (call T k as1) = p k
all_called p (branch c a b) = all_called p a && all_called p b
all_called p (loop n c a) = all_called p a
all_called p c = true

-- whether only functions below number j are called
abbrev pub calls_below : ℕ → Command → Bool
calls_below j c = all_called (λ k. ltb k j) c

-- the new number of function k; ks: those of the functions that are there
abbrev pub number_in : List ℕ → ℕ → ℕ
number_in ks k = get_or ks k k

-- a file, one where equal functions stand once, and the number there of each function of the first
pub data Shares : File → File → List ℕ → Type 0 where
  nothing : Shares [] [] []
  -- with a function more, which stands behind the others
  and_function : {hs gs : File} {ks : List ℕ} (h : Function) → Shares hs gs ks
      → Shares (hs ++ h ∷ []) (gs ++ with_numbers (number_in ks) h ∷ []) (ks ++ length gs ∷ [])
  -- with one that equals function j, which calls earlier ones
  and_equal : {hs gs : File} {ks : List ℕ} (h : Function) (j : ℕ) → Shares hs gs ks
      → slice_get gs j ≡ Some (with_numbers (number_in ks) h)
      → calls_below j (renumbered (number_in ks) h.body) ≡ true
      → Shares (hs ++ h ∷ []) gs (ks ++ j ∷ [])

-- each function does what it did, at its new number
abbrev pub ShareLaw : Type 0
ShareLaw = (hs gs : File) (ks : List ℕ) → Shares hs gs ks → (k : ℕ) (os : List Object)
    → numbered (link [] hs) k os ≡ numbered (link [] gs) (number_in ks k) os
