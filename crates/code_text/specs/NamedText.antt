-- Constant text of C, in which `@` stands for the prefix of all names.
use Rattle.std.specs.Prelude.{ℕ, ◌==◌, if◌then◌else◌, List, [], ◌∷◌, ◌++◌}

-- a text, with t in place of each byte m
abbrev pub with_each : ℕ → List ℕ → List ℕ → List ℕ
with_each m t [] = []
with_each m t (c ∷ cs) = (if c == m then t else c ∷ []) ++ with_each m t cs

-- a text, with the prefix P in place of each `@`
abbrev pub named_text : List ℕ → List ℕ → List ℕ
named_text P s = with_each 64 P s
