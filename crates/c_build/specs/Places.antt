-- Where objects stand, and how many elements a list has there.
use Rattle.std.specs.Prelude.{◌≡◌, ℕ}
use Rattle.sample_core.specs.TypeTree.{TypeTree, list_ty}
use Rattle.leaf_code.specs.Fitting.{Bounds}
use Rattle.c_meaning.specs.Syntax.{Term, local, dot, at}
use Rattle.c_build.specs.declared.place.Place as P

-- the term of a place
abbrev pub place_term : P.Place → Term
place_term (P.Local k) = local k
place_term (P.Dot' p e k) = dot (place_term e) k
place_term (P.At' p e k) = at (place_term e) (local k)

-- a type of lists has so many elements at most
abbrev pub HasMost : Bounds → TypeTree → ℕ → Type 0
HasMost n (list_ty A) m = n A ≡ m
HasMost n A m = Unit {0}
