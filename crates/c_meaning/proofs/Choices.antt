-- Both sides of `?:` have one type.
use Rattle.std.proofs.Common.{◌≡◌, ℕ, zero, suc, Bool, true, List, Option, Some, None, refl, ap, ap₂, ◌∙◌}
use Rattle.std.specs.Prelude.{if◌then◌else◌}
use Rattle.c_meaning.specs.Object.{CType, Object, truth, number, end, more, has_type, each_has, like, part_of}
use Rattle.c_meaning.specs.Syntax.{Term, choice}
use Rattle.c_meaning.specs.Meaning.{Frame, bind, eval, choice_of, basic_in, one_type, basic_of}
use Rattle.c_meaning.proofs.Alike.{no, left-yes, alike}

pub like-one-type : (o p : Object) → like o p ≡ true → one_type (basic_in (Some o)) (basic_in (Some p)) ≡ true
like-one-type (truth b) (truth c) e = refl
like-one-type (truth b) (number T z) e = no e
like-one-type (truth b) p e = refl
like-one-type (number S y) (number T z) e = e
like-one-type (number S y) (truth c) e = no e
like-one-type (number S y) p e = refl
like-one-type o p e = refl

-- such a term looks at one of its sides
pub choice-typed : (f : Frame) (c a b : Term) → one_type (basic_of f a) (basic_of f b) ≡ true → eval f (choice c a b) ≡ bind (eval f c) (λ v. choice_of v (eval f a) (eval f b))
choice-typed f c a b e = ap (λ t. if t then bind (eval f c) (λ v. choice_of v (eval f a) (eval f b)) else None) e

pub choice-like : (f : Frame) (c a b : Term) (o p : Object) → basic_of f a ≡ basic_in (Some o) → basic_of f b ≡ basic_in (Some p) → like o p ≡ true
    → eval f (choice c a b) ≡ bind (eval f c) (λ v. choice_of v (eval f a) (eval f b))
choice-like f c a b o p ea eb l = choice-typed f c a b (ap₂ one_type ea eb ∙ like-one-type o p l)

-- an element of an array, wherever it stands, and another object of its type
pub first-like : (T : CType) (m : ℕ) (es d : Object) → each_has (has_type T) m es ≡ true → has_type T d ≡ true → one_type (basic_in (part_of es 0)) (basic_in (Some d)) ≡ true
first-like T zero end d e t = refl
first-like T zero _ d e t = no e
first-like T (suc m) (more a as1) d e t = like-one-type a d (alike T a d (left-yes (has_type T a) (each_has (has_type T) m as1) e) t)
first-like T (suc m) _ d e t = no e
