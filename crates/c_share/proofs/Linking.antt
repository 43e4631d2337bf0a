-- What stands where in linked functions.
use Rattle.std.proofs.Common.{◌≡◌, ◌+◌, ◌<◌, ◌≤◌, ℕ, zero, suc, true, ltb, List, [], ◌∷◌, ◌++◌, length, Option, Some, None, refl, sym, ap, ◌∙◌, arith}
use Rattle.std.specs.Prelude.{slice_get}
use Rattle.std.proofs.lemmas.Bool.{ltb-true}
use Rattle.c_meaning.specs.Object.{Object}
use Rattle.c_meaning.specs.Syntax.{Function, File}
use Rattle.c_meaning.specs.Meaning.{Linked, function_run, no_function, numbered, link}
use Rattle.c_share.specs.Sharing.{calls_below}
use Rattle.c_share.proofs.Alike.{function_same, renumbered_self}

pub get_left : {A : Type 0} (xs ys : List A) (k : ℕ) → k < length xs → slice_get (xs ++ ys) k ≡ slice_get xs k
get_left [] ys k h = absurd (omega (arith, h))
get_left (x ∷ xs) ys zero h = refl
get_left (x ∷ xs) ys (suc k) h = get_left xs ys k (omega (arith, h))

pub get_end : {A : Type 0} (xs : List A) (x : A) → slice_get (xs ++ x ∷ []) (length xs) ≡ Some x
get_end [] x = refl
get_end (y ∷ xs) x = get_end xs x

pub get_past : {A : Type 0} (xs : List A) (k : ℕ) → length xs ≤ k → slice_get xs k ≡ None
get_past [] k h = refl
get_past (x ∷ xs) zero h = absurd (omega (arith, h))
get_past (x ∷ xs) (suc k) h = get_past xs k (omega (arith, h))

-- what a function does that is there, or not
abbrev pub found : Option Linked → Linked
found r = elim r [ None ↦ no_function | Some g ↦ g ]

pub at_number : (fs : List Linked) (k : ℕ) (r : Option Linked) (os : List Object) → slice_get fs k ≡ r
    → numbered fs k os ≡ found r os
at_number fs k r os e = ap (λ (s : Option Linked). found s os) e

pub link_end : (fs : List Linked) (hs : File) (h : Function)
    → link fs (hs ++ h ∷ []) ≡ link fs hs ++ function_run (numbered (link fs hs)) h ∷ []
link_end fs [] h = refl
link_end fs (g ∷ hs) h = link_end (fs ++ function_run (numbered fs) g ∷ []) hs h

one_more : {A : Type 0} (xs : List A) (x : A) → length (xs ++ x ∷ []) ≡ suc (length xs)
one_more [] x = refl
one_more (y ∷ xs) x = ap suc (one_more xs x)

pub link_length : (fs : List Linked) (hs : File) → length (link fs hs) ≡ length fs + length hs
link_length fs [] = omega arith
link_length fs (h ∷ hs) =
    let more = link_length (fs ++ function_run (numbered fs) h ∷ []) hs in
    let one = one_more fs (function_run (numbered fs) h) in omega (arith, more, one)

-- what is linked stays
pub link_kept : (fs : List Linked) (hs : File) (k : ℕ) → k < length fs → slice_get (link fs hs) k ≡ slice_get fs k
link_kept fs [] k l = refl
link_kept fs (h ∷ hs) k l =
    let one = one_more fs (function_run (numbered fs) h) in
    link_kept (fs ++ function_run (numbered fs) h ∷ []) hs k (omega (arith, l, one))
    ∙ get_left fs (function_run (numbered fs) h ∷ []) k l

-- a function that calls earlier ones is itself over all that are linked
same_over : (fs gs : List Linked) (h : Function) → ((k : ℕ) → k < length fs → slice_get gs k ≡ slice_get fs k)
    → calls_below (length fs) h.body ≡ true → (os : List Object)
    → function_run (numbered fs) h os ≡ function_run (numbered gs) h os
same_over fs gs h kept below os =
    function_same (numbered fs) (numbered gs) (λ k. k) (λ k. ltb k (length fs))
    (λ k l as1. sym (at_number gs k (slice_get fs k) as1 (kept k (ltb-true k (length fs) l)))) h below os
    ∙ ap (λ c. function_run (numbered gs) (record { params = h.params; result = h.result; body = c }) os)
    (renumbered_self h.body)

first_there : (fs : List Linked) (hs : File) (g : Function) → calls_below (length fs) g.body ≡ true → (os : List Object)
    → numbered (link fs (g ∷ hs)) (length fs) os ≡ function_run (numbered (link fs (g ∷ hs))) g os
first_there fs hs g below os =
    let x : Linked = function_run (numbered fs) g in
    let one = one_more fs x in
    at_number (link (fs ++ x ∷ []) hs) (length fs) (Some x) os
    (link_kept (fs ++ x ∷ []) hs (length fs) (omega (arith, one)) ∙ get_end fs x)
    ∙ same_over fs (link (fs ++ x ∷ []) hs) g
    (λ k l. link_kept (fs ++ x ∷ []) hs k (omega (arith, l, one)) ∙ get_left fs (x ∷ []) k l) below os

some_same : {A : Type 0} (x y : A) → Some x ≡ Some y → x ≡ y
some_same x y e = cc

-- so is each, where it stands
pub link_there : (fs : List Linked) (hs : File) (j : ℕ) (h : Function) → slice_get hs j ≡ Some h
    → calls_below (length fs + j) h.body ≡ true → (os : List Object)
    → numbered (link fs hs) (length fs + j) os ≡ function_run (numbered (link fs hs)) h os
link_there fs [] j h e below os = absurd (cc)
link_there fs (g ∷ hs) zero h e below os =
    let at : length fs + 0 ≡ length fs = omega arith in
    let is : h ≡ g = sym (some_same g h e) in
    ap (λ k. numbered (link fs (g ∷ hs)) k os) at
    ∙ first_there fs hs g (ap (λ i. calls_below (length fs) i.body) (sym is) ∙ (ap (λ k. calls_below k h.body) (sym at) ∙ below)) os
    ∙ ap (λ i. function_run (numbered (link fs (g ∷ hs))) i os) (sym is)
link_there fs (g ∷ hs) (suc j) h e below os =
    let x : Linked = function_run (numbered fs) g in
    let one = one_more fs x in
    let at : length fs + suc j ≡ length (fs ++ x ∷ []) + j = omega (arith, one) in
    ap (λ k. numbered (link fs (g ∷ hs)) k os) at
    ∙ link_there (fs ++ x ∷ []) hs j h e (ap (λ k. calls_below k h.body) (sym at) ∙ below) os
