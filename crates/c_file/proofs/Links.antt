-- Files that are linked: each function is run over the earlier ones.
use Rattle.std.proofs.Common.{◌≡◌, ℕ, zero, suc, ◌+◌, ◌<◌, List, [], ◌∷◌, ◌++◌, length, Option, Some, None, refl, sym, ap, ◌∙◌, arith, append-nil, append_assoc, length-append}
use Rattle.std.specs.Prelude.{slice_get}
use Rattle.c_meaning.specs.Syntax.{Function, File}
use Rattle.c_meaning.specs.Meaning.{Linked, no_function, numbered, function_run, link}

get-front : {X : Type 0} (xs ys : List X) (k : ℕ) → k < length xs → slice_get (xs ++ ys) k ≡ slice_get xs k
get-front [] ys k l = absurd (omega arith)
get-front (x ∷ xs) ys zero l = refl
get-front (x ∷ xs) ys (suc k) l = get-front xs ys k (omega arith)

get-next : {X : Type 0} (xs : List X) (y : X) (ys : List X) → slice_get (xs ++ y ∷ ys) (length xs) ≡ Some y
get-next [] y ys = refl
get-next (x ∷ xs) y ys = get-next xs y ys

-- the function there, if there is one
abbrev or-none : Option Linked → Linked
or-none r = elim r [ None ↦ no_function | Some g ↦ g ]

pub earlier : (fs gs : List Linked) (k : ℕ) → k < length fs → numbered (fs ++ gs) k ≡ numbered fs k
earlier fs gs k l = ap or-none (get-front fs gs k l)

pub newest : (fs : List Linked) (g : Linked) (gs : List Linked) → numbered (fs ++ g ∷ gs) (length fs) ≡ g
newest fs g gs = ap or-none (get-next fs g gs)

pub link-append : (fs : List Linked) (a b : File) → link fs (a ++ b) ≡ link (link fs a) b
link-append fs [] b = refl
link-append fs (h ∷ a) b = link-append (fs ++ function_run (numbered fs) h ∷ []) a b

-- linking adds functions behind those there
pub link-more : (fs : List Linked) (a : File) → (gs : List Linked) × (link fs a ≡ fs ++ gs)
link-more fs [] = ([], sym (append-nil fs))
link-more fs (h ∷ a) =
    let f : Linked = function_run (numbered fs) h in
    let r : (gs : List Linked) × (link (fs ++ f ∷ []) a ≡ (fs ++ f ∷ []) ++ gs) = link-more (fs ++ f ∷ []) a in
    (f ∷ r.0, r.1 ∙ append_assoc fs (f ∷ []) r.0)

pub link-length : (fs : List Linked) (a : File) → length (link fs a) ≡ length fs + length a
link-length fs [] = omega arith
link-length fs (h ∷ a) =
    let f : Linked = function_run (numbered fs) h in
    let l : length (fs ++ f ∷ []) ≡ length fs + 1 = length-append fs (f ∷ []) in
    let k : length (link (fs ++ f ∷ []) a) ≡ length (fs ++ f ∷ []) + length a = link-length (fs ++ f ∷ []) a in
    omega arith

-- function k of a file
abbrev pub function_of : File → ℕ → Linked
function_of a = numbered (link [] a)

-- an earlier function is the same in a longer file
pub same : (a b : File) (k : ℕ) → k < length a → function_of (a ++ b) k ≡ function_of a k
same a b k l =
    let m : (gs : List Linked) × (link (link [] a) b ≡ link [] a ++ gs) = link-more (link [] a) b in
    let n : length (link [] a) ≡ 0 + length a = link-length [] a in
    ap (λ fs. numbered fs k) (link-append [] a b ∙ m.1) ∙ earlier (link [] a) m.0 k (omega arith)

-- a function is run over those before it
pub next : (a : File) (h : Function) (b : File) → function_of (a ++ h ∷ b) (length a) ≡ function_run (function_of a) h
next a h b =
    let fs : List Linked = link [] a in
    let f : Linked = function_run (numbered fs) h in
    let m : (gs : List Linked) × (link (fs ++ f ∷ []) b ≡ (fs ++ f ∷ []) ++ gs) = link-more (fs ++ f ∷ []) b in
    let n : length fs ≡ 0 + length a = link-length [] a in
    let here : length a ≡ length fs = omega arith in
    ap (λ gs. numbered gs (length a)) (link-append [] a (h ∷ b) ∙ m.1 ∙ append_assoc fs (f ∷ []) m.0)
    ∙ ap (λ k. numbered (fs ++ f ∷ m.0) k) here
    ∙ newest fs f m.0
