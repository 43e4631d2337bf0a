-- What is written of bytes, part by part.
use Rattle.std.proofs.Common.{◌≡◌, ◌≤◌, ◌<◌, ◌+◌, ◌-◌, ℕ, suc, Bool, true, false, if◌then◌else◌, List, [], ◌∷◌, ◌++◌, length, take, drop, Option, Some, None, refl, sym, ap, ◌∙◌, subst, arith, append_assoc, append-nil, zero-add, take-add, take-append-drop}
use Rattle.std.proofs.lemmas.Grind.{common_steps}
use Rattle.std.specs.Io.KnownBytes.{Appends}
use Rattle.std.specs.Prelude.{nat_eq}
use Rattle.std.proofs.lemmas.Bool.{eqb-true}
use Rattle.yampa_run.specs.Output.{line_feeds, spelled_lines}
use Rattle.sample_core.specs.Datum.{Datum}
use Rattle.sample_core.specs.Spelling.{spelling}
use Rattle.stream_text.specs.TextLines.{IsFeedFree}
use Rattle.stream_text.proofs.FeedFree.{none_free, cons_free, spelling_free}
use Rattle.yampa_run.specs.Runs.{BreaksOff}

pub appends_none : (a : Option (List ℕ)) → Appends a a []
appends_none None = tt
appends_none (Some x) = sym (append-nil x)

pub appends_both : (a b c : Option (List ℕ)) (p q : List ℕ) → Appends a b p → Appends b c q → Appends a c (p ++ q)
appends_both None b c p q h k = tt
appends_both (Some x) None c p q h k = absurd h
appends_both (Some x) (Some y) None p q h k = absurd k
appends_both (Some x) (Some y) (Some z) p q h k = k ∙ ap (λ l. l ++ q) h ∙ append_assoc x p q

-- the bytes up to a place, and then those up to a later one
take_both : (bytes : List ℕ) (done n : ℕ) → done ≤ length bytes
    → take done bytes ++ take n (take (length bytes - done) (drop done bytes)) ≡ take (done + n) bytes
take_both bytes done n l = let rest : take (length bytes - done) (drop done bytes) ≡ drop done bytes = grind (arith, common_steps) in
    ap (λ r. take done bytes ++ take n r) rest ∙ sym (take-add done n bytes)

pub written_more : (a b c : Option (List ℕ)) (bytes : List ℕ) (done n : ℕ) → done ≤ length bytes → Appends a b (take done bytes)
    → Appends b c (take n (take (length bytes - done) (drop done bytes))) → Appends a c (take (done + n) bytes)
written_more a b c bytes done n l h k =
    subst (Appends a c) (take_both bytes done n l) (appends_both a b c (take done bytes) (take n (take (length bytes - done) (drop done bytes))) h k)

pub breaks_off : (a b : Option (List ℕ)) (bytes : List ℕ) (done : ℕ) → done < length bytes → Appends a b (take done bytes) → BreaksOff a b bytes
breaks_off a b bytes done l h = record {
  part = take done bytes;
  rest = drop done bytes;
  parts = take-append-drop done bytes;
  more = grind (arith, common_steps);
  writes = h;
}

-- bytes without line feed have none
pub feeds-free : (bs : List ℕ) → IsFeedFree bs → line_feeds bs ≡ 0
feeds-free [] f = refl
feeds-free (b ∷ bs) f = go (nat_eq b 10) refl (feeds-free bs (λ k l. f (suc k) (omega arith)))
  where
    go : (p : Bool) → nat_eq b 10 ≡ p → line_feeds bs ≡ 0 → (if p then suc (line_feeds bs) else line_feeds bs) ≡ 0
    go true q e = absurd (f 0 (omega arith) (eqb-true b 10 q))
    go false q e = e

pub feeds-append : (xs ys : List ℕ) → line_feeds (xs ++ ys) ≡ line_feeds xs + line_feeds ys
feeds-append [] ys = sym (zero-add (line_feeds ys))
feeds-append (x ∷ xs) ys = go (nat_eq x 10) (feeds-append xs ys)
  where
    go : (p : Bool) → line_feeds (xs ++ ys) ≡ line_feeds xs + line_feeds ys
        → (if p then suc (line_feeds (xs ++ ys)) else line_feeds (xs ++ ys)) ≡ (if p then suc (line_feeds xs) else line_feeds xs) + line_feeds ys
    go true e = omega (arith, e)
    go false e = e

-- lines have a line feed each
pub feeds-lines : (vs : List Datum) → line_feeds (spelled_lines vs) ≡ length vs
feeds-lines [] = refl
feeds-lines (v ∷ vs) =
    let a : line_feeds (spelling v ++ (10 ∷ spelled_lines vs)) ≡ line_feeds (spelling v) + line_feeds (10 ∷ spelled_lines vs) =
    feeds-append (spelling v) (10 ∷ spelled_lines vs) in
    let b : line_feeds (spelling v) ≡ 0 = feeds-free (spelling v) (spelling_free v) in
    let c : line_feeds (spelled_lines vs) ≡ length vs = feeds-lines vs in
    omega (arith, a, b, c)

no_bytes : (xs ys : List ℕ) → xs ++ ys ≡ [] → length ys ≡ 0
no_bytes [] ys e = ap (λ l. length l) e
no_bytes (x ∷ xs) ys e = absurd (cc)

-- a part of a line, but not all of it, has no line feed
pub part_free : (part rest bytes : List ℕ) → part ++ rest ≡ bytes ++ 10 ∷ [] → 0 < length rest → IsFeedFree bytes → IsFeedFree part
part_free [] rest bytes e l f = none_free
part_free (p ∷ ps) rest [] e l f = absurd (let none : length rest ≡ 0 = no_bytes ps rest (let t : ps ++ rest ≡ [] = cc in t) in omega (arith, l, none))
part_free (p ∷ ps) rest (b ∷ bs) e l f =
    let same : p ≡ b = cc in
    let more : ps ++ rest ≡ bs ++ 10 ∷ [] = cc in
    cons_free p ps (λ h. f 0 (omega arith) (sym same ∙ h)) (part_free ps rest bs more l (λ k m. f (suc k) (omega arith)))
