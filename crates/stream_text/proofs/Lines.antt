-- Where bytes are split at their line feeds.
use Rattle.std.proofs.Common.{◌≡◌, ◌<◌, ◌+◌, ◌≢◌, ℕ, zero, suc, Bool, true, false, List, [], ◌∷◌, ◌++◌, length, take, drop, get_or, refl, sym, ap, ◌∙◌, arith, add-one, zero-add, subst, nat_eq, if◌then◌else◌}
use Rattle.std.proofs.lemmas.Bool.{eqb-true}
use Rattle.stream_text.specs.TextLines.{IsFeedFree, IsFirstFeed, HasLine, Split, split, led_by, last_line, lines_of, shows_fault, front_lines}

-- a line and what the rest is split into
abbrev pub then_split : List ℕ → Split → Split
then_split line s = record { lines = line ∷ s.lines; behind = s.behind }

-- bytes with a line in front are this line, and what the rest is split into
split-line : (line rest : List ℕ) → IsFeedFree line → split (line ++ (10 ∷ rest)) ≡ then_split line (split rest)
split-line [] rest free = refl
split-line (b ∷ bs) rest free = go (nat_eq b 10) refl (split-line bs rest (λ k l. free (suc k) (omega arith)))
  where
    go : (p : Bool) → nat_eq b 10 ≡ p → split (bs ++ (10 ∷ rest)) ≡ then_split bs (split rest)
        → split (b ∷ (bs ++ (10 ∷ rest))) ≡ then_split (b ∷ bs) (split rest)
    go true e i = absurd (free 0 (omega arith) (eqb-true b 10 e))
    go false e i = ap (λ p. if p then record { lines = [] ∷ (split (bs ++ (10 ∷ rest))).lines; behind = (split (bs ++ (10 ∷ rest))).behind }
        else led_by b (split (bs ++ (10 ∷ rest))).lines (split (bs ++ (10 ∷ rest))).behind) e ∙ ap (λ s. led_by b s.lines s.behind) i

-- bytes without line feed have no line before it
pub split-free : (bs : List ℕ) → IsFeedFree bs → split bs ≡ record { lines = []; behind = bs }
split-free [] free = refl
split-free (b ∷ bs) free = go (nat_eq b 10) refl (split-free bs (λ k l. free (suc k) (omega arith)))
  where
    go : (p : Bool) → nat_eq b 10 ≡ p → split bs ≡ record { lines = []; behind = bs } → split (b ∷ bs) ≡ record { lines = []; behind = b ∷ bs }
    go true e i = absurd (free 0 (omega arith) (eqb-true b 10 e))
    go false e i = ap (λ p. if p then record { lines = [] ∷ (split bs).lines; behind = (split bs).behind }
        else led_by b (split bs).lines (split bs).behind) e ∙ ap (λ s. led_by b s.lines s.behind) i

pub split-has : (bytes line rest : List ℕ) → HasLine bytes line rest → split bytes ≡ then_split line (split rest)
split-has bytes line rest h = ap split h.ended ∙ split-line line rest h.one_line

-- a text that begins with a line is this line and those of the rest
pub lines-has : (bytes line rest : List ℕ) → HasLine bytes line rest → lines_of bytes ≡ line ∷ lines_of rest
lines-has bytes line rest h = ap (λ s. s.lines ++ last_line s.behind) (split-has bytes line rest h)

-- and so are bytes that aren't known to be all
pub front-has : (n : ℕ) (bytes line rest : List ℕ) → HasLine bytes line rest → front_lines n bytes ≡ line ∷ front_lines (suc n) rest
front-has n bytes line rest h =
    let more : n + suc (length (split rest).lines) ≡ suc n + length (split rest).lines = omega arith in
    ap (λ s. s.lines ++ (if shows_fault (n + length s.lines) (length s.behind) then s.behind ∷ [] else [])) (split-has bytes line rest h)
    ∙ ap (λ m. line ∷ ((split rest).lines ++ (if shows_fault m (length (split rest).behind) then (split rest).behind ∷ [] else []))) more

-- a text without line feed is one line where it has a byte
pub lines-free : (bs : List ℕ) → IsFeedFree bs → lines_of bs ≡ last_line bs
lines-free bs free = ap (λ s. s.lines ++ last_line s.behind) (split-free bs free)

pub one_line : (bs : List ℕ) → 0 < length bs → IsFeedFree bs → lines_of bs ≡ bs ∷ []
one_line [] l free = absurd (omega arith)
one_line (b ∷ bs) l free = lines-free (b ∷ bs) free

-- whether bytes without line feed are a line that shows its fault
pub front-free : (n : ℕ) (bs : List ℕ) → IsFeedFree bs → front_lines n bs ≡ (if shows_fault n (length bs) then bs ∷ [] else [])
front-free n bs free =
    let same : n + 0 ≡ n = omega arith in
    ap (λ s. s.lines ++ (if shows_fault (n + length s.lines) (length s.behind) then s.behind ∷ [] else [])) (split-free bs free)
    ∙ ap (λ m. if shows_fault m (length bs) then bs ∷ [] else []) same

free_cons : (b : ℕ) (bs : List ℕ) → b ≢ 10 → IsFeedFree bs → IsFeedFree (b ∷ bs)
free_cons b bs h f zero l = h
free_cons b bs h f (suc k) l = f k (omega arith)

free_tail : (b : ℕ) (bs : List ℕ) → IsFeedFree (b ∷ bs) → IsFeedFree bs
free_tail b bs f k l = f (suc k) (omega arith)

free_nil : IsFeedFree []
free_nil k l = absurd (omega arith)

-- bytes are searched in two parts
pub free_both : (xs : List ℕ) (m : ℕ) → IsFeedFree (take m xs) → IsFeedFree (drop m xs) → IsFeedFree xs
free_both xs zero f g = g
free_both [] (suc m) f g = free_nil
free_both (x ∷ xs) (suc m) f g = free_cons x xs (f 0 (omega arith)) (free_both xs m (free_tail x (take m xs) f) g)

-- what is first in the second part is first in all, where the first has none
pub first_both : (xs : List ℕ) (m at : ℕ) → IsFeedFree (take m xs) → IsFirstFeed (drop m xs) at → IsFirstFeed xs (m + at)
first_both xs zero at f h = subst (IsFirstFeed xs) (sym (zero-add at)) h
first_both [] (suc m) at f h = absurd (let l : at < length {A = ℕ} [] = h.within in omega arith)
first_both (x ∷ xs) (suc m) at f h =
    let i : IsFirstFeed xs (m + at) = first_both xs m at (free_tail x (take m xs) f) h in
    let s : suc m + at ≡ suc (m + at) = omega arith in
    subst (IsFirstFeed (x ∷ xs)) (sym s) (record {
      within = (let l : m + at < length xs = i.within in omega arith);
      feed = i.feed;
      none_before = free_cons x (take (m + at) xs) (f 0 (omega arith)) i.none_before;
    })

joined : (xs : List ℕ) (at : ℕ) → at < length xs → get_or xs at 0 ≡ 10 → xs ≡ take at xs ++ (10 ∷ drop (suc at) xs)
joined [] at l e = absurd (omega arith)
joined (x ∷ xs) zero l e = ap (λ b. b ∷ xs) e
joined (x ∷ xs) (suc at) l e = ap (λ r. x ∷ r) (joined xs at (omega arith) e)

-- up to its first line feed, bytes have a line
pub has_line : (bytes : List ℕ) (at : ℕ) → IsFirstFeed bytes at → HasLine bytes (take at bytes) (drop (at + 1) bytes)
has_line bytes at h = record {
  one_line = h.none_before;
  ended = joined bytes at h.within h.feed ∙ ap (λ k. take at bytes ++ (10 ∷ drop k bytes)) (sym (add-one at));
}

pub free_take : (xs : List ℕ) (n : ℕ) → IsFeedFree xs → IsFeedFree (take n xs)
free_take xs zero f = free_nil
free_take [] (suc n) f = free_nil
free_take (x ∷ xs) (suc n) f = free_cons x (take n xs) (f 0 (omega arith)) (free_take xs n (free_tail x xs f))

-- a byte in front of lines that isn't a line feed goes to the first
lines-led : (b : ℕ) (bs line : List ℕ) (lines : List (List ℕ)) → nat_eq b 10 ≡ false → lines_of bs ≡ line ∷ lines → lines_of (b ∷ bs) ≡ (b ∷ line) ∷ lines
lines-led b bs line lines n e = ap (λ p. all (if p then record { lines = [] ∷ (split bs).lines; behind = (split bs).behind }
    else led_by b (split bs).lines (split bs).behind)) n ∙ go (split bs).lines (split bs).behind e
  where
    all : Split → List (List ℕ)
    all s = s.lines ++ last_line s.behind

    go : (ls : List (List ℕ)) (behind : List ℕ) → ls ++ last_line behind ≡ line ∷ lines → all (led_by b ls behind) ≡ (b ∷ line) ∷ lines
    go [] [] h = absurd (cc)
    go [] (c ∷ cs) h = cc
    go (l ∷ ls) behind h = cc

-- only a text with no byte has no line
pub no-lines : (bs : List ℕ) → lines_of bs ≡ [] → bs ≡ []
no-lines [] e = refl
no-lines (b ∷ bs) e = absurd (go (nat_eq b 10) (split bs).lines (split bs).behind e)
  where
    go : (p : Bool) (ls : List (List ℕ)) (behind : List ℕ)
        → (if p then record { lines = [] ∷ ls; behind = behind } else led_by b ls behind).lines
        ++ last_line (if p then record { lines = [] ∷ ls; behind = behind } else led_by b ls behind).behind ≡ [] → ⊥
    go true ls behind h = absurd (cc)
    go false [] behind h = absurd (cc)
    go false (l ∷ ls) behind h = absurd (cc)

-- where bytes without line feed go on, their first line goes on
abbrev pub GoesOn : List ℕ → List ℕ → Type 0
GoesOn bs more = (tail : List ℕ) × (lines : List (List ℕ)) × (lines_of (bs ++ more) ≡ (bs ++ tail) ∷ lines)

one_on : (b : ℕ) (more : List ℕ) → nat_eq b 10 ≡ false → (ls : List (List ℕ)) → lines_of more ≡ ls → GoesOn (b ∷ []) more
one_on b more q [] e = ([], [], ap (λ m. lines_of (b ∷ m)) (no-lines more e) ∙ lines-one b q)
  where
    lines-one : (c : ℕ) → nat_eq c 10 ≡ false → lines_of (c ∷ []) ≡ (c ∷ []) ∷ []
    lines-one c r = ap (λ p. (if p then record { lines = [] ∷ []; behind = [] } else led_by c [] []).lines
        ++ last_line (if p then record { lines = [] ∷ []; behind = [] } else led_by c [] []).behind) r
one_on b more q (line ∷ lines) e = (line, lines, lines-led b more line lines q e)

more_on : (b : ℕ) (bs more : List ℕ) → nat_eq b 10 ≡ false → GoesOn bs more → GoesOn (b ∷ bs) more
more_on b bs more q i = (i.0, i.1, lines-led b (bs ++ more) (bs ++ i.0) i.1 q i.2)

not_feed : (b : ℕ) (bs : List ℕ) → IsFeedFree (b ∷ bs) → nat_eq b 10 ≡ false
not_feed b bs free = go (nat_eq b 10) refl
  where
    go : (p : Bool) → nat_eq b 10 ≡ p → nat_eq b 10 ≡ false
    go true q = absurd (free 0 (omega arith) (eqb-true b 10 q))
    go false q = q

pub lines-on : (bs more : List ℕ) → 0 < length bs → IsFeedFree bs → GoesOn bs more
lines-on [] more l free = absurd (omega arith)
lines-on (b ∷ []) more l free = one_on b more (not_feed b [] free) (lines_of more) refl
lines-on (b ∷ c ∷ bs) more l free = more_on b (c ∷ bs) more (not_feed b (c ∷ bs) free) (lines-on (c ∷ bs) more (omega arith) (free_tail b (c ∷ bs) free))
