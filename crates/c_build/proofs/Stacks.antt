-- What is taken off a stack together.
use Rattle.std.proofs.Common.{◌≡◌, ℕ, zero, suc, ◌+◌, arith, List, [], ◌∷◌, ◌++◌, length, map, take, drop, Option, Vec, Global, refl, sym, ap, ◌∙◌, append_assoc, add-zero, add-one}
use Rattle.std.proofs.lemmas.List.{append-nil, map-append, reverse-append, take-append-drop, length-map, length-reverse}
use Rattle.std.proofs.lemmas.Grind.{reverse_onto}
use mathlib.Core.List.{reverse, reverse_aux}
use mathlib.Core.Former.{Count}
use Rattle.c_meaning.specs.Object.{CType}
use Rattle.c_meaning.specs.Syntax.{Term, braced, Command, skip, sequence}
use Rattle.c_text.specs.declared.tree.CType as Y
use Rattle.c_text.specs.declared.tree.Term as E
use Rattle.c_text.specs.declared.tree.Term.{Braced, Braced', Row_of-Term, end_of-Term, more_of-Term, items-the_row-Term, items_hidden-the_row-Term-0}
use Rattle.c_text.specs.declared.tree.Command as C
use Rattle.c_text.specs.declared.tree.Command.{Block, Block', Row_of-Command, end_of-Command, more_of-Command, items-the_row-Command, items_hidden-the_row-Command-0}
use Rattle.c_text.specs.Meant.{tail_meant, term_meant, elements_meant, command_meant, block_meant}
use Rattle.c_build.specs.Symbols.{in_braces, in_sequence, block_of, below_all}

-- a stack in two parts
pub split_reversed : {A : Type 0} (xs : List A) (m : ℕ)
    → reverse (drop m xs) ++ reverse (take m xs) ≡ reverse xs
split_reversed xs m =
    sym (reverse-append (take m xs) (drop m xs)) ∙ ap reverse (take-append-drop m xs)

-- what was put on first comes last
last_of : {A : Type 0} (x : A) (xs es : List A) → reverse (x ∷ xs) ++ es ≡ reverse xs ++ (x ∷ es)
last_of x xs es = ap (λ ys. ys ++ es) (reverse_onto xs x []) ∙ append_assoc (reverse xs) (x ∷ []) es

-- so many below are left
below_behind : {A : Type 0} (ys es : List A) → below_all (length ys) (ys ++ es) ≡ es
below_behind [] es = refl
below_behind (y ∷ ys) es = below_behind ys es

reversed_map : {A B : Type 0} (f : A → B) (xs : List A) (es : List A)
    → map f (reverse xs ++ es) ≡ map f (reverse xs) ++ map f es
reversed_map f xs es = map-append f (reverse xs) es

reversed_length : {A B : Type 0} (f : A → B) (xs : List A) → length (map f (reverse xs)) ≡ length xs
reversed_length f xs = length-map (reverse xs) f ∙ length-reverse xs

map_reversed : {A B : Type 0} (f : A → B) (xs : List A) → map f (reverse xs) ≡ reverse (map f xs)
map_reversed f [] = refl
map_reversed f (x ∷ xs) =
    ap (map f) (reverse_onto xs x []) ∙ map-append f (reverse xs) (x ∷ [])
    ∙ ap (λ ys. ys ++ (f x ∷ [])) (map_reversed f xs) ∙ sym (reverse_onto (map f xs) (f x) [])

pub below_made : {A B : Type 0} (f : A → B) (xs es : List A)
    → below_all (length xs) (map f (reverse xs ++ es)) ≡ map f es
below_made f xs es =
    ap (below_all (length xs)) (reversed_map f xs es)
    ∙ ap (λ m. below_all m (map f (reverse xs) ++ map f es)) (sym (reversed_length f xs))
    ∙ below_behind (map f (reverse xs)) (map f es)

-- so many more are taken behind those on top
braces_behind : (t : Term) (ys zs : List Term) (k : ℕ)
    → in_braces t (length ys + k) (ys ++ zs) ≡ in_braces (in_braces t (length ys) ys) k zs
braces_behind t [] zs k = ap (λ m. in_braces t m zs) (zero_more k)
  where
    zero_more : (k : ℕ) → 0 + k ≡ k
    zero_more k = omega arith
braces_behind t (y ∷ ys) zs k =
    ap (λ m. in_braces t m (y ∷ (ys ++ zs))) (suc_more (length ys) k) ∙ braces_behind (braced y t) ys zs k
  where
    suc_more : (m k : ℕ) → suc m + k ≡ suc (m + k)
    suc_more m k = omega arith

-- terms in braces, in order
abbrev in_order : Term → List Term → Term
in_order t [] = t
in_order t (e ∷ es) = braced e (in_order t es)

braces_reversed : (t : Term) (xs es : List Term)
    → in_braces t (length xs) (reverse xs ++ es) ≡ in_order t xs
braces_reversed t [] es = refl
braces_reversed t (x ∷ xs) es =
    let whole : in_braces t (length xs + 0) (reverse xs ++ []) ≡ in_braces (in_braces t (length xs) (reverse xs)) 0 []
    = ap (λ m. in_braces t (m + 0) (reverse xs ++ [])) (sym (length-reverse xs))
    ∙ braces_behind t (reverse xs) [] 0
    ∙ ap (λ m. in_braces t m (reverse xs)) (length-reverse xs) in
    ap (in_braces t (suc (length xs))) (last_of x xs es)
    ∙ ap (λ m. in_braces t m (reverse xs ++ (x ∷ es))) (one_more (length xs) (length (reverse xs)) (length-reverse xs))
    ∙ braces_behind t (reverse xs) (x ∷ es) 1
    ∙ ap (λ m. braced x (in_braces t m (reverse xs))) (length-reverse xs)
    ∙ ap (braced x) (sym whole ∙ ap (λ m. in_braces t m (reverse xs ++ [])) (add-zero (length xs))
    ∙ braces_reversed t xs [])
  where
    one_more : (m k : ℕ) → k ≡ m → suc m ≡ k + 1
    one_more m k e = omega arith

-- commands in sequence: the last one stands alone
sequence_behind : (d : Command) (ys zs : List Command) (k : ℕ)
    → in_sequence d (length ys + k) (ys ++ zs) ≡ in_sequence (in_sequence d (length ys) ys) k zs
sequence_behind d [] zs k = ap (λ m. in_sequence d m zs) (zero_more k)
  where
    zero_more : (k : ℕ) → 0 + k ≡ k
    zero_more k = omega arith
sequence_behind d (y ∷ ys) zs k =
    ap (λ m. in_sequence d m (y ∷ (ys ++ zs))) (suc_more (length ys) k)
    ∙ sequence_behind (sequence y d) ys zs k
  where
    suc_more : (m k : ℕ) → suc m + k ≡ suc (m + k)
    suc_more m k = omega arith

abbrev all_of : List Command → Command
all_of [] = skip
all_of (c ∷ []) = c
all_of (c ∷ d ∷ cs) = sequence c (all_of (d ∷ cs))

-- a command in front of others
block_front : (c : Command) (ys es : List Command) (y : Command)
    → block_of (suc (length (y ∷ ys))) ((y ∷ ys) ++ (c ∷ es))
    ≡ sequence c (block_of (length (y ∷ ys)) ((y ∷ ys) ++ []))
block_front c ys es y =
    ap (λ m. in_sequence y m (ys ++ (c ∷ es))) (one_more (length ys))
    ∙ sequence_behind y ys (c ∷ es) 1
    ∙ ap (λ zs. sequence c (in_sequence y (length ys) zs)) (sym (append-nil ys))
  where
    one_more : (m : ℕ) → suc m ≡ m + 1
    one_more m = omega arith

block_reversed : (xs es : List Command) → block_of (length xs) (reverse xs ++ es) ≡ all_of xs
block_reversed [] es = refl
block_reversed (x ∷ []) es = refl
block_reversed (x ∷ w ∷ ws) es =
    ap (block_of (suc (length (w ∷ ws)))) (last_of x (w ∷ ws) es)
    ∙ by_rows (reverse (w ∷ ws)) (length-reverse (w ∷ ws))
    ∙ ap (sequence x) (block_reversed (w ∷ ws) [])
  where
    by_rows : (ys : List Command) → length ys ≡ length (w ∷ ws)
        → block_of (suc (length (w ∷ ws))) (ys ++ (x ∷ es)) ≡ sequence x (block_of (length (w ∷ ws)) (ys ++ []))
    by_rows [] e = absurd (omega arith)
    by_rows (y ∷ ys) e =
        ap (λ m. block_of (suc m) ((y ∷ ys) ++ (x ∷ es))) (sym e)
        ∙ block_front x ys es y
        ∙ ap (λ m. sequence x (block_of m ((y ∷ ys) ++ []))) e

-- the terms of a row, and the commands
abbrev elements_of : E.Term → (n : Count) × Row_of-Term n
elements_of (Braced' shape all tail) = (_, all)
elements_of _ = (_, end_of-Term)

abbrev commands_of : C.Command → (n : Count) × Row_of-Command n
commands_of (Block' shape all) = (_, all)
commands_of _ = (_, end_of-Command)

module _ (Ts : List CType) where
  elements_in : (t : Term) (n : _) (row : Row_of-Term n)
      → elements_meant Ts t row ≡ in_order t (map (term_meant Ts) (items-the_row-Term n row))
  elements_in t n end_of-Term = refl
  elements_in t n (more_of-Term e es) = ap (braced (term_meant Ts e)) (elements_in t _ es)

  block_in : (n : _) (row : Row_of-Command n)
      → block_meant Ts row ≡ all_of (map (command_meant Ts) (items-the_row-Command n row))
  block_in n end_of-Command = refl
  block_in n (more_of-Command c end_of-Command) = refl
  block_in n (more_of-Command c (more_of-Command d cs)) =
      ap (sequence (command_meant Ts c)) (block_in _ (more_of-Command d cs))

  -- terms in braces
  pub braced_made : (all : Vec E.Term Global) (tail : Option Y.CType) (es : List E.Term)
      → in_braces (tail_meant Ts tail) (length all.items) (map (term_meant Ts) (reverse all.items ++ es))
      ≡ term_meant Ts (Braced all tail)
  braced_made all tail es =
      let row = elements_of (Braced all tail) in
      let f = term_meant Ts in
      let xs : List Term = map f all.items in
      ap (in_braces (tail_meant Ts tail) (length all.items))
      (reversed_map f all.items es ∙ ap (λ ys. ys ++ map f es) (map_reversed f all.items))
      ∙ ap (λ m. in_braces (tail_meant Ts tail) m (reverse xs ++ map f es)) (sym (length-map all.items f))
      ∙ braces_reversed (tail_meant Ts tail) xs (map f es)
      ∙ sym (elements_in (tail_meant Ts tail) row.0 row.1
      ∙ ap (λ ys. in_order (tail_meant Ts tail) (map f ys)) (items_hidden-the_row-Term-0 all))

  -- a block of commands
  pub block_made : (all : Vec C.Command Global) (cs : List C.Command)
      → block_of (length all.items) (map (command_meant Ts) (reverse all.items ++ cs))
      ≡ command_meant Ts (Block all)
  block_made all cs =
      let row = commands_of (Block all) in
      let f = command_meant Ts in
      let xs : List Command = map f all.items in
      ap (block_of (length all.items))
      (reversed_map f all.items cs ∙ ap (λ ys. ys ++ map f cs) (map_reversed f all.items))
      ∙ ap (λ m. block_of m (reverse xs ++ map f cs)) (sym (length-map all.items f))
      ∙ block_reversed xs (map f cs)
      ∙ sym (block_in row.0 row.1 ∙ ap (λ ys. all_of (map f ys)) (items_hidden-the_row-Command-0 all))
