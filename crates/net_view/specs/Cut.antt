-- A text that is cut to a line: what is deep in brackets is left out.
use Rattle.std.specs.Prelude.{ℕ, zero, suc, ◌-◌, nat_eq, nat_lt, Bool, not, ◌&&◌, List, [], ◌∷◌, ◌++◌, length, take, drop, filter, bytes_eq, codes, if◌then◌else◌}
use Rattle.std.specs.List.{common_prefix_len}

-- how many brackets are open behind a byte, where d are open before it
abbrev pub open_behind : ℕ → ℕ → ℕ
open_behind d c = if nat_eq c 40 then suc d else (if nat_eq c 41 then d - 1 else d)

-- what is shown of a byte, where parts in n brackets are left out and d are open before it: two dots
-- where such a part begins, nothing inside it, and nothing of what is no ASCII
abbrev pub shown : ℕ → ℕ → ℕ → List ℕ
shown n d c =
    if nat_lt n d then [] else (if nat_eq c 40 && nat_eq d n then codes ".." else (if nat_lt c 128 then c ∷ [] else []))

-- the text with two dots for each part in n brackets, where d are open before it
abbrev pub to_depth : ℕ → ℕ → List ℕ → List ℕ
to_depth n d [] = []
to_depth n d (c ∷ cs) = shown n d c ++ to_depth n (open_behind d c) cs

-- the text before its first blank
abbrev pub head : List ℕ → List ℕ
head [] = []
head (c ∷ cs) = if nat_eq c 32 then [] else shown 1 0 c ++ head cs

-- the same as to_depth, for the greatest n from 1 up to this one for which it has at most 100 bytes;
-- where there is none, the first word and two dots
abbrev pub fitting : ℕ → List ℕ → List ℕ
fitting zero text = head text ++ codes " ..)"
fitting (suc n) text =
    if nat_lt 100 (length (to_depth (suc n) 0 text)) then fitting n text else to_depth (suc n) 0 text

-- the text, cut where it has over 100 bytes
abbrev pub cut : List ℕ → List ℕ
cut text = if nat_lt 100 (length text) then fitting 8 text else text

-- whether two texts that differ are the same where they are cut
abbrev pub is_cut_alike : List ℕ → List ℕ → Bool
is_cut_alike a b = bytes_eq (cut a) (cut b) && not (bytes_eq a b)

-- how many bytes both texts begin with
abbrev pub same_front : List ℕ → List ℕ → ℕ
same_front a b = common_prefix_len nat_eq a b

-- two dots, if something is left out there
abbrev pub dots : Bool → List ℕ
dots is_left_out = if is_left_out then codes ".." else []

-- the first 96 bytes of a text, of ASCII alone, and two dots for what stands behind
abbrev pub beginning : List ℕ → List ℕ
beginning text = filter (λ c. nat_lt c 128) (take 96 text) ++ dots (nat_lt 96 (length text))

-- two dots for the first n bytes of a text, and the beginning of the rest
abbrev pub part_behind : ℕ → List ℕ → List ℕ
part_behind n text = dots (nat_lt 0 n) ++ beginning (drop n text)

-- the part of a text from 20 bytes before place n on
abbrev pub around : ℕ → List ℕ → List ℕ
around n text = part_behind (n - 20) text

-- both texts, cut; where that leaves no difference to see, the part of each around their first one
unfoldable pub cut_pair : List ℕ → List ℕ → List ℕ × List ℕ
cut_pair a b =
    if is_cut_alike a b then (around (same_front a b) a, around (same_front a b) b) else (cut a, cut b)
