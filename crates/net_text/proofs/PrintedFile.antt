-- A printed network file is read back.
use Rattle.std.proofs.Common.{◌≡◌, ℕ, suc, ◌+◌, ◌^◌, ◌≤◌, ◌<◌, Bool, true, false, ◌||◌, List, [], ◌∷◌, ◌++◌, length, refl, ap, ◌∙◌, arith, Some}
use Rattle.std.specs.Prelude.{codes}
use Rattle.std.specs.Fmt.{decimal}
use Rattle.sample_core.specs.Spelling.{type_spelling}
use Rattle.leaf_core.specs.Expression.{Expression}
use Rattle.leaf_expr.specs.Token.{tokens, tokens_in, begins_word}
use Rattle.leaf_expr.specs.Sexpr.{atom, form, plain_sexpr, all_plain, is_word, depth, sexpr_spelling}
use Rattle.leaf_expr.specs.Language.{Begins, meant, make_tree, read_word, places}
use Rattle.leaf_expr.specs.Grammar.{expression_sort, index_sort}
use Rattle.leaf_expr.specs.Printing.{expression_sexpr, InRange}
use Rattle.leaf_expr.proofs.Numbers.{natural_spelled, decimal_is_word}
use Rattle.leaf_expr.proofs.PrintedMeans.{expression_means, expression_plain, index_means}
use Rattle.leaf_expr.proofs.TextLaws.{printed_type_begins}
use Rattle.leaf_expr.proofs.TokenLaws.{spells_printed}
use Rattle.leaf_expr.specs.declared.type_reader.TheConstants.{MOST_OPEN}
use Rattle.leaf_expr.specs.declared.number_reader.TheConstants.{MOST_INDEX}
use Rattle.net_tree.specs.Network.{Network, Networks, networks_of, arr, seq, first, par, loop_pre, initial_out, initial_in, i_pre, delay, hold, accum_by, after, repeatedly, time, integral, switch, r_switch, rp_switch, k_switch, p_switch, old, no_members, and_member, at_once, delayed}
use Rattle.net_text.specs.Grammar.{Version, version_1, version_2, version_3, version_4, networks, network_sort, members_sort, leaf_sort, time_sort, Timer, delay_timer, after_timer, repeatedly_timer, least, greatest_time, net_word_at, net_words, net_production_at, net_productions, new_productions, second_productions, col_productions}
use Rattle.net_text.specs.Printing.{network_sexpr, network_sexprs, is_new, are_new, version_by, version_word, Writable, AllWritable, TimeFits}
use Rattle.net_text.specs.FileLaws.{PrintedFileLaw, IsOfNetworks, header_tokens}
use Rattle.net_text.proofs.Carried.{meaning_same}

leaf_means : (v : Version) (e : Expression) → InRange e → meant (networks v) (leaf_sort expression_sort) (expression_sexpr e) ≡ Some e
leaf_means v e r = meaning_same v expression_sort (expression_sexpr e) ∙ expression_means e r

index_kept : (v : Version) (k : ℕ) → k ≤ MOST_INDEX → meant (networks v) (leaf_sort index_sort) (atom (decimal k)) ≡ Some k
index_kept v k r = meaning_same v index_sort (atom (decimal k)) ∙ index_means k r

low : (g : Timer) (q : ℕ) → TimeFits g q → q < 2 ^ 64
low delay_timer q r = omega (arith, r.1)
low after_timer q r = omega (arith, r.1)
low repeatedly_timer q r = omega (arith, r.1)

time_means : (v : Version) (g : Timer) (q : ℕ) → TimeFits g q → meant (networks v) (time_sort g) (atom (decimal q)) ≡ Some q
unfolding net_word_at
time_means v g q r = ap read_word (natural_spelled (least g) (greatest_time g) q r.0 r.1 (low g q r))

time_plain : (g : Timer) (q : ℕ) → TimeFits g q → is_word (decimal q) ≡ true
time_plain g q r = decimal_is_word q (low g q r)

-- members as a list
listed : Networks Expression → List (Network Expression)
listed no_members = []
listed (and_member f fs) = f ∷ listed fs

listed_are : (fs : Networks Expression) → networks_of (listed fs) ≡ fs
unfolding listed
listed_are no_members = refl
listed_are (and_member f fs) = ap (and_member f) (listed_are fs)

-- the version may have what is new, if anything is
abbrev pub Allows : Version → Bool → Type 0
Allows v new = new ≡ true → v ≡ version_1 → ⊥

-- and so of two parts
pub left_allowed : (v : Version) (a b : Bool) → Allows v (a || b) → Allows v a
left_allowed v true b h e = h refl
left_allowed v false b h e = absurd (cc)

pub right_allowed : (v : Version) (a b : Bool) → Allows v (a || b) → Allows v b
right_allowed v true b h e = h refl
right_allowed v false b h e = h e

-- the printed version allows it
pub version_allows : (new : Bool) → Allows (version_by new) new
version_allows true e q = cc
version_allows false e q = cc

-- the versions behind the first allow all
pub second_allows : (new : Bool) → Allows version_2 new
second_allows new e q = cc

pub third_allows : (new : Bool) → Allows version_3 new
third_allows new e q = cc

pub fourth_allows : (new : Bool) → Allows version_4 new
fourth_allows new e q = cc

-- the forms that such a version has more
newer : (v : Version) → (v ≡ version_1 → ⊥) → new_productions v ≡ second_productions
newer version_1 h = absurd (h refl)
newer version_2 h = refl
newer version_3 h = refl
newer version_4 h = refl

-- a printed network means the network, and its words are words
mutual
  unfolding net_word_at net_words net_production_at net_productions col_productions listed

  pub printed : (f : Network Expression) (v : Version) → Writable f → Allows v (is_new f)
      → (meant (networks v) network_sort (network_sexpr f) ≡ Some f) × (plain_sexpr (network_sexpr f) ≡ true)
  printed (arr e) v r h = (rw (leaf_means v e r) refl, rw (expression_plain e r) refl)
  printed (i_pre e) v r h = (rw (leaf_means v e r) refl, rw (expression_plain e r) refl)
  printed (hold e) v r h = (rw (leaf_means v e r) refl, rw (expression_plain e r) refl)
  printed (delay q c) v r h = (rw (time_means v delay_timer q r.0, leaf_means v c r.1) refl, rw (time_plain delay_timer q r.0, expression_plain c r.1) refl)
  printed (after q c) v r h = (rw (time_means v after_timer q r.0, leaf_means v c r.1) refl, rw (time_plain after_timer q r.0, expression_plain c r.1) refl)
  printed (repeatedly q c) v r h =
      (rw (time_means v repeatedly_timer q r.0, leaf_means v c r.1) refl, rw (time_plain repeatedly_timer q r.0, expression_plain c r.1) refl)
  printed (accum_by g z) v r h = (rw (leaf_means v g r.0, leaf_means v z r.1) refl, rw (expression_plain g r.0, expression_plain z r.1) refl)
  printed time v r h = (refl, refl)
  printed integral v r h = (refl, refl)
  printed (first f) v r h = let i = printed f v r h in (rw i.0 refl, rw i.1 refl)
  printed (seq f g) v r h =
      let i = printed f v r.0 (left_allowed v (is_new f) (is_new g) h) in
      let j = printed g v r.1 (right_allowed v (is_new f) (is_new g) h) in
      (rw (i.0, j.0) refl, rw (i.1, j.1) refl)
  printed (switch at_once f g) v r h =
      let i = printed f v r.0 (left_allowed v (is_new f) (is_new g) h) in
      let j = printed g v r.1 (right_allowed v (is_new f) (is_new g) h) in
      (rw (i.0, j.0) refl, rw (i.1, j.1) refl)
  printed (switch delayed f g) v r h =
      let i = printed f v r.0 (left_allowed v (is_new f) (is_new g) h) in
      let j = printed g v r.1 (right_allowed v (is_new f) (is_new g) h) in
      (rw (i.0, j.0) refl, rw (i.1, j.1) refl)
  printed (r_switch at_once f g) v r h =
      let i = printed f v r.0 (left_allowed v (is_new f) (is_new g) h) in
      let j = printed g v r.1 (right_allowed v (is_new f) (is_new g) h) in
      (rw (i.0, j.0) refl, rw (i.1, j.1) refl)
  printed (k_switch f e t) v r h =
      let l = right_allowed v (is_new f) (is_new e || is_new t) h in
      let i = printed f v r.0 (left_allowed v (is_new f) (is_new e || is_new t) h) in
      let j = printed e v r.1 (left_allowed v (is_new e) (is_new t) l) in
      let k = printed t v r.2 (right_allowed v (is_new e) (is_new t) l) in
      (rw (i.0, j.0, k.0) refl, rw (i.1, j.1, k.1) refl)
  printed (loop_pre c f) v r h = let i = printed f v r.1 h in (rw (leaf_means v c r.0, i.0) refl, rw (expression_plain c r.0, i.1) refl)
  printed (par fs) v r h = let i = members_printed fs v r h in (i.0 (λ xs. par (networks_of xs)) ∙ ap (λ xs. Some (par xs)) (listed_are fs), i.2)
  printed (p_switch c fs e t) v r h =
      let l = right_allowed v (are_new fs) (is_new e || is_new t) h in
      let i = members_printed fs v r.1 (left_allowed v (are_new fs) (is_new e || is_new t) h) in
      let j = printed e v r.2 (left_allowed v (is_new e) (is_new t) l) in
      let k = printed t v r.3 (right_allowed v (is_new e) (is_new t) l) in
      let m : meant (networks v) members_sort (form (codes "col") (network_sexprs fs)) ≡ Some fs = i.1 networks_of ∙ ap Some (listed_are fs) in
      (rw (leaf_means v c r.0, m, j.0, k.0) refl, rw (expression_plain c r.0, i.2, j.1, k.1) refl)
  printed (old k) v r h = (
    let i : meant (networks v) (leaf_sort index_sort) (atom (decimal k)) ≡ Some k = index_kept v k r in rw i refl,
    rw (decimal_is_word k (omega arith)) refl,
  )
  printed (initial_out c f) v r h =
      let n = newer v (h refl) in
      let i = printed f v r.1 (λ _. h refl) in
      (rw (n, leaf_means v c r.0, i.0) refl, rw (expression_plain c r.0, i.1) refl)
  printed (initial_in c f) v r h =
      let n = newer v (h refl) in
      let i = printed f v r.1 (λ _. h refl) in
      (rw (n, leaf_means v c r.0, i.0) refl, rw (expression_plain c r.0, i.1) refl)
  printed (r_switch delayed f g) v r h =
      let n = newer v (h refl) in
      let i = printed f v r.0 (λ _. h refl) in
      let j = printed g v r.1 (λ _. h refl) in
      (rw (n, i.0, j.0) refl, rw (i.1, j.1) refl)
  printed (rp_switch fs c t) v r h =
      let n = newer v (h refl) in
      let i = members_printed fs v r.0 (λ _. h refl) in
      let k = printed t v r.2 (λ _. h refl) in
      let m : meant (networks v) members_sort (form (codes "col") (network_sexprs fs)) ≡ Some fs = i.1 networks_of ∙ ap Some (listed_are fs) in
      (rw (n, m, leaf_means v c r.1, k.0) refl, rw (i.2, expression_plain c r.1, k.1) refl)

  members_printed : (fs : Networks Expression) (v : Version) → AllWritable fs → Allows v (are_new fs) →
      ((make : List (Network Expression) → Network Expression) →
      make_tree (networks v) network_sort (places network_sort) make (network_sexprs fs) ≡ Some (make (listed fs)))
      × ((make : List (Network Expression) → Networks Expression) →
      make_tree (networks v) members_sort (places network_sort) make (network_sexprs fs) ≡ Some (make (listed fs)))
      × (all_plain (network_sexprs fs) ≡ true)
  members_printed no_members v r h = (λ make. refl, λ make. refl, refl)
  members_printed (and_member f fs) v r h =
      let i = printed f v r.0 (left_allowed v (is_new f) (are_new fs) h) in
      let j = members_printed fs v r.1 (right_allowed v (is_new f) (are_new fs) h) in
      (λ make. rw i.0 (j.0 (λ xs. make (f ∷ xs))), λ make. rw i.0 (j.1 (λ xs. make (f ∷ xs))), rw i.1 j.2)

pub printed_network : (f : Network Expression) (v : Version) (room n : ℕ) (bs : List ℕ) → Writable f → Allows v (is_new f) → depth (network_sexpr f) ≤ room
    → begins_word bs ≡ false
    → (let end = n + length (sexpr_spelling (network_sexpr f)) in
    Begins (networks v) room network_sort f (tokens_in false n (sexpr_spelling (network_sexpr f) ++ bs)) end (tokens_in false end bs))
printed_network f v room n bs w h d b =
    let i = printed f v w h in
    record { part = network_sexpr f; spells = spells_printed (network_sexpr f) n bs i.1 b; means = i.0; within = d }

header_stands : (v : Version) (bs : List ℕ)
    → tokens (codes "yampa " ++ (version_word v ++ (codes "\ninput " ++ bs))) ≡ header_tokens v 0 6 8 (tokens_in false 14 bs)
header_stands version_1 bs = refl
header_stands version_2 bs = refl
header_stands version_3 bs = refl
header_stands version_4 bs = refl

by_of_networks : (new : Bool) → IsOfNetworks (version_by new)
by_of_networks true = tt
by_of_networks false = tt

pub printed_file : PrintedFileLaw
printed_file A f w a d l =
    let v : Version = version_by (is_new f) in
    let net : List ℕ = sexpr_spelling (network_sexpr f) ++ 10 ∷ [] in
    let stop : ℕ = 14 + length (type_spelling A) in
    record {
      short = l;
      version = v;
      behind = tokens_in false 14 (type_spelling A ++ (10 ∷ net));
      headed =
          record { yampa = 0; number = 6; input = 8; starts = header_stands v (type_spelling A ++ (10 ∷ net)); of_networks = by_of_networks (is_new f) };
      type_end = stop;
      network =
          tokens_in false (suc stop) net;
      input = printed_type_begins A MOST_OPEN 14 (10 ∷ net) a refl;
      network_end = suc stop
          + length (sexpr_spelling (network_sexpr f));
      body = printed_network f v MOST_OPEN (suc stop) (10 ∷ []) w (version_allows (is_new f)) d refl;
    }
