-- Steps of reading networks, as the code takes them.
use Rattle.std.proofs.Common.{◌≡◌, ℕ, true, false, List, [], ◌∷◌, refl, sym, ap, subst, ◌∙◌, ◌-◌, ◌≤◌, IfOk, Result, Ok, Err, Some, None, map, arith}
use Rattle.std.specs.Prelude.{codes, bytes_eq, IfErr}
use Rattle.leaf_core.specs.ExpressionView.{expression_of}
use Rattle.leaf_core.specs.declared.expr.Expr.{Expr}
use Rattle.leaf_expr.specs.Token.{PlacedToken, tokens_from}
use Rattle.leaf_expr.specs.WordReading.{natural_at}
use Rattle.leaf_expr.specs.Language.{Begins, Places, Maker, place, places}
use Rattle.leaf_expr.specs.Grammar.{leaf, LeafSort, LeafTree}
use Rattle.leaf_expr.specs.ReadText.{GivesTree, IsFault, tree_at}
use Rattle.leaf_expr.specs.TreeReader.{word_read, read, read_head}
use Rattle.leaf_expr.proofs.ReadSteps.{Refuses, formless_read}
use Rattle.leaf_expr.proofs.Answered.{tree_given}
use Rattle.leaf_expr.proofs.PartSteps.{parts, part, no_part}
use Rattle.leaf_expr.specs.declared.text_fault.ExprTextFault.{ExprTextFault}
use Rattle.leaf_expr.specs.declared.text_fault.ExprTextFault.TheVariants as E
use Rattle.leaf_expr.specs.declared.type_reader.TheConstants.{MOST_OPEN}
use Rattle.sample_core.specs.Answer.{◌>>=◌}
use Rattle.net_tree.specs.Network.{Network, networks_of, and_member, map_network, map_networks}
use Rattle.net_tree.specs.FormView.{fed_form_of, fed_tree}
use Rattle.net_tree.specs.declared.forms.FedForm.{FedForm}
use Rattle.net_tree.specs.declared.forms.FedForm.TheVariants as D
use Rattle.net_tree.specs.NetworkView.{tree_of, members_of}
use Rattle.net_tree.specs.declared.net.Net.{Net}
use Rattle.net_text.specs.Grammar.{Version, networks, NetSort, NetTree, network_sort, members_sort, leaf_sort, time_sort, Timer, least, greatest_time, net_form, net_production_at, net_word_at, col_productions}
use Rattle.net_text.proofs.Carried.{read_same}

-- `col` alone begins the members of `pSwitch` and `rpSwitchB`
pub col_named : (v : Version) (w : List ℕ) → bytes_eq w (codes "col") ≡ true
    → Some (net_form (codes "col") (places network_sort) networks_of) ≡ net_production_at v members_sort w
unfolding net_production_at col_productions
col_named v w e = rw e refl

pub col_unnamed : (v : Version) (w : List ℕ) → bytes_eq w (codes "col") ≡ false → None ≡ net_production_at v members_sort w
unfolding net_production_at col_productions
col_unnamed v w e = rw e refl

-- the members of `pSwitch` and `rpSwitchB` are no word
pub col_no_word : (n : ℕ) (w : List ℕ) (ts : List PlacedToken) → word_read n w ts (net_word_at members_sort w) ≡ Err (E.Syntax n)
unfolding net_word_at
col_no_word n w ts = refl

module _ (v : Version) (size room : ℕ) {R : Type 0} where
  -- a type or an expression as a part
  pub leaf_part : (s : LeafSort) {a : LeafTree s} {n : ℕ} {us : List PlacedToken} (ps : Places NetSort) (make : LeafTree s → Maker NetTree ps R) (ts : List PlacedToken) →
      read leaf size room s ts ≡ Ok (a, n, us) → parts (networks v) size room (place (leaf_sort s) ps) make ts ≡ parts (networks v) size room ps (make a) us
  leaf_part s ps make ts p = part (networks v) size room (leaf_sort s) ps make ts (read_same v size room s ts ∙ p)

  pub no_leaf : (s : LeafSort) (x : ExprTextFault) (ps : Places NetSort) (make : LeafTree s → Maker NetTree ps R) (ts : List PlacedToken) →
      Refuses x (read leaf size room s ts) → Refuses x (parts (networks v) size room (place (leaf_sort s) ps) make ts)
  no_leaf s x ps make ts p = no_part (networks v) size room (leaf_sort s) x ps make ts (subst (Refuses x) (sym (read_same v size room s ts)) p)

-- what the code reads behind a part, and keeps beside it
pub read_behind : {X Y : Type 0} (view : X → Y) (r : Result X ExprTextFault) {x : X} {read : Result Y ExprTextFault} → r ≡ Ok x → GivesTree view r read
    → read ≡ Ok (view x)
read_behind view r {read = read} p g = subst (λ o. GivesTree view o read) p g

-- and what is refused behind it
pub refused_behind : {X Y : Type 0} (view : X → Y) (r : Result X ExprTextFault) {x : ExprTextFault} {read : Result Y ExprTextFault} → r ≡ Err x
    → GivesTree view r read → Refuses x read
refused_behind view r {read = read} p g = subst (λ o. GivesTree view o read) p g

-- what was read from byte at on, with so many parentheses open as leave that room
pub room_left : {X : Type 0} (s : LeafSort) (text : List ℕ) (room at : ℕ) (view : X → LeafTree s × ℕ × List PlacedToken) (r : Result X ExprTextFault) → room ≤ MOST_OPEN →
    IfOk r (λ x. Begins leaf (MOST_OPEN - (MOST_OPEN - room)) s (view x).0 (tokens_from at text) (view x).1 (view x).2) → IfErr r (IsFault s text (MOST_OPEN - (MOST_OPEN - room)) at)
    → GivesTree view r (tree_at s text room at)
room_left s text room at view r h found refused =
    subst (λ m. GivesTree view r (tree_at s text m at)) (omega arith) (tree_given s text (MOST_OPEN - (MOST_OPEN - room)) at view r found refused)

-- the time of a form is a number
pub time_read : (v : Version) (size room : ℕ) (g : Timer) (ts : List PlacedToken) → read (networks v) size room (time_sort g) ts
    ≡ (read_head leaf size room ts >>= (λ h. word_read h.0 h.1 h.2 (natural_at (least g) (greatest_time g) h.1)))
unfolding net_word_at
time_read v size room g ts = formless_read (networks v) size room (time_sort g) ts refl

-- the code's members are the networks that were read
pub members_are : (all : List (Net Expr)) → map_networks expression_of (members_of all) ≡ networks_of (map tree_of all)
members_are [] = refl
members_are (x ∷ xs) = ap (and_member (tree_of x)) (members_are xs)

-- a form of an expression and a network is that of their trees
pub fed_made : (g : FedForm) (c : Expr) (h : Network Expr) → tree_of (fed_form_of g c h) ≡ fed_tree g (expression_of c) (map_network expression_of h)
fed_made D.LoopPre c h = refl
fed_made D.InitialOut c h = refl
fed_made D.InitialIn c h = refl
