use Rattle.std.proofs.Common.{◌≡◌, ◌∷◌, ◌++◌, ◌∙◌, [], Err, sym, ap, length, map, refl, arith}
use Rattle.std.proofs.lemmas.Grind.{common_steps}
use Rattle.std.specs.Prelude.{codes}
use Rattle.leaf_expr.specs.declared.text_fault.ExprTextFault.TheVariants as E
use Rattle.net_text.specs.ReadNet.{language, from_byte, members_left}
use Rattle.leaf_core.specs.ExpressionView.{expression_of}
use Rattle.leaf_expr.specs.Grammar.{expression_sort}
use Rattle.leaf_expr.specs.Language.{no_place, places}
use Rattle.leaf_expr.proofs.FrontSteps.{in_form, in_word}
use Rattle.leaf_expr.proofs.ItemSteps.{more}
use Rattle.leaf_expr.proofs.ReadCounts.{read_shortens}
use Rattle.leaf_expr.proofs.ReadSteps.{given, made, told}
use Rattle.leaf_expr.proofs.PartSteps.{named, unnamed, parts_made, parts_refused}
use Rattle.net_tree.specs.Network.{Network, Networks, networks_of, par, p_switch, map_network, map_networks}
use Rattle.leaf_core.specs.Expression.{Expression}
use Rattle.net_tree.specs.FormView.{fed_tree}
use Rattle.net_tree.specs.NetworkView.{tree_of}
use Rattle.net_text.specs.Grammar.{network_sort, members_sort, net_form, e, f, col}
use Rattle.net_text.proofs.ReadSteps.{col_named, col_unnamed, col_no_word, leaf_part, no_leaf, fed_made, members_are, read_behind, refused_behind}
use Rattle.net_text.proofs.network_reader.+network.Goals as goal

pub network_at-returns-in-Form : goal.network_at-returns-in-Form
network_at-returns-in-Form t c = in_form (language c.args.text.now) network_sort _ _ _ _ _ refl c.in-Form.is c.in_ok-start.ensures.front c.form_at.ensures

-- an expression and a network
abbrev Fed : Type 0
Fed = Expression × Network Expression

pub last_fed_at-returns-in_err-c : goal.last_fed_at-returns-in_err-c
last_fed_at-returns-in_err-c t c =
    told _ _ _ _ c.from_residual.ensures.1 (no_leaf _ _ _ {R = Fed} expression_sort _ (f no_place) (λ c g. (c, g)) _ c.in_err-c.ensures)

pub last_fed_at-returns-in_err-c-2 : goal.last_fed_at-returns-in_err-c-2
last_fed_at-returns-in_err-c-2 t c =
    told _ _ _ _ c.from_residual-in_err-c-2.ensures.1
    (λ m. leaf_part _ _ _ {R = Fed} expression_sort (f no_place) (λ c g. (c, g)) _ c.in_ok-c.ensures
    ∙ parts_refused (language c.args.text.now) _ _ {R = Network Expression} {Q = Fed} (λ g. (expression_of c.in_ok-c.c, g)) _ (f no_place) (λ g. g) _
    (refused_behind _ _ c.in_err-c-2.ensures c.last_child_at.ensures) m)

pub last_fed_at-returns : goal.last_fed_at-returns
last_fed_at-returns t c =
    made _
    (leaf_part _ _ _ {R = Fed} expression_sort (f no_place) (λ c g. (c, g)) _ c.in_ok-c.ensures
    ∙ parts_made (language c.args.text.now) _ _ {R = Network Expression} {Q = Fed} (λ g. (expression_of c.in_ok-c.c, g)) (f no_place) (λ g. g) _
    (read_behind _ _ c.in_ok-c-2.ensures.1 c.last_child_at.ensures))
    (ap (λ e. (expression_of e, map_network expression_of c.in_ok-c-2.g)) c.in_ok-c-2.ensures.0)

pub fed_at-returns-in_err-c : goal.fed_at-returns-in_err-c
fed_at-returns-in_err-c t c =
    told _ _ _ _ c.from_residual.ensures.1
    (parts_refused (language c.args.text.now) _ _ {R = Fed} (λ p. fed_tree c.args.form p.0 p.1) _ (e (f no_place)) (λ c g. (c, g)) _ c.in_err-c.ensures)

pub fed_at-returns : goal.fed_at-returns
fed_at-returns t c =
    made _ (parts_made (language c.args.text.now) _ _ {R = Fed} (λ p. fed_tree c.args.form p.0 p.1) (e (f no_place)) (λ c g. (c, g)) _ c.in_ok-c.ensures)
    (ap tree_of c.of.ensures ∙ fed_made c.args.form c.in_ok-c.c c.in_ok-c.g)

pub par_at-returns-in_err-all : goal.par_at-returns-in_err-all
par_at-returns-in_err-all t c =
    told _ _ _ _ c.from_residual.ensures.1 (parts_refused (language c.args.text.now) _ _ par _ (places network_sort) networks_of _ c.in_err-all.ensures)

pub par_at-returns : goal.par_at-returns
par_at-returns t c = parts_made (language c.args.text.now) _ _ par (places network_sort) networks_of _ c.in_ok-all.ensures

-- members and two (language c.args.text.now)
abbrev Three : Type 0
Three = Networks Expression × Network Expression × Network Expression

pub p_switch_at-returns-in_err-r : goal.p_switch_at-returns-in_err-r
p_switch_at-returns-in_err-r t c =
    told _ _ _ _ c.from_residual.ensures.1 (no_leaf _ _ _ expression_sort _ (col (f (f no_place))) p_switch _ c.in_err-r.ensures)

pub p_switch_at-returns-in_err-r-2 : goal.p_switch_at-returns-in_err-r-2
p_switch_at-returns-in_err-r-2 t c =
    let r = expression_of c.in_ok-r.r in
    told _ _ _ _ c.from_residual-in_err-r-2.ensures.1
    (λ m. leaf_part _ _ _ expression_sort (col (f (f no_place))) p_switch _ c.in_ok-r.ensures
    ∙ parts_refused (language c.args.text.now) _ _ {R = Three} (λ p. p_switch r p.0 p.1 p.2) _ (col (f (f no_place))) (λ fs g h. (fs, g, h)) _
    (refused_behind _ _ c.in_err-r-2.ensures c.last_three_at.ensures) m)

pub p_switch_at-returns : goal.p_switch_at-returns
p_switch_at-returns t c =
    let r = expression_of c.in_ok-r.r in
    let fs = map_networks expression_of c.in_ok-r-2.all in
    let g = map_network expression_of c.in_ok-r-2.test in
    let h = map_network expression_of c.in_ok-r-2.t in
    made _
    (leaf_part _ _ _ expression_sort (col (f (f no_place))) p_switch _ c.in_ok-r.ensures
    ∙ parts_made (language c.args.text.now) _ _ {R = Three} (λ p. p_switch r p.0 p.1 p.2) (col (f (f no_place))) (λ fs g h. (fs, g, h)) _
    (read_behind _ _ c.in_ok-r-2.ensures.1 c.last_three_at.ensures)) (ap (λ e. p_switch (expression_of e) fs g h) c.in_ok-r-2.ensures.0)

pub col_at-returns-in-Form : goal.col_at-returns-in-Form
col_at-returns-in-Form t c = in_form (language c.args.text.now) members_sort _ _ _ _ _ refl c.in-Form.is c.in_ok-start.ensures.front c.col_form_at.ensures

pub col_at-returns-in-Word : goal.col_at-returns-in-Word
col_at-returns-in-Word t c =
    let text = c.args.text.now in
    in_word (language text) members_sort (members_left text) (Err (E.Syntax c.in-Word.start)) text.bytes.now c.args.room c.args.at c.in-Word.is
    c.in_ok-start.ensures.front (λ m. col_no_word _ _ _)

pub col_form_at-returns-then-word_is : goal.col_form_at-returns-then-word_is
col_form_at-returns-then-word_is t c =
    given _ _
    (named (language c.args.text.now) _ _ _ members_sort _ (net_form (codes "col") (places network_sort) networks_of) c.in_ok-start.ensures.head
    (col_named _ _ (sym c.word_is.ensures ∙ c.if-word_is.true))) c.members_at.ensures

pub col_form_at-returns-else-word_is : goal.col_form_at-returns-else-word_is
col_form_at-returns-else-word_is t c = λ m. unnamed (language c.args.text.now) _ _ _ members_sort _ c.in_ok-start.ensures.head
    (col_unnamed _ _ (sym c.word_is.ensures ∙ c.if-word_is.false))

pub members_at-returns-in_err-all : goal.members_at-returns-in_err-all
members_at-returns-in_err-all t c =
    told _ _ _ _ c.from_residual.ensures.1
    (parts_refused (language c.args.text.now) _ _ networks_of _ (places network_sort) (λ fs. fs) _ c.in_err-all.ensures)

pub members_at-returns : goal.members_at-returns
members_at-returns t c =
    made _ (parts_made (language c.args.text.now) _ _ networks_of (places network_sort) (λ fs. fs) _ c.in_ok-all.ensures)
    (ap (map_networks expression_of) c.in_ok-members.ensures ∙ members_are c.in_ok-all.all.items)

pub networks_at-loop-end-smaller : goal.networks_at-loop-end-smaller
networks_at-loop-end-smaller t c = read_shortens (language c.args.text.now) (length c.args.text.now.bytes.now) c.args.room network_sort _ _ c.in_ok-net.ensures

pub networks_at-loop-end-preserved : goal.networks_at-loop-end-preserved
networks_at-loop-end-preserved t c =
    let p = c.in_ok-push.ensures.items in
    let m : map tree_of c.push.new.self.items ≡ map tree_of c.loop-end.all.items ++ tree_of c.in_ok-net.net ∷ [] = grind (arith, common_steps, p) in
    more (language c.args.text.now) network_sort (length c.args.text.now.bytes.now) c.args.room c.in_ok-net.behind (map tree_of c.loop-end.all.items)
    (map tree_of c.push.new.self.items) (tree_of c.in_ok-net.net) (from_byte c.loop-end.next c.args.text.now)
    (from_byte c.in_ok-net.behind c.args.text.now) _ c.loop-end.invariant c.in_default.ensures.token c.in_ok-net.ensures m

pub parts_at-returns-in-Leaf : goal.parts_at-returns-in-Leaf
parts_at-returns-in-Leaf t c = rw c.in-Leaf.is c.leaf_form_at.ensures

pub parts_at-returns-in-Timer : goal.parts_at-returns-in-Timer
parts_at-returns-in-Timer t c = rw c.in-Timer.is c.timer_at.ensures

pub parts_at-returns-in-Accumulator : goal.parts_at-returns-in-Accumulator
parts_at-returns-in-Accumulator t c = rw c.in-Accumulator.is c.accumulator_at.ensures

pub parts_at-returns-in-Unary : goal.parts_at-returns-in-Unary
parts_at-returns-in-Unary t c = rw c.in-Unary.is c.unary_at.ensures

pub parts_at-returns-in-Binary : goal.parts_at-returns-in-Binary
parts_at-returns-in-Binary t c = rw c.in-Binary.is c.binary_at.ensures

pub parts_at-returns-in-Fed : goal.parts_at-returns-in-Fed
parts_at-returns-in-Fed t c = rw c.in-Fed.is c.fed_at.ensures

pub parts_at-returns-in-Par : goal.parts_at-returns-in-Par
parts_at-returns-in-Par t c = rw c.in-Par.is c.par_at.ensures

pub parts_at-returns-in-KSwitch : goal.parts_at-returns-in-KSwitch
parts_at-returns-in-KSwitch t c = rw c.in-KSwitch.is c.k_switch_at.ensures

pub parts_at-returns-in-PSwitch : goal.parts_at-returns-in-PSwitch
parts_at-returns-in-PSwitch t c = rw c.in-PSwitch.is c.p_switch_at.ensures

pub parts_at-returns-in-RpSwitch : goal.parts_at-returns-in-RpSwitch
parts_at-returns-in-RpSwitch t c = rw c.in-RpSwitch.is c.rp_switch_at.ensures

pub parts_at-returns-in-Old : goal.parts_at-returns-in-Old
parts_at-returns-in-Old t c = rw c.in-Old.is c.old_at.ensures

pub parts_at-returns-in-Never : goal.parts_at-returns-in-Never
parts_at-returns-in-Never t c = rw c.in-Never.is c.never_at.ensures
