-- What the code's reader of networks answers: what the reader of the grammar does on the tokens
-- from some byte on.
use Rattle.std.specs.Prelude.{ℕ, List, length, slice_range, Result}
use Rattle.sample_core.specs.TypeTree.{TypeTree}
use Rattle.sample_core.specs.TypeView.{type_of}
use Rattle.sample_core.specs.declared.ty.Ty.{Ty}
use Rattle.leaf_core.specs.Expression.{Expression}
use Rattle.leaf_core.specs.ExpressionView.{expression_of}
use Rattle.leaf_core.specs.declared.expr.Expr.{Expr}
use Rattle.leaf_expr.specs.declared.text_fault.ExprTextFault.{ExprTextFault}
use Rattle.leaf_expr.specs.Language.{Language, Places, Maker, no_place}
use Rattle.leaf_expr.specs.ReadText.{GivesTree}
use Rattle.leaf_expr.specs.Token.{PlacedToken, tokens_from}
use Rattle.leaf_expr.specs.TreeReader.{word_read, Read, read, read_form, read_parts}
use Rattle.leaf_expr.specs.declared.type_reader.TheConstants.{MOST_OPEN}
use Rattle.net_tree.specs.Network.{Network, Networks, map_network, map_networks}
use Rattle.net_tree.specs.NetworkView.{tree_of}
use Rattle.net_tree.specs.declared.net.Net.{Net}
use Rattle.net_text.specs.Grammar.{networks, NetSort, NetTree, network_sort, net_word_at, e, f, col}
use Rattle.net_text.specs.File.{at_end}
use Rattle.net_text.specs.Form.{net_form_production, version_of}
use Rattle.net_text.specs.declared.form.NetForm.{NetForm}
use Rattle.net_text.specs.declared.text.Text.{Text}
use Rattle.net_text.specs.declared.fault.NetTextFault.{NetTextFault}
use Rattle.net_text.specs.declared.fault.NetTextFault.TheVariants as V
use Rattle.sample_core.specs.Answer.{◌>>=◌, GivesUnless}

-- the language of the text's version
abbrev pub language : Text → Language
language text = networks (version_of text.version)

-- the tokens of the text from byte n on
abbrev pub from_byte : ℕ → Text → List PlacedToken
from_byte n text = tokens_from n text.bytes.now

-- a tree of the sort in the text from byte n on, with room for so many more parentheses
abbrev pub sort_at : (s : NetSort) → Text → ℕ → ℕ → Read (NetTree s)
sort_at s text room n = read (language text) (length text.bytes.now) room s (from_byte n text)

-- a network, and nothing behind it, in the text from byte n on
abbrev pub last_network_at : Text → ℕ → Result (Network Expression) ExprTextFault
last_network_at text n = sort_at network_sort text MOST_OPEN n >>= (λ g. at_end g.0 g.2)

-- the network that the word is from byte n up to and without byte m
abbrev pub word_network : Text → ℕ → ℕ → Read (Network Expression)
word_network text n m = word_read n (slice_range text.bytes.now n m) (from_byte m text)
    (net_word_at network_sort (slice_range text.bytes.now n m))

-- what is read behind the parenthesis of a form, in the text from byte n on
abbrev pub net_form_at : (s : NetSort) → Text → ℕ → ℕ → Read (NetTree s)
net_form_at s text room n = read_form (language text) (length text.bytes.now)
    (read (language text) (length text.bytes.now) room) room s (from_byte n text)

-- those parts of a form and its end, in the text from byte n on
abbrev pub parts_at : {R : Type 0} → (ps : Places NetSort) → Maker NetTree ps R → Text → ℕ → ℕ
    → Read R
parts_at ps make text room n = read_parts (language text) (length text.bytes.now)
    (read (language text) (length text.bytes.now) room) room ps make (from_byte n text)

-- the last two parts of a form, which are networks, and its end
abbrev pub last_two_nets_at : Text → ℕ → ℕ → Read (Network Expression × Network Expression)
last_two_nets_at text room n = parts_at {R = Network Expression × Network Expression}
    (f (f no_place)) (λ g h. (g, h)) text room n

-- the last two parts of a form, which are an expression and a network, and its end
abbrev pub last_fed_at : Text → ℕ → ℕ → Read (Expression × Network Expression)
last_fed_at text room n = parts_at {R = Expression × Network Expression} (e (f no_place))
    (λ c g. (c, g)) text room n

-- the last three parts of a form, which are members and two networks, and its end
abbrev pub last_three_at : Text → ℕ → ℕ
    → Read (Networks Expression × Network Expression × Network Expression)
last_three_at text room n =
    parts_at {R = Networks Expression × Network Expression × Network Expression}
    (col (f (f no_place))) (λ fs g h. (fs, g, h)) text room n

-- a network, the byte behind it, and the tokens from there on
abbrev pub network_left : Text → Net Expr × ℕ → Network Expression × ℕ × List PlacedToken
network_left text x = (tree_of x.0, x.1, from_byte x.1 text)

-- the same of a network inside a network
abbrev pub child_left : Text → Network Expr × ℕ → Network Expression × ℕ × List PlacedToken
child_left text x = (map_network expression_of x.0, x.1, from_byte x.1 text)

-- the same of members
abbrev pub members_left : Text → Networks Expr × ℕ → Networks Expression × ℕ × List PlacedToken
members_left text x = (map_networks expression_of x.0, x.1, from_byte x.1 text)

-- what the call returned is what reading the parts of the form and its end gives, in the text from
-- byte n on, unless memory ran out
abbrev pub GivesForm : Result (Net Expr × ℕ) ExprTextFault → NetForm → Text → ℕ → ℕ → Type 0
GivesForm result form text room n = GivesTree (network_left text) result
    (parts_at (net_form_production form).takes (net_form_production form).makes text room n)

-- what the call returned is what reading gives, unless memory ran out
abbrev pub GivesFile : Result (Ty × Net Expr) NetTextFault
    → Result (TypeTree × Network Expression) NetTextFault → Type 0
GivesFile result read = GivesUnless V.Memory (λ x. (type_of x.0, tree_of x.1)) result read
