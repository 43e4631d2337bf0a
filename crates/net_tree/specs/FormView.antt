-- Networks of forms that hold the same parts, in the code.
use Rattle.net_tree.specs.Network.{Network, loop_pre, initial_out, initial_in}
use Rattle.net_tree.specs.declared.net.Net.{Net}
use Rattle.net_tree.specs.declared.net.Net.TheVariants as V
use Rattle.net_tree.specs.declared.forms.LeafForm.{LeafForm}
use Rattle.net_tree.specs.declared.forms.LeafForm.TheVariants as F
use Rattle.net_tree.specs.declared.forms.PairForm.{PairForm}
use Rattle.net_tree.specs.declared.forms.PairForm.TheVariants as P
use Rattle.net_tree.specs.declared.forms.FedForm.{FedForm}
use Rattle.net_tree.specs.declared.forms.FedForm.TheVariants as D

-- a form of one leaf, with that leaf
abbrev pub leaf_form_of : {L : Type 0} → LeafForm → L → Net L
leaf_form_of F.Arr c = V.Arr c
leaf_form_of F.IPre c = V.IPre c
leaf_form_of (F.Delay q) c = V.Delay q c
leaf_form_of F.Hold c = V.Hold c
leaf_form_of (F.After q) c = V.After q c
leaf_form_of (F.Repeatedly q) c = V.Repeatedly q c

-- a form of two networks, with these
abbrev pub pair_form_of : {L : Type 0} → PairForm → Network L → Network L → Net L
pair_form_of P.Seq f g = V.Seq f g
pair_form_of P.Switch f g = V.Switch f g
pair_form_of P.DSwitch f g = V.DSwitch f g
pair_form_of P.RSwitch f g = V.RSwitch f g
pair_form_of P.DrSwitch f g = V.DrSwitch f g

-- a form of an expression and a network, with these
abbrev pub fed_form_of : {L : Type 0} → FedForm → L → Network L → Net L
fed_form_of D.LoopPre c f = V.LoopPre c f
fed_form_of D.InitialOut c f = V.InitialOut c f
fed_form_of D.InitialIn c f = V.InitialIn c f

-- the same as a tree
abbrev pub fed_tree : {L : Type 0} → FedForm → L → Network L → Network L
fed_tree D.LoopPre = loop_pre
fed_tree D.InitialOut = initial_out
fed_tree D.InitialIn = initial_in
