-- The code of a typed network outputs the network's stream.
use Rattle.std.proofs.Common.{◌≡◌, false, List, [], ◌∷◌, refl, sym, ap, ap₂, ◌∙◌, append-nil}
use Rattle.std.proofs.Math.Path.{fun_ext}
use Rattle.sample_core.specs.Datum.{Datum, unit}
use Rattle.leaf_core.specs.ExpressionValue.{value_of}
use Rattle.net_tree.specs.Network.{Network, Networks, arr, seq, first, par, loop_pre, initial_out, initial_in, i_pre, delay, hold, accum_by, after, repeatedly, time, integral, switch, r_switch, rp_switch, k_switch, p_switch, old, no_members, and_member, map_network, map_networks}
use Rattle.net_tree.specs.NetworkView.{tree}
use Rattle.net_machine.specs.Stepper.{Stepper, Frozen, run, seq_step, first_step, par_step, loop_step, switch_step, r_switch_step, initial_out_step, initial_in_step, k_switch_step, p_switch_step, rp_switch_step}
use Rattle.net_machine.specs.Machine.{Scope, push_param, push_olds, machine, machines, empty}
use Rattle.net_machine.proofs.Typed.{stream_law}
use Rattle.net_code.specs.Running.{nothing_given}
use Rattle.net_code.specs.CodeOf.{code_of}
use Rattle.leaf_core.specs.ExpressionView.{expression_of}
use Rattle.leaf_code.proofs.Values.{leaf-value}
use Rattle.sample_core.specs.TypeTree.{TypeTree}
use Rattle.leaf_core.specs.declared.expr.Expr.{Expr}
use Rattle.net_code.specs.Running.{run_code}
use Rattle.net_code.specs.CodeLaw.{value_in, leaf_in, CodeMachineLaw, CodeLaw, LeafCodeLaw}
use Rattle.net_code.proofs.Codes.{no_freezable, code_is}

-- the machine of a network with other leaves
module _ {L M : Type 0} (val : M → List Datum → Datum → Datum) (h : L → M) where
  abbrev val_of : L → List Datum → Datum → Datum
  val_of e = val (h e)

  mutual
    mapped : (net : Network L) (s : Scope) → machine val_of net s ≡ machine val (map_network h net) s
    mapped (arr e) s = refl
    mapped (seq f g) s = ap₂ seq_step (mapped f s) (mapped g s)
    mapped (first f) s = ap first_step (mapped f s)
    mapped (par fs) s = ap par_step (mapped_all fs s)
    mapped (loop_pre c f) s = ap (loop_step (val_of c s.params unit)) (mapped f s)
    mapped (i_pre c) s = refl
    mapped (delay q c) s = refl
    mapped (hold c) s = refl
    mapped (accum_by g z) s = refl
    mapped (after q c) s = refl
    mapped (repeatedly q c) s = refl
    mapped time s = refl
    mapped integral s = refl
    mapped (switch tm f t) s = ap₂ (switch_step tm) (mapped f s) (fun_ext (λ c. mapped t (push_param s c)))
    mapped (r_switch tm f t) s = ap₂ (r_switch_step tm) (mapped f s) (fun_ext (λ c. mapped t (push_param s c)))
    mapped (k_switch f e t) s =
        let over : Datum → Frozen → Stepper = λ c o. machine val_of t (push_olds (push_param s c) (o ∷ [])) in
        ap₂ (λ (p q : Stepper). k_switch_step p q over) (mapped f s) (mapped e s)
        ∙ ap (λ (p : Datum → Frozen → Stepper). k_switch_step (machine val (map_network h f) s) (machine val (map_network h e) s) p)
        (fun_ext (λ c. fun_ext (λ o. mapped t (push_olds (push_param s c) (o ∷ [])))))
    mapped (p_switch r fs e t) s =
        let over : Datum → List Frozen → Stepper = λ c os. machine val_of t (push_olds (push_param s c) os) in
        ap₂ (λ (ps : List Stepper) (q : Stepper). p_switch_step (val_of r s.params) ps q over) (mapped_all fs s) (mapped e s)
        ∙ ap (λ (p : Datum → List Frozen → Stepper). p_switch_step (val_of r s.params) (machines val (map_networks h fs) s) (machine val (map_network h e) s) p)
        (fun_ext (λ c. fun_ext (λ os. mapped t (push_olds (push_param s c) os))))
    mapped (old k) s = refl
    mapped (initial_out c f) s = ap (initial_out_step (val_of c s.params unit)) (mapped f s)
    mapped (initial_in c f) s = ap (initial_in_step (val_of c s.params unit)) (mapped f s)
    mapped (rp_switch fs m t) s = ap₂ (rp_switch_step (val_of m s.params)) (mapped_all fs s) (fun_ext (λ v. mapped t (push_param s v)))

    mapped_all : (fs : Networks L) (s : Scope) → machines val_of fs s ≡ machines val (map_networks h fs) s
    mapped_all no_members s = refl
    mapped_all (and_member f fs) s = ap₂ (λ (p : Stepper) (ps : List Stepper). p ∷ ps) (mapped f s) (mapped_all fs s)

pub machine_law : CodeMachineLaw
machine_law net s xs =
    ap (λ (f : Stepper). run f false s xs)
    (code_is value_in (code_of net) net 0 [] [] nothing_given (record { all_params = refl; all_olds = refl; fits = no_freezable }) ([], sym (append-nil (code_of net)))
    ∙ mapped value_of _ net empty)

pub code_law : CodeLaw
code_law net A B h s xs = machine_law net s xs ∙ stream_law (tree net) A B h s xs

-- the code of an expression computes its value
leaf_is : (types : Expr → List TypeTree × TypeTree) → leaf_in types ≡ value_in
leaf_is types = fun_ext (λ e. fun_ext (λ ps. fun_ext (λ x. leaf-value ps x (types e).0 (types e).1 (expression_of e))))

pub leaf_code_law : LeafCodeLaw
leaf_code_law types net A B h s xs = ap (λ val. run_code val (code_of net) s xs) (leaf_is types) ∙ code_law net A B h s xs
