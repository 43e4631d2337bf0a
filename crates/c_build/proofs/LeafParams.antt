-- The parameters of expressions' functions.
use Rattle.std.proofs.Common.{◌≡◌, ℕ, List, [], ◌∷◌, ◌++◌, map, length, sym, ap, ◌∙◌}
use Rattle.std.proofs.lemmas.List.{length-map, map-append}
use Rattle.sample_core.specs.TypeTree.{TypeTree}
use Rattle.leaf_code.specs.Fitting.{Bounds}
use Rattle.c_meaning.specs.Object.{CType}
use Rattle.c_meaning.specs.Syntax.{Parameter, const_param}
use Rattle.c_text.specs.declared.tree.CType as Y
use Rattle.c_text.specs.Meant.{type_meant, param_meant}
use Rattle.c_leaf.specs.Representing.{c_type}
use Rattle.c_leaf.specs.LeafC.{const_params}
use Rattle.c_build.specs.Frames.{const_rows}
use Rattle.c_build.proofs.Rows.{consts_meant}

-- there are as many as types
pub as_many : (Ts : List CType) (As : List Y.CType) (n : Bounds) (Ps : List TypeTree)
    → map (type_meant Ts) As ≡ map (c_type n) Ps → length As ≡ length Ps
as_many Ts As n Ps e =
    sym (length-map As (type_meant Ts)) ∙ (ap (λ (xs : List CType). length xs) e ∙ length-map Ps (c_type n))

-- and the input
pub with_input : (Ts : List CType) (As : List Y.CType) (n : Bounds) (Ps : List TypeTree) (B : Y.CType)
    (A : TypeTree) → map (type_meant Ts) As ≡ map (c_type n) Ps → type_meant Ts B ≡ c_type n A
    → map (param_meant Ts) (const_rows As ++ const_rows (B ∷ []))
    ≡ const_params n Ps ++ const_param (c_type n A) ∷ []
with_input Ts As n Ps B A e f =
    map-append (param_meant Ts) (const_rows As) (const_rows (B ∷ []))
    ∙ (ap (λ (ps : List Parameter). ps ++ const_param (type_meant Ts B) ∷ []) (consts_meant Ts As n Ps e)
    ∙ ap (λ (t : CType). const_params n Ps ++ const_param t ∷ []) f)
