-- Rows of parameters.
use Rattle.std.proofs.Common.{◌≡◌, List, [], ◌∷◌, ◌++◌, map, refl, ap, ◌∙◌}
use Rattle.std.proofs.lemmas.List.{map-append}
use Rattle.sample_core.specs.TypeTree.{TypeTree}
use Rattle.leaf_code.specs.Fitting.{Bounds}
use Rattle.c_meaning.specs.Object.{CType, number_type, i64}
use Rattle.c_meaning.specs.Syntax.{Parameter, const_param, value_param}
use Rattle.c_text.specs.declared.tree.CType as Y
use Rattle.c_text.specs.Meant.{type_meant, param_meant}
use Rattle.c_leaf.specs.Representing.{c_type}
use Rattle.c_leaf.specs.LeafC.{const_params}
use Rattle.c_forms.specs.Keeping.{Shape, shape_type}
use Rattle.c_forms.specs.Standing.{old_params}
use Rattle.c_build.specs.Frames.{const_rows, old_rows}

pub consts_meant : (Ts : List CType) (As : List Y.CType) (n : Bounds) (Ps : List TypeTree)
    → map (type_meant Ts) As ≡ map (c_type n) Ps
    → map (param_meant Ts) (const_rows As) ≡ const_params n Ps
consts_meant Ts [] n [] e = refl
consts_meant Ts [] n (P ∷ Ps) e = cc
consts_meant Ts (A ∷ As) n [] e = cc
consts_meant Ts (A ∷ As) n (P ∷ Ps) e =
    let first : type_meant Ts A ≡ c_type n P = cc in
    let rest : map (type_meant Ts) As ≡ map (c_type n) Ps = cc in
    let others = consts_meant Ts As n Ps rest in cc

pub olds_meant : (Ts : List CType) (As : List Y.CType) (n : Bounds) (Os : List Shape)
    → map (type_meant Ts) As ≡ map (shape_type n) Os
    → map (param_meant Ts) (old_rows As) ≡ old_params n Os
olds_meant Ts [] n [] e = refl
olds_meant Ts [] n (O ∷ Os) e = cc
olds_meant Ts (A ∷ As) n [] e = cc
olds_meant Ts (A ∷ As) n (O ∷ Os) e =
    let first : type_meant Ts A ≡ shape_type n O = cc in
    let rest : map (type_meant Ts) As ≡ map (shape_type n) Os = cc in
    let others = olds_meant Ts As n Os rest in cc

-- what a step is passed behind its input
pub rows_meant : (Ts : List CType) (As Bs : List Y.CType) (n : Bounds) (Ps : List TypeTree) (Os : List Shape)
    → map (type_meant Ts) As ≡ map (c_type n) Ps → map (type_meant Ts) Bs ≡ map (shape_type n) Os
    → map (param_meant Ts) (const_rows As ++ old_rows Bs) ≡ const_params n Ps ++ old_params n Os
rows_meant Ts As Bs n Ps Os e f =
    map-append (param_meant Ts) (const_rows As) (old_rows Bs)
    ∙ ap (λ ps. ps ++ map (param_meant Ts) (old_rows Bs)) (consts_meant Ts As n Ps e)
    ∙ ap (λ qs. const_params n Ps ++ qs) (olds_meant Ts Bs n Os f)
