-- What members keep stands in one struct.
use Rattle.std.proofs.Common.{◌≡◌, List, [], ◌∷◌, map, refl}
use Rattle.leaf_code.specs.Fitting.{Bounds}
use Rattle.c_meaning.specs.Object.{CType}
use Rattle.c_text.specs.declared.tree.CType as Y
use Rattle.c_text.specs.Meant.{type_meant, members_meant}
use Rattle.c_forms.specs.Keeping.{Shape, shape_type}
use Rattle.c_forms.specs.Members.{members_shape}

pub members_kept : (Ts : List CType) (As : List Y.CType) (n : Bounds) (Ss : List Shape)
    → map (type_meant Ts) As ≡ map (shape_type n) Ss → members_meant Ts As ≡ shape_type n (members_shape Ss)
members_kept Ts [] n [] e = refl
members_kept Ts [] n (S ∷ Ss) e = cc
members_kept Ts (A ∷ As) n [] e = cc
members_kept Ts (A ∷ As) n (S ∷ Ss) e =
    let first : type_meant Ts A ≡ shape_type n S = cc in
    let rest : map (type_meant Ts) As ≡ map (shape_type n) Ss = cc in
    let others = members_kept Ts As n Ss rest in cc
