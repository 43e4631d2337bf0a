-- Frames that are made of what is known.
use Rattle.std.proofs.Common.{◌≡◌, List, map, length, ap, sym, ◌∙◌, subst}
use Rattle.std.proofs.lemmas.List.{length-map}
use Rattle.c_text.specs.declared.tree.CType as Y
use Rattle.c_text.specs.Meant.{structs_meant, type_meant}
use Rattle.c_leaf.specs.Representing.{c_type}
use Rattle.c_forms.specs.Keeping.{shape_type}
use Rattle.c_file.specs.FunctionC.{Callee}
use Rattle.c_file.specs.FunctionC as K
use Rattle.c_build.specs.declared.frame.Frame.{Frame}
use Rattle.c_build.specs.declared.table.Table.{Table}
use Rattle.c_build.specs.Types.{Typed}
use Rattle.c_build.specs.Frames.{AreCallees, Stands, bounds_in, layout_in}

pub stands_made : (f : Frame) (t : Table) (As Bs : List Y.CType) (cs : List Callee)
    → f.scope.table ≡ t → f.scope.params.now ≡ As → f.scope.olds.now ≡ Bs
    → Typed (structs_meant t.structs.now) f.types.now f.bounds.now f.all.now
    → AreCallees (structs_meant t.structs.now) (bounds_in f) cs f.callees.now
    → map (type_meant (structs_meant t.structs.now)) As ≡ map (c_type (bounds_in f)) (layout_in f).params
    → map (type_meant (structs_meant t.structs.now)) Bs ≡ map (shape_type (bounds_in f)) (K.olds cs (layout_in f))
    → Stands f cs
stands_made f t As Bs cs is_table is_params is_olds known callees params olds =
    let n = bounds_in f in
    let T = type_meant (structs_meant t.structs.now) in
    let typed_in : Table → Type 0 =
    λ u. Typed (structs_meant u.structs.now) f.types.now f.bounds.now f.all.now in
    let callees_in : Table → Type 0 = λ u. AreCallees (structs_meant u.structs.now) n cs f.callees.now in
    record {
      typed = subst typed_in (sym is_table) known;
      callees = subst callees_in (sym is_table) callees;
      params = ap (λ (u : Table). map (type_meant (structs_meant u.structs.now)) f.scope.params.now) is_table
          ∙ (ap (map T) is_params ∙ params);
      olds = ap (λ (u : Table). map (type_meant (structs_meant u.structs.now)) f.scope.olds.now) is_table
          ∙ (ap (map T) is_olds ∙ olds);
      counts = record {
        params = sym (length-map (layout_in f).params (c_type n))
            ∙ (ap length (sym params) ∙ (length-map As T ∙ ap length (sym is_params)));
        olds = sym (length-map (K.olds cs (layout_in f)) (shape_type n))
            ∙ (ap length (sym olds) ∙ (length-map Bs T ∙ ap length (sym is_olds)));
      };
    }
