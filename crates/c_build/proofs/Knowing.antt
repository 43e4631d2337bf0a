-- The types of C of a program's types, one by one.
use Rattle.std.proofs.Common.{◌≡◌, ℕ, zero, suc, List, [], ◌∷◌, ◌++◌, map, length, get_or, Option, Some, None, refl, ap, sym, ◌∙◌, subst, arith}
use Rattle.std.specs.List.{slice_get}
use Rattle.sample_core.specs.TypeTree.{unit_ty}
use Rattle.sample_core.specs.TypeView.{type_of}
use Rattle.code_fits.specs.declared.types.Types.{Types}
use Rattle.code_fits.specs.declared.types.TypeEntry.{TypeEntry}
use Rattle.code_fits.specs.Tables.{tree_at, bound_of, entry_tree, TableHolds}
use Rattle.c_meaning.specs.Object.{CType}
use Rattle.c_text.specs.declared.tree.CType as Y
use Rattle.c_text.specs.Meant.{type_meant}
use Rattle.c_leaf.specs.Representing.{c_type}
use Rattle.c_build.specs.Types.{Typed}

-- what holds of each and of one behind them
each_more : {A X : Type 0} (f : A → X) (g : ℕ → X) (xs : List A) (x : A)
    → ((k : ℕ) (y : A) → slice_get xs k ≡ Some y → f y ≡ g k) → f x ≡ g (length xs)
    → (k : ℕ) (y : A) → slice_get (xs ++ x ∷ []) k ≡ Some y → f y ≡ g k
each_more f g [] x h last zero y e = let same : x ≡ y = cc in ap f (sym same) ∙ last
each_more f g [] x h last (suc k) y e = absurd (cc)
each_more f g (z ∷ xs) x h last zero y e = h zero y e
each_more f g (z ∷ xs) x h last (suc k) y e =
    each_more f (λ j. g (suc j)) xs x (λ j w d. h (suc j) w d) last k y e

pub typed_more : (Ts : List CType) (ts : Types) (ns : List ℕ) (Cs : List Y.CType) (T : Y.CType)
    → Typed Ts ts ns Cs → type_meant Ts T ≡ c_type (bound_of ts ns) (tree_at ts (length Cs))
    → Typed Ts ts ns (Cs ++ T ∷ [])
typed_more Ts ts ns Cs T h e = record {
  table = h.table;
  each = each_more (type_meant Ts) (λ k. c_type (bound_of ts ns) (tree_at ts k)) Cs T h.each e;
}

-- one more, of the entry at its place
pub typed_entry : (Ts : List CType) (ts : Types) (ns : List ℕ) (Cs Ds Es : List Y.CType) (T : Y.CType) (k : ℕ)
    (r : TypeEntry)
    → Typed Ts ts ns Cs → length Cs ≡ k → Ds ≡ Cs → Es ≡ Cs ++ T ∷ []
    → (Typed Ts ts ns Ds → type_meant Ts T ≡ c_type (bound_of ts ns) (entry_tree ts r))
    → slice_get ts.entries.items k ≡ Some r → Typed Ts ts ns Es
typed_entry Ts ts ns Cs Ds Es T k r h count is_rows is_pushed find there =
    let P : List Y.CType → Type 0 = λ As. Typed Ts ts ns As in
    let found : type_meant Ts T ≡ c_type (bound_of ts ns) (entry_tree ts r) = find (subst P (sym is_rows) h) in
    let tree : entry_tree ts r ≡ tree_at ts (length Cs) =
    sym (h.table k r there) ∙ ap (tree_at ts) (sym count) in
    subst P (sym is_pushed) (typed_more Ts ts ns Cs T h (found ∙ ap (c_type (bound_of ts ns)) tree))

pub typed_none : (Ts : List CType) (ts : Types) (ns : List ℕ) → TableHolds ts → Typed Ts ts ns []
typed_none Ts ts ns h = record { table = h; each = λ k T e. absurd (cc) }

-- as many, each the one at its place, are the same row
rows_same : {A B X : Type 0} (f : A → X) (g : B → X) (xs : List A) (ys : List B) (d : B)
    → length xs ≡ length ys → ((k : ℕ) (x : A) → slice_get xs k ≡ Some x → f x ≡ g (get_or ys k d))
    → map f xs ≡ map g ys
rows_same f g [] [] d e h = refl
rows_same f g [] (y ∷ ys) d e h = absurd (omega (arith, e))
rows_same f g (x ∷ xs) [] d e h = absurd (omega (arith, e))
rows_same f g (x ∷ xs) (y ∷ ys) d e h =
    let first : f x ≡ g y = h zero x refl in
    let rest : map f xs ≡ map g ys = rows_same f g xs ys d (omega (arith, e)) (λ k w i. h (suc k) w i) in cc

pub typed_rows : (Ts : List CType) (ts : Types) (ns : List ℕ) (Cs : List Y.CType)
    → Typed Ts ts ns Cs → length Cs ≡ length (map type_of ts.trees.items)
    → map (type_meant Ts) Cs ≡ map (c_type (bound_of ts ns)) (map type_of ts.trees.items)
typed_rows Ts ts ns Cs h e =
    rows_same (type_meant Ts) (c_type (bound_of ts ns)) Cs (map type_of ts.trees.items) unit_ty e h.each
