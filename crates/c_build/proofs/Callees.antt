-- What the file has of the functions of the code.
use Rattle.std.proofs.Common.{◌≡◌, ℕ, zero, suc, List, [], ◌∷◌, ◌++◌, ◌<◌, length, get_or, Some, refl, ap, arith}
use Rattle.std.specs.List.{slice_get}
use Rattle.leaf_code.specs.Fitting.{Bounds}
use Rattle.c_meaning.specs.Object.{CType}
use Rattle.c_file.specs.FunctionC.{Callee, callee_at}
use Rattle.c_build.specs.declared.frame.Called.{Called}
use Rattle.c_build.specs.Frames.{IsCallee, AreCallees}

pub callee_found : (Ts : List CType) (n : Bounds) (cs : List Callee) (rs : List Called) (k : ℕ) (r : Called)
    → AreCallees Ts n cs rs → slice_get rs k ≡ Some r → IsCallee Ts n (callee_at cs k) r
callee_found Ts n [] [] k r h e = absurd (cc)
callee_found Ts n [] (q ∷ rs) k r h e = absurd h
callee_found Ts n (c ∷ cs) [] k r h e = absurd h
callee_found Ts n (c ∷ cs) (q ∷ rs) zero r h e =
    let same : q ≡ r = cc in rw (← same) h.0
callee_found Ts n (c ∷ cs) (q ∷ rs) (suc k) r h e = callee_found Ts n cs rs k r h.1 e

-- one more
pub callees_more : (Ts : List CType) (n : Bounds) (cs : List Callee) (rs : List Called) (c : Callee) (r : Called)
    → AreCallees Ts n cs rs → IsCallee Ts n c r → AreCallees Ts n (cs ++ c ∷ []) (rs ++ r ∷ [])
callees_more Ts n [] [] c r h i = (i, tt)
callees_more Ts n [] (q ∷ rs) c r h i = absurd h
callees_more Ts n (d ∷ cs) [] c r h i = absurd h
callees_more Ts n (d ∷ cs) (q ∷ rs) c r h i = (h.0, callees_more Ts n cs rs c r h.1 i)

-- there are as many
pub callees_count : (Ts : List CType) (n : Bounds) (cs : List Callee) (rs : List Called)
    → AreCallees Ts n cs rs → length cs ≡ length rs
callees_count Ts n [] [] h = refl
callees_count Ts n [] (q ∷ rs) h = absurd h
callees_count Ts n (d ∷ cs) [] h = absurd h
callees_count Ts n (d ∷ cs) (q ∷ rs) h = ap suc (callees_count Ts n cs rs h.1)

-- what stands at a place that is there
pub got : (rs : List Called) (k : ℕ) (d : Called) → k < length rs → slice_get rs k ≡ Some (get_or rs k d)
got [] k d l = absurd (omega (arith, l))
got (r ∷ rs) zero d l = refl
got (r ∷ rs) (suc k) d l = got rs k d (omega (arith, l))
