-- A program outputs its network's stream, and all that stands fits.
use Rattle.std.proofs.Common.{◌≡◌, ◌-◌, ℕ, false, List, [], ◌∷◌, length, map, Some, refl, sym, ap, ◌∙◌, subst}
use Rattle.std.specs.List.{slice_get}
use Rattle.net_tree.specs.NetworkView.{tree}
use Rattle.net_meaning.specs.TypedNetwork.{NetTyped, stream_of}
use Rattle.net_code.specs.declared.statement.Function.{Function}
use Rattle.net_code.specs.Running.{latest, run_code}
use Rattle.net_code.specs.CodeView.{code_in}
use Rattle.net_code.specs.CodeLaw.{leaf_in}
use Rattle.net_code.proofs.Streams.{leaf_code_law}
use Rattle.code_fits.specs.declared.layout.Layout as N
use Rattle.code_fits.specs.FitLaw.{SamplesFit}
use Rattle.code_fits.specs.Tables.{layout_of, bound_of, trees_at}
use Rattle.code_fits.specs.Programs.{IsWhole, ProgramOutputs, ProgramStands}
use Rattle.code_fits.proofs.RuleTests.{callee-goes}
use Rattle.code_fits.proofs.Links.{fit_law}
use Rattle.code_fits.proofs.Room.{samples-fit}

code-length : (fs : List Function) → length (code_in fs) ≡ length fs
code-length [] = refl
code-length (f ∷ fs) = ap ℕ.suc (code-length fs)

-- the last layout is that of the last function
pub last-there : (fs : List Function) (Ls : List N.Layout) (k : ℕ) (L : N.Layout) → slice_get Ls k ≡ Some L → k ≡ length fs - 1 → slice_get Ls (latest (code_in fs)) ≡ Some L
last-there fs Ls k L e q = subst (λ j. slice_get Ls j ≡ Some L) (q ∙ ap (λ n. n - 1) (sym (code-length fs))) e

pub outputs : ProgramOutputs
outputs t most p typed h types s xs =
    let same : tree h.code.0 ≡ t.net = h.code.1 in
    let it : NetTyped [] [] (tree h.code.0) t.input t.output = subst (λ n. NetTyped [] [] n t.input t.output) (sym same) typed in
    ap (λ c. run_code (leaf_in types) c s xs) h.code.2
    ∙ leaf_code_law types h.code.0 t.input t.output it s xs
    ∙ ap (λ n. stream_of n xs) same

pub stands : ProgramStands
stands t most p h s xs x =
    let w : IsWhole t p.types h.whole.layout = h.whole.whole in
    fit_law (bound_of p.types p.bounds.items) p.functions.items (map (layout_of p.types) p.layouts.items) (layout_of p.types h.whole.layout) h.layouts
    (callee-goes p.types p.layouts.items (latest (code_in p.functions.items)) h.whole.layout h.whole.last)
    (ap (trees_at p.types) w.params) w.olds s xs
    (subst (λ A. SamplesFit (bound_of p.types p.bounds.items) A false xs) (sym w.input) (samples-fit (bound_of p.types p.bounds.items) most t.input false xs h.room x))
