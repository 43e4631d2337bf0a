use Rattle.std.proofs.Common.{◌≡◌, ◌++◌, ℕ, List, length, map, sym, ap, ◌∙◌, arith}
use Rattle.std.proofs.lemmas.Grind.{common_steps}
use Rattle.std.proofs.lemmas.List.{length-map}
use Rattle.sample_core.specs.TypeView.{type_of}
use Rattle.c_meaning.specs.Syntax as C
use Rattle.c_text.specs.Meant.{function_meant}
use Rattle.c_file.specs.Compared.{number_among}
use Rattle.c_file.specs.FunctionC.{before_step}
use Rattle.c_build.specs.Scopes.{table}
use Rattle.c_build.specs.Frames.{bounds_in, layout_in}
use Rattle.c_build.specs.Functions.{all_in, step_in}
use Rattle.c_build.proofs.FunctionRows.{last_number}
use Rattle.c_build.proofs.functions.push_called.Goals as goal

pub returns : goal.returns
returns c = λ s h e.
    let F = c.args.frame in
    let L = layout_in F in
    let n = bounds_in F in
    let f = c.args.f.now in
    let Ts = c.args.compared.now in
    let m = number_among (map type_of Ts) in
    let old = c.args.functions.now.items in
    let count : length old ≡ length s.file
    = sym (length-map old (function_meant (table F.scope))) ∙ ap (λ (ys : List C.Function). length ys) e in
    let all = c.in_ok-push_functions.ensures s.callees h
    ∙ (ap (λ (ys : List C.Function). ys ++ all_in F Ts s.callees (length old) f) e
    ∙ ap (λ (j : ℕ). s.file ++ all_in F Ts s.callees j f) count) in
    let last = last_number F c.push_functions.new.functions.items s.file (before_step n m s.callees L (length s.file) f)
    (step_in F s.callees (length s.file) f) all in
    record {
      functions = all;
      callee = record {
        number = grind (arith, common_steps, last, c.saturating_sub.ensures, c.len.ensures);
        kept = c.in_ok-kept.ensures s.callees h;
        input = c.in_ok-input.ensures s.callees h;
        output = c.in_ok-output.ensures s.callees h;
      };
    }
