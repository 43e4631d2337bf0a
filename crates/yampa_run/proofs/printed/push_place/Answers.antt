use Rattle.std.proofs.Common.{◌≡◌, ◌++◌, List, ℕ, ap, ◌∙◌, append_assoc, codes, string_bytes}
use Rattle.std.specs.Fmt.{decimal}
use Rattle.yampa_run.proofs.printed.push_place.Goals as goal

joined : (o a b c d e x y : List ℕ) → x ≡ o ++ (a ++ (b ++ (c ++ d))) → y ≡ x ++ e → y ≡ o ++ (a ++ (b ++ (c ++ (d ++ e))))
joined o a b c d e x y p q = q ∙ ap (λ t. t ++ e) p ∙ simp append_assoc

pub returns : goal.returns
returns c = joined (string_bytes c.args.out.now) (codes "stream: line ") (decimal c.args.line) (codes ": ") c.args.what.now (decimal c.args.place) _ _
    c.in_ok-push_at.ensures c.in_ok-push_number.ensures
