-- Matching the left side and building the right side is what two patterns of networks say.
use Rattle.std.proofs.Common.{◌≡◌, ℕ, List, [], ◌∷◌, Option, Some, None, Result, Ok, Err, IfOk, MatchOption, refl, sym, ap, ◌∙◌}
use Rattle.leaf_core.specs.Expression.{Expression}
use Rattle.leaf_core.specs.declared.expr.Expr.{Expr}
use Rattle.net_tree.specs.Network.{Network}
use Rattle.net_tree.specs.NetworkView.{tree_of}
use Rattle.net_tree.specs.declared.net.Net.{Net}
use Rattle.law_patterns.specs.declared.net_sym.NetSym.{NetSym}
use Rattle.law_patterns.specs.declared.net_sym.NetSym.TheVariants as S
use Rattle.law_patterns.specs.Pattern.{around_one, around_two, around_three}
use Rattle.law_patterns.specs.NetPattern.{NetAssignment, Written, both, of_leaf, of_leaves, of_fed, with_nets, with_exprs, net_put_before, net_put_before_some, net_written, only_net, net_filled, NetPatternSides}
use Rattle.law_patterns.specs.NetMatching.{NetFound, no_nets_found, net_fitted, or_time, or_zero, net_completed, net_built, net_rewritten}
use Rattle.law_patterns.proofs.Fits.{AgreesAt}
use Rattle.law_patterns.proofs.Sides.{SameLength, SameLengths, put-alike, completed-agrees, nothing-agrees}
use Rattle.law_patterns.proofs.NetFits.{NetAgrees, net_fits-written, net_written-fitted}

-- as many expressions and as many networks, or two that aren't there
abbrev SameSizes : Option Written → Option Written → Type 0
SameSizes None None = Unit {0}
SameSizes (Some (both ds fs)) (Some (both es gs)) = SameLength ds es × SameLength fs gs
SameSizes _ _ = ⊥

nets-alike : (xs ys : List Expression) (v w : Option (List (Network Expression))) → SameLength xs ys → SameLengths v w → SameSizes (with_exprs xs v) (with_exprs ys w)
nets-alike xs ys None None h k = tt
nets-alike xs ys (Some fs) (Some gs) h k = (h, k)
nets-alike xs ys None (Some gs) h k = absurd k
nets-alike xs ys (Some fs) None h k = absurd k

exprs-alike : (v w : Option (List Expression)) (fs gs : List (Network Expression)) → SameLengths v w → SameLength fs gs → SameSizes (with_nets v fs) (with_nets w gs)
exprs-alike None None fs gs h k = tt
exprs-alike (Some xs) (Some ys) fs gs h k = (h, k)
exprs-alike None (Some ys) fs gs h k = absurd h
exprs-alike (Some xs) None fs gs h k = absurd h

leaf-alike : (f g : Expression → Network Expression) (xs ys : List Expression) (fs gs : List (Network Expression)) → SameLength xs ys → SameLength fs gs → SameSizes (of_leaf f xs fs) (of_leaf g ys gs)
leaf-alike f g [] [] fs gs h k = tt
leaf-alike f g (x ∷ xs) (y ∷ ys) fs gs h k = (h, k)
leaf-alike f g [] (y ∷ ys) fs gs h k = absurd h
leaf-alike f g (x ∷ xs) [] fs gs h k = absurd h

leaves-alike : (form : Expression → Expression → Network Expression) (xs ys : List Expression) (fs gs : List (Network Expression)) → SameLength xs ys → SameLength fs gs → SameSizes (of_leaves form xs fs) (of_leaves form ys gs)
leaves-alike form (x ∷ x' ∷ xs) (y ∷ y' ∷ ys) fs gs h k = (h, k)
leaves-alike form [] [] fs gs h k = tt
leaves-alike form (x ∷ []) (y ∷ []) fs gs h k = tt
leaves-alike form _ _ fs gs h k = absurd h

fed-alike : (form : Expression → Network Expression → Network Expression) (xs ys : List Expression) (fs gs : List (Network Expression)) → SameLength xs ys → SameLength fs gs → SameSizes (of_fed form xs fs) (of_fed form ys gs)
fed-alike form (x ∷ xs) (y ∷ ys) (f ∷ fs) (g ∷ gs) h k = (h, k)
fed-alike form [] [] fs gs h k = tt
fed-alike form (x ∷ xs) (y ∷ ys) [] [] h k = tt
fed-alike form (x ∷ xs) (y ∷ ys) [] (g ∷ gs) h k = absurd k
fed-alike form (x ∷ xs) (y ∷ ys) (f ∷ fs) [] h k = absurd k
fed-alike form [] (y ∷ ys) fs gs h k = absurd h
fed-alike form (x ∷ xs) [] fs gs h k = absurd h

one-alike : (form : Network Expression → Network Expression) (fs gs : List (Network Expression)) → SameLength fs gs → SameLengths (around_one form fs) (around_one form gs)
one-alike form [] [] k = tt
one-alike form (f ∷ fs) (g ∷ gs) k = k
one-alike form _ _ k = absurd k

two-alike : (form : Network Expression → Network Expression → Network Expression) (fs gs : List (Network Expression)) → SameLength fs gs → SameLengths (around_two form fs) (around_two form gs)
two-alike form (f ∷ f' ∷ fs) (g ∷ g' ∷ gs) k = k
two-alike form [] [] k = tt
two-alike form (f ∷ []) (g ∷ []) k = tt
two-alike form _ _ k = absurd k

three-alike : (form : Network Expression → Network Expression → Network Expression → Network Expression) (fs gs : List (Network Expression)) → SameLength fs gs
    → SameLengths (around_three form fs) (around_three form gs)
three-alike form (f ∷ f' ∷ f'' ∷ fs) (g ∷ g' ∷ g'' ∷ gs) k = k
three-alike form [] [] k = tt
three-alike form (f ∷ []) (g ∷ []) k = tt
three-alike form (f ∷ f' ∷ []) (g ∷ g' ∷ []) k = tt
three-alike form _ _ k = absurd k

net_put-alike : (y : NetSym) (a b : NetAssignment) (xs ys : List Expression) (fs gs : List (Network Expression)) → SameLength xs ys → SameLength fs gs
    → SameSizes (net_put_before a y (both xs fs)) (net_put_before b y (both ys gs))
net_put-alike (S.Letter k) a b xs ys fs gs h i = (h, i)
net_put-alike (S.Leaf s) a b xs ys fs gs h i = exprs-alike _ _ fs gs (put-alike s a.exprs b.exprs xs ys h) i
net_put-alike S.Arr a b xs ys fs gs h i = leaf-alike _ _ xs ys fs gs h i
net_put-alike S.IPre a b xs ys fs gs h i = leaf-alike _ _ xs ys fs gs h i
net_put-alike S.Hold a b xs ys fs gs h i = leaf-alike _ _ xs ys fs gs h i
net_put-alike S.Delay a b xs ys fs gs h i = leaf-alike _ _ xs ys fs gs h i
net_put-alike S.After a b xs ys fs gs h i = leaf-alike _ _ xs ys fs gs h i
net_put-alike S.Repeatedly a b xs ys fs gs h i = leaf-alike _ _ xs ys fs gs h i
net_put-alike S.Now a b xs ys fs gs h i = leaf-alike _ _ xs ys fs gs h i
net_put-alike S.Time a b xs ys fs gs h i = (h, i)
net_put-alike S.Integral a b xs ys fs gs h i = (h, i)
net_put-alike S.AccumBy a b xs ys fs gs h i = leaves-alike _ xs ys fs gs h i
net_put-alike S.LoopPre a b xs ys fs gs h i = fed-alike _ xs ys fs gs h i
net_put-alike S.InitialOut a b xs ys fs gs h i = fed-alike _ xs ys fs gs h i
net_put-alike S.InitialIn a b xs ys fs gs h i = fed-alike _ xs ys fs gs h i
net_put-alike S.First a b xs ys fs gs h i = nets-alike xs ys _ _ h (one-alike _ fs gs i)
net_put-alike S.Seq a b xs ys fs gs h i = nets-alike xs ys _ _ h (two-alike _ fs gs i)
net_put-alike S.Switch a b xs ys fs gs h i = nets-alike xs ys _ _ h (two-alike _ fs gs i)
net_put-alike S.DSwitch a b xs ys fs gs h i = nets-alike xs ys _ _ h (two-alike _ fs gs i)
net_put-alike S.RSwitch a b xs ys fs gs h i = nets-alike xs ys _ _ h (two-alike _ fs gs i)
net_put-alike S.DrSwitch a b xs ys fs gs h i = nets-alike xs ys _ _ h (two-alike _ fs gs i)
net_put-alike S.KSwitch a b xs ys fs gs h i = nets-alike xs ys _ _ h (three-alike _ fs gs i)

put-some-alike : (y : NetSym) (a b : NetAssignment) (v w : Option Written) → SameSizes v w → SameSizes (net_put_before_some a y v) (net_put_before_some b y w)
put-some-alike y a b None None h = tt
put-some-alike y a b (Some (both xs fs)) (Some (both ys gs)) h = net_put-alike y a b xs ys fs gs h.0 h.1
put-some-alike y a b None (Some (both ys gs)) h = absurd h
put-some-alike y a b (Some (both xs fs)) None h = absurd h

written-alike : (ss : List NetSym) (a b : NetAssignment) → SameSizes (net_written a ss) (net_written b ss)
written-alike [] a b = (tt, tt)
written-alike (y ∷ ys) a b = put-some-alike y a b (net_written a ys) (net_written b ys) (written-alike ys a b)

only_net-alike : (v w : Option Written) → SameSizes v w → only_net v ≡ None → only_net w ≡ None
only_net-alike v None h p = refl
only_net-alike v (Some (both (y ∷ ys) gs)) h p = refl
only_net-alike v (Some (both [] [])) h p = refl
only_net-alike v (Some (both [] (g ∷ g' ∷ gs))) h p = refl
only_net-alike (Some (both [] (f ∷ []))) (Some (both [] (g ∷ []))) h p = absurd (cc)
only_net-alike None (Some (both [] (g ∷ []))) h p = absurd h
only_net-alike (Some (both (x ∷ xs) fs)) (Some (both [] (g ∷ []))) h p = absurd h.0
only_net-alike (Some (both [] [])) (Some (both [] (g ∷ []))) h p = absurd h.1
only_net-alike (Some (both [] (f ∷ f' ∷ fs))) (Some (both [] (g ∷ []))) h p = absurd h.1

-- whether a pattern is one network doesn't depend on its letters' trees
net_filled-alike : (ss : List NetSym) (a b : NetAssignment) → net_filled a ss ≡ None → net_filled b ss ≡ None
net_filled-alike ss a b p = only_net-alike (net_written a ss) (net_written b ss) (written-alike ss a b) p

pub only_net-is : (w : Option Written) (f : Network Expression) → only_net w ≡ Some f → w ≡ Some (both [] (f ∷ []))
only_net-is None f p = absurd (cc)
only_net-is (Some (both [] [])) f p = absurd (cc)
only_net-is (Some (both [] (g ∷ []))) f p = cc
only_net-is (Some (both [] (g ∷ g' ∷ gs))) f p = absurd (cc)
only_net-is (Some (both (e ∷ es) gs)) f p = absurd (cc)

or_time-agrees : (o : Option (Network Expression)) → AgreesAt o (or_time o)
or_time-agrees None = tt
or_time-agrees (Some n) = refl

or_zero-agrees : (o : Option ℕ) → AgreesAt o (or_zero o)
or_zero-agrees None = tt
or_zero-agrees (Some q) = refl

net_completed-agrees : (s : NetFound) → NetAgrees (net_completed s) s
net_completed-agrees s = record {
  f = or_time-agrees s.f;
  g = or_time-agrees s.g;
  h = or_time-agrees s.h;
  q = or_zero-agrees s.q;
  exprs = completed-agrees s.exprs;
}

no_nets-agree : (a : NetAssignment) → NetAgrees a no_nets_found
no_nets-agree a = record { f = tt; g = tt; h = tt; q = tt; exprs = nothing-agrees a.exprs }

some-sides : (left right : List NetSym) (n r : Network Expression) (o : Option NetFound) → net_fitted left [] (n ∷ []) no_nets_found ≡ o → net_built right o ≡ Some r → NetPatternSides left right n r
some-sides left right n r None q p = absurd (cc)
some-sides left right n r (Some s) q p = record {
  letters = net_completed s;
  left_is = ap only_net (net_written-fitted left (net_completed s) [] (n ∷ []) no_nets_found s q (net_completed-agrees s)).0;
  right_is = p;
}

-- what is built is what the patterns make
pub net_rewritten-some : (left right : List NetSym) (n r : Network Expression) → net_rewritten left right n ≡ Some r → NetPatternSides left right n r
net_rewritten-some left right n r p = some-sides left right n r (net_fitted left [] (n ∷ []) no_nets_found) refl p

-- where nothing is built, the patterns make nothing
pub net_rewritten-none : (left right : List NetSym) (n r : Network Expression) → net_rewritten left right n ≡ None → NetPatternSides left right n r → ⊥
net_rewritten-none left right n r p sides =
    let f = net_fits-written left sides.letters [] (n ∷ []) no_nets_found (only_net-is (net_written sides.letters left) n sides.left_is) (no_nets-agree sides.letters) in
    let e = net_filled-alike right (net_completed f.0) sides.letters (sym (ap (net_built right) f.1) ∙ p) in
    absurd (cc (e, sides.right_is))

-- what is built, or not, by the patterns
pub net_rewritten-answers : {E : Type 0} (left right : List NetSym) (n : Network Expression) (x : Result (Option (Net Expr)) E)
    → IfOk x (λ o. MatchOption o (net_rewritten left right n ≡ None) (λ r. net_rewritten left right n ≡ Some (tree_of r)))
    → IfOk x (λ o. MatchOption o ((r : Network Expression) → NetPatternSides left right n r → ⊥) (λ r. NetPatternSides left right n (tree_of r)))
net_rewritten-answers left right n (Ok None) h = λ r sides. net_rewritten-none left right n r h sides
net_rewritten-answers left right n (Ok (Some r)) h = net_rewritten-some left right n (tree_of r) h
net_rewritten-answers left right n (Err m) h = tt
