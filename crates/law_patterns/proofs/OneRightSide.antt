-- A left side determines its right side where each letter of the right side stands in it.
use Rattle.std.proofs.Common.{◌≡◌, List, [], ◌∷◌, ◌++◌, Option, Some, None, refl, sym, ap, ◌∙◌}
use Rattle.std.specs.List.{All, Contains}
use Rattle.std.proofs.lemmas.List.Elements.{All-nil, All-cons, All-head, All-tail, All-weaker, All-contains}
use Rattle.leaf_core.specs.Expression.{Expression, no_event_expr}
use Rattle.net_tree.specs.Network.{Network, delay, after, repeatedly}
use Rattle.law_patterns.specs.declared.sym.Sym.{Sym}
use Rattle.law_patterns.specs.declared.sym.Sym.TheVariants as S
use Rattle.law_patterns.specs.declared.net_sym.NetSym.{NetSym}
use Rattle.law_patterns.specs.declared.net_sym.NetSym.TheVariants as N
use Rattle.law_patterns.specs.Pattern.{Assignment, letter_choice, put_before, put_before_some, written, only, filled}
use Rattle.law_patterns.specs.NetPattern.{NetAssignment, net_chosen, Written, both, of_leaf, with_nets, net_put_before, net_put_before_some, net_written, only_net, net_filled}
use Rattle.law_patterns.specs.PatternLaws.{AnyLetter, of_expression, of_type, of_network, of_number, letters_in, letters_of, net_letters_in, net_letters_of, PatternOneRightSideLaw, NetOneRightSideLaw}
use Rattle.law_patterns.proofs.Sides.{only-is}
use Rattle.law_patterns.proofs.NetSides.{only_net-is}

-- what holds of each
abbrev Every : (AnyLetter → Type 0) → List AnyLetter → Type 0
Every P [] = Unit {0}
Every P (x ∷ xs) = P x × Every P xs

every-append : (P : AnyLetter → Type 0) (xs ys : List AnyLetter) → Every P xs → Every P ys → Every P (xs ++ ys)
every-append P [] ys h k = k
every-append P (x ∷ xs) ys h k = (h.0, every-append P xs ys h.1 k)

every-front : (P : AnyLetter → Type 0) (xs ys : List AnyLetter) → Every P (xs ++ ys) → Every P xs
every-front P [] ys h = tt
every-front P (x ∷ xs) ys h = (h.0, every-front P xs ys h.1)

every-back : (P : AnyLetter → Type 0) (xs ys : List AnyLetter) → Every P (xs ++ ys) → Every P ys
every-back P [] ys h = h
every-back P (x ∷ xs) ys h = every-back P xs ys h.1

all-every : (P : AnyLetter → Type 0) (xs : List AnyLetter) → All P xs → Every P xs
all-every P [] h = tt
all-every P (x ∷ xs) h = (All-head P x xs h, all-every P xs (All-tail P x xs h))

every-all : (P : AnyLetter → Type 0) (xs : List AnyLetter) → Every P xs → All P xs
every-all P [] h = All-nil P
every-all P (x ∷ xs) h = All-cons P x xs h.0 (every-all P xs h.1)

-- what holds of each of some letters holds of each letter that is among them
among : (P : AnyLetter → Type 0) (ys xs : List AnyLetter) → All (Contains ys) xs → Every P ys → Every P xs
among P ys xs c h = all-every P xs (All-weaker (Contains ys) P (λ x i. All-contains P ys x (every-all P ys h) i) xs c)

some-same : {A : Type 0} (x y : A) → Some x ≡ Some y → x ≡ y
some-same x y p = cc

module _ (a b : Assignment) where
  -- both choices give the letter one tree
  abbrev pub Same : AnyLetter → Type 0
  Same (of_expression k) = letter_choice a k ≡ letter_choice b k
  Same of_type = a.t ≡ b.t
  Same _ = Unit {0}

  -- what two choices have in common where a symbol writes the same
  abbrev pub PutSame : Sym → List Expression → List Expression → Type 0
  PutSame y xs ys = (xs ≡ ys) × Every Same (letters_in y)

  pub put-same : (y : Sym) (xs ys es : List Expression) → put_before a y xs ≡ Some es → put_before b y ys ≡ Some es → PutSame y xs ys
  put-same (S.Letter k) xs ys es p q = (cc, ((cc), tt))
  put-same S.NoEvent xs ys es p q = (cc, ((cc), tt))
  put-same S.Input xs ys es p q = (cc, tt)
  put-same S.Unit xs ys es p q = (cc, tt)
  put-same (S.Truth t) xs ys es p q = (cc, tt)
  put-same (S.Number n) xs ys es p q = (cc, tt)
  put-same S.Fst (x ∷ xs) (y ∷ ys) es p q = (cc, tt)
  put-same S.Snd (x ∷ xs) (y ∷ ys) es p q = (cc, tt)
  put-same S.Event (x ∷ xs) (y ∷ ys) es p q = (cc, tt)
  put-same S.Pair (x ∷ x' ∷ xs) (y ∷ y' ∷ ys) es p q = (cc, tt)
  put-same S.Then (x ∷ x' ∷ xs) (y ∷ y' ∷ ys) es p q = (cc, tt)
  put-same S.Neg (x ∷ xs) (y ∷ ys) es p q = (cc, tt)
  put-same S.Not (x ∷ xs) (y ∷ ys) es p q = (cc, tt)
  put-same S.Add (x ∷ x' ∷ xs) (y ∷ y' ∷ ys) es p q = (cc, tt)
  put-same S.Sub (x ∷ x' ∷ xs) (y ∷ y' ∷ ys) es p q = (cc, tt)
  put-same S.Mul (x ∷ x' ∷ xs) (y ∷ y' ∷ ys) es p q = (cc, tt)
  put-same S.Less (x ∷ x' ∷ xs) (y ∷ y' ∷ ys) es p q = (cc, tt)
  put-same S.And (x ∷ x' ∷ xs) (y ∷ y' ∷ ys) es p q = (cc, tt)
  put-same S.Or (x ∷ x' ∷ xs) (y ∷ y' ∷ ys) es p q = (cc, tt)
  put-same S.If (x ∷ x' ∷ x'' ∷ xs) (y ∷ y' ∷ y'' ∷ ys) es p q = (cc, tt)
  put-same S.On (x ∷ x' ∷ x'' ∷ xs) (y ∷ y' ∷ y'' ∷ ys) es p q = (cc, tt)
  put-same _ _ _ es p q = absurd (cc)

  some-put-same : (y : Sym) (ss : List Sym) (es : List Expression) (v w : Option (List Expression)) → written a ss ≡ v → written b ss ≡ w
      → ((xs : List Expression) → written a ss ≡ Some xs → written b ss ≡ Some xs → Every Same (letters_of ss))
      → put_before_some a y v ≡ Some es → put_before_some b y w ≡ Some es → Every Same (letters_of (y ∷ ss))
  some-put-same y ss es (Some xs) (Some ys) v w ih p q =
      let h = put-same y xs ys es p q in
      every-append Same (letters_in y) (letters_of ss) h.1 (ih ys (v ∙ ap Some h.0) w)
  some-put-same y ss es None _ v w ih p q = absurd (cc)
  some-put-same y ss es (Some xs) None v w ih p q = absurd (cc)

  written-same : (ss : List Sym) (es : List Expression) → written a ss ≡ Some es → written b ss ≡ Some es → Every Same (letters_of ss)
  written-same [] es p q = tt
  written-same (y ∷ ss) es p q =
      some-put-same y ss es (written a ss) (written b ss) refl refl (λ xs v w. written-same ss xs v w) p q

  -- the letters of a pattern have one tree each where both choices fill it to the same
  pub filled-same : (ss : List Sym) (e : Expression) → filled a ss ≡ Some e → filled b ss ≡ Some e → Every Same (letters_of ss)
  filled-same ss e p q = written-same ss (e ∷ []) (only-is (written a ss) e p) (only-is (written b ss) e q)

  pub put-equal : (y : Sym) (w : Option (List Expression)) → Every Same (letters_in y) → put_before_some a y w ≡ put_before_some b y w
  put-equal (S.Letter k) (Some es) h = ap (λ e. Some (e ∷ es)) h.0
  put-equal S.NoEvent (Some es) h = ap (λ t. Some (no_event_expr t ∷ es)) h.0
  put-equal _ None h = refl
  put-equal _ (Some es) h = refl

  written-equal : (ss : List Sym) → Every Same (letters_of ss) → written a ss ≡ written b ss
  written-equal [] h = refl
  written-equal (y ∷ ss) h =
      ap (put_before_some a y) (written-equal ss (every-back Same (letters_in y) (letters_of ss) h))
      ∙ put-equal y (written b ss) (every-front Same (letters_in y) (letters_of ss) h)

  -- both choices fill a pattern to the same where they give its letters the same trees
  pub filled-equal : (ss : List Sym) → Every Same (letters_of ss) → filled a ss ≡ filled b ss
  filled-equal ss h = ap only (written-equal ss h)

pub one_right_side : PatternOneRightSideLaw
one_right_side left right l r s c x y =
    let h = filled-same x.letters y.letters left l x.left_is y.left_is in
    let e = filled-equal x.letters y.letters right (among (Same x.letters y.letters) (letters_of left) (letters_of right) c h) in
    some-same r s (sym x.right_is ∙ e ∙ y.right_is)

module _ (a b : NetAssignment) where
  -- both choices give the letter one tree
  abbrev pub NetSame : AnyLetter → Type 0
  NetSame (of_expression k) = letter_choice a.exprs k ≡ letter_choice b.exprs k
  NetSame of_type = a.exprs.t ≡ b.exprs.t
  NetSame (of_network k) = net_chosen a k ≡ net_chosen b k
  NetSame of_number = a.q ≡ b.q

  -- what two choices have in common where a symbol writes the same
  abbrev NetPutSame : NetSym → Written → Written → Type 0
  NetPutSame y v w = (v ≡ w) × Every NetSame (net_letters_in y)

  of-expr : (y : Sym) → Every (Same a.exprs b.exprs) (letters_in y) → Every NetSame (letters_in y)
  of-expr (S.Letter k) h = h
  of-expr S.NoEvent h = h
  of-expr _ h = tt

  to-expr : (y : Sym) → Every NetSame (letters_in y) → Every (Same a.exprs b.exprs) (letters_in y)
  to-expr (S.Letter k) h = h
  to-expr S.NoEvent h = h
  to-expr _ h = tt

  expr-same : (y : Sym) (xs ys : List Expression) (fs gs : List (Network Expression)) (u : Written) (v w : Option (List Expression)) → put_before a.exprs y xs ≡ v → put_before b.exprs y ys ≡ w
      → with_nets v fs ≡ Some u → with_nets w gs ≡ Some u → NetPutSame (N.Leaf y) (both xs fs) (both ys gs)
  expr-same y xs ys fs gs u (Some ds) (Some es) v w p q =
      let e : Some (both ds fs) ≡ Some (both es gs) = p ∙ sym q in
      let exprs : ds ≡ es = cc in
      let nets : fs ≡ gs = cc in
      let h = put-same a.exprs b.exprs y xs ys es (v ∙ ap (λ l. Some l) exprs) w in
      (λ j. both (h.0 j) (nets j), of-expr y h.1)
  expr-same y xs ys fs gs u None w v k p q = absurd (cc)
  expr-same y xs ys fs gs u (Some ds) None v k p q = absurd (cc)

  net_put-same : (y : NetSym) (v w u : Written) → net_put_before a y v ≡ Some u → net_put_before b y w ≡ Some u → NetPutSame y v w
  net_put-same (N.Letter k) (both xs fs) (both ys gs) u p q =
      let e : Some (both xs (net_chosen a k ∷ fs)) ≡ Some (both ys (net_chosen b k ∷ gs)) = p ∙ sym q in
      (cc, ((cc), tt))
  net_put-same (N.Leaf s) (both xs fs) (both ys gs) u p q =
      expr-same s xs ys fs gs u (put_before a.exprs s xs) (put_before b.exprs s ys) refl refl p q
  net_put-same N.Arr (both (x ∷ xs) fs) (both (y ∷ ys) gs) u p q = (cc, tt)
  net_put-same N.IPre (both (x ∷ xs) fs) (both (y ∷ ys) gs) u p q = (cc, tt)
  net_put-same N.Hold (both (x ∷ xs) fs) (both (y ∷ ys) gs) u p q = (cc, tt)
  net_put-same N.Delay (both (x ∷ xs) fs) (both (y ∷ ys) gs) u p q = (cc, ((cc), tt))
  net_put-same N.After (both (x ∷ xs) fs) (both (y ∷ ys) gs) u p q = (cc, ((cc), tt))
  net_put-same N.Repeatedly (both (x ∷ xs) fs) (both (y ∷ ys) gs) u p q = (cc, ((cc), tt))
  net_put-same N.Now (both (x ∷ xs) fs) (both (y ∷ ys) gs) u p q = (cc, tt)
  net_put-same N.Time (both xs fs) (both ys gs) u p q = (cc, tt)
  net_put-same N.Integral (both xs fs) (both ys gs) u p q = (cc, tt)
  net_put-same N.AccumBy (both (x ∷ x' ∷ xs) fs) (both (y ∷ y' ∷ ys) gs) u p q = (cc, tt)
  net_put-same N.LoopPre (both (x ∷ xs) (f ∷ fs)) (both (y ∷ ys) (g ∷ gs)) u p q = (cc, tt)
  net_put-same N.InitialOut (both (x ∷ xs) (f ∷ fs)) (both (y ∷ ys) (g ∷ gs)) u p q = (cc, tt)
  net_put-same N.InitialIn (both (x ∷ xs) (f ∷ fs)) (both (y ∷ ys) (g ∷ gs)) u p q = (cc, tt)
  net_put-same N.First (both xs (f ∷ fs)) (both ys (g ∷ gs)) u p q = (cc, tt)
  net_put-same N.Seq (both xs (f ∷ f' ∷ fs)) (both ys (g ∷ g' ∷ gs)) u p q = (cc, tt)
  net_put-same N.Switch (both xs (f ∷ f' ∷ fs)) (both ys (g ∷ g' ∷ gs)) u p q = (cc, tt)
  net_put-same N.DSwitch (both xs (f ∷ f' ∷ fs)) (both ys (g ∷ g' ∷ gs)) u p q = (cc, tt)
  net_put-same N.RSwitch (both xs (f ∷ f' ∷ fs)) (both ys (g ∷ g' ∷ gs)) u p q = (cc, tt)
  net_put-same N.DrSwitch (both xs (f ∷ f' ∷ fs)) (both ys (g ∷ g' ∷ gs)) u p q = (cc, tt)
  net_put-same N.KSwitch (both xs (f ∷ f' ∷ f'' ∷ fs)) (both ys (g ∷ g' ∷ g'' ∷ gs)) u p q = (cc, tt)
  net_put-same _ _ _ u p q = absurd (cc)

  net_some-put-same : (y : NetSym) (ss : List NetSym) (u : Written) (v w : Option Written) → net_written a ss ≡ v → net_written b ss ≡ w
      → ((x : Written) → net_written a ss ≡ Some x → net_written b ss ≡ Some x → Every NetSame (net_letters_of ss))
      → net_put_before_some a y v ≡ Some u → net_put_before_some b y w ≡ Some u → Every NetSame (net_letters_of (y ∷ ss))
  net_some-put-same y ss u (Some x) (Some z) v w ih p q =
      let h = net_put-same y x z u p q in
      every-append NetSame (net_letters_in y) (net_letters_of ss) h.1 (ih z (v ∙ ap Some h.0) w)
  net_some-put-same y ss u None _ v w ih p q = absurd (cc)
  net_some-put-same y ss u (Some x) None v w ih p q = absurd (cc)

  net_written-same : (ss : List NetSym) (u : Written) → net_written a ss ≡ Some u → net_written b ss ≡ Some u → Every NetSame (net_letters_of ss)
  net_written-same [] u p q = tt
  net_written-same (y ∷ ss) u p q =
      net_some-put-same y ss u (net_written a ss) (net_written b ss) refl refl (λ x v w. net_written-same ss x v w) p q

  net_filled-same : (ss : List NetSym) (f : Network Expression) → net_filled a ss ≡ Some f → net_filled b ss ≡ Some f → Every NetSame (net_letters_of ss)
  net_filled-same ss f p q = net_written-same ss (both [] (f ∷ [])) (only_net-is (net_written a ss) f p) (only_net-is (net_written b ss) f q)

  net_put-equal : (y : NetSym) (w : Option Written) → Every NetSame (net_letters_in y) → net_put_before_some a y w ≡ net_put_before_some b y w
  net_put-equal (N.Letter k) (Some (both es fs)) h = ap (λ f. Some (both es (f ∷ fs))) h.0
  net_put-equal (N.Leaf s) (Some (both es fs)) h = ap (λ v. with_nets v fs) (put-equal a.exprs b.exprs s (Some es) (to-expr s h))
  net_put-equal N.Delay (Some (both es fs)) h = ap (λ q. of_leaf (delay q) es fs) h.0
  net_put-equal N.After (Some (both es fs)) h = ap (λ q. of_leaf (after q) es fs) h.0
  net_put-equal N.Repeatedly (Some (both es fs)) h = ap (λ q. of_leaf (repeatedly q) es fs) h.0
  net_put-equal _ None h = refl
  net_put-equal _ (Some (both es fs)) h = refl

  net_written-equal : (ss : List NetSym) → Every NetSame (net_letters_of ss) → net_written a ss ≡ net_written b ss
  net_written-equal [] h = refl
  net_written-equal (y ∷ ss) h =
      ap (net_put_before_some a y) (net_written-equal ss (every-back NetSame (net_letters_in y) (net_letters_of ss) h))
      ∙ net_put-equal y (net_written b ss) (every-front NetSame (net_letters_in y) (net_letters_of ss) h)

pub net_one_right_side : NetOneRightSideLaw
net_one_right_side left right l r s c x y =
    let h = net_filled-same x.letters y.letters left l x.left_is y.left_is in
    let e = ap only_net (net_written-equal x.letters y.letters right (among (NetSame x.letters y.letters) (net_letters_of left) (net_letters_of right) c h)) in
    some-same r s (sym x.right_is ∙ e ∙ y.right_is)
