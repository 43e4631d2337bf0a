-- The reader of steps answers exactly the steps, and why tokens are none.
use Rattle.std.proofs.Common.{◌≡◌, ◌≢◌, ℕ, suc, Bool, true, false, if◌then◌else◌, List, [], ◌∷◌, refl, sym, ap, ◌∙◌, subst, Option, Some, Result, Ok, Err}
use Rattle.std.specs.Prelude.{codes, bytes_eq}
use Rattle.std.proofs.lemmas.Slice.Eq.{bytes_eq-Decides}
use Rattle.leaf_core.specs.Expression.{Expression}
use Rattle.leaf_expr.specs.Token.{opening, closing, word, PlacedToken}
use Rattle.leaf_expr.specs.Sexpr.{Sexpr, Spells, atom_spells, form_spells}
use Rattle.leaf_expr.specs.Language.{no_place, place}
use Rattle.leaf_expr.specs.ReadText.{begins_closing}
use Rattle.leaf_expr.specs.ReadLaws.{Stops}
use Rattle.leaf_expr.specs.TreeReader.{Read, read, read_end, read_parts}
use Rattle.leaf_expr.proofs.ReadFound.{found, bind_ok, ok_is}
use Rattle.leaf_expr.proofs.ReadOnly.{only}
use Rattle.leaf_expr.proofs.ReadFaults.{stops, err_is}
use Rattle.leaf_expr.proofs.OneFault.{refuses}
use Rattle.net_tree.specs.Place.{Tree}
use Rattle.net_tree.specs.LawStep.{Step}
use Rattle.net_tree.specs.declared.law_step.Law.{Law}
use Rattle.net_tree.specs.declared.law_step.Direction.{Direction}
use Rattle.net_text.specs.Grammar.{Version, networks, NetTree}
use Rattle.net_text.specs.StepGrammar.{step_parts, StepSort, StepTree, law_sort, direction_sort, position_sort}
use Rattle.net_text.specs.Certificate.{given_sort, tree_of_given, ReadAndLeft, read_name, read_opening, read_given, read_step}
use Rattle.net_text.specs.CertificateLaws.{step_tokens, IsPart, IsTree, IsStepFront, IsGiven, no_tree, one_tree, IsStep, Unlike, missing, other, NoStep, unopened, unnamed, no_law, no_direction, no_position, no_end, unclosed}
use Rattle.net_text.proofs.NetProper.{networks_proper}
use Rattle.net_text.proofs.StepProper.{step_parts_proper}
use Rattle.net_text.specs.declared.certificate_reader.TheConstants.{STEP_ROOM}
use Rattle.sample_core.specs.Answer.{◌>>=◌}
use Rattle.leaf_expr.specs.declared.text_fault.ExprTextFault.{ExprTextFault}
use Rattle.leaf_expr.specs.declared.text_fault.ExprTextFault.TheVariants as E

-- what follows what was read, and what is refused
pub bind_on : {A B : Type 0} (r : Result A ExprTextFault) (g : A → Result B ExprTextFault) (x : A) (y : Result B ExprTextFault) → r ≡ Ok x → g x ≡ y
    → (r >>= g) ≡ y
bind_on r g x y p q = ap (λ s. s >>= g) p ∙ q

pub bind_gone : {A B : Type 0} (r : Result A ExprTextFault) (g : A → Result B ExprTextFault) (e : ExprTextFault) → r ≡ Err e → (r >>= g) ≡ Err e
bind_gone r g e p = ap (λ s. s >>= g) p

-- a refusal is one of what was read, or one of what follows
pub bind_err : {A B C : Type 0} (r : Result A ExprTextFault) (g : A → Result B ExprTextFault) (e : ExprTextFault) → (r >>= g) ≡ Err e → (r ≡ Err e → C)
    → ((x : A) → r ≡ Ok x → g x ≡ Err e → C) → C
bind_err (Ok x) g e p h k = k x refl p
bind_err (Err f) g e p h k = h (ap Err (err_is p))

-- inside a step
module _ (size : ℕ) (v : Version) where
  name_found : (ts us : List PlacedToken) → read_name size v ts ≡ Ok us → (b : ℕ) × (ts ≡ (b, word (codes "step")) ∷ us)
  name_found [] us e = absurd (cc)
  name_found ((n, opening) ∷ ts) us e = absurd (cc)
  name_found ((n, closing) ∷ ts) us e = absurd (cc)
  name_found ((n, word w) ∷ ts) us e = go (bytes_eq w (codes "step")) refl e
    where
      go : (b : Bool) → bytes_eq w (codes "step") ≡ b → (if b then Ok ts else Err (E.Syntax n)) ≡ Ok us
          → (m : ℕ) × ((n, word w) ∷ ts ≡ (m, word (codes "step")) ∷ us)
      go true p q = (n, let i : w ≡ codes "step" = (bytes_eq-Decides w (codes "step")).0 p in let j : ts ≡ us = ok_is q in λ k. (n, word (i k)) ∷ j k)
      go false p q = absurd (cc)

  opening_found : (ts us : List PlacedToken) → read_opening size v ts ≡ Ok us → (a : ℕ) × (b : ℕ) × (ts ≡ step_tokens a b us)
  opening_found [] us e = absurd (cc)
  opening_found ((n, closing) ∷ ts) us e = absurd (cc)
  opening_found ((n, word w) ∷ ts) us e = absurd (cc)
  opening_found ((n, opening) ∷ ts) us e = let i : (b : ℕ) × (ts ≡ (b, word (codes "step")) ∷ us) = name_found ts us e in
      (n, i.0, ap (λ vs. (n, opening) ∷ vs) i.1)

  opening_read : (a b : ℕ) (ts us : List PlacedToken) → ts ≡ step_tokens a b us → read_opening size v ts ≡ Ok us
  opening_read a b ts us e = ap (read_opening size v) e

  name_refused : (ts : List PlacedToken) (e : ExprTextFault) → read_name size v ts ≡ Err e → Unlike size (word (codes "step")) ts e
  name_refused [] e p = missing refl (sym (err_is p))
  name_refused ((n, opening) ∷ ts) e p = other (n, opening) ts refl (λ q. cc) (sym (err_is p))
  name_refused ((n, closing) ∷ ts) e p = other (n, closing) ts refl (λ q. cc) (sym (err_is p))
  name_refused ((n, word w) ∷ ts) e p = go (bytes_eq w (codes "step")) refl p
    where
      go : (b : Bool) → bytes_eq w (codes "step") ≡ b → (if b then Ok ts else Err (E.Syntax n)) ≡ Err e
          → Unlike size (word (codes "step")) ((n, word w) ∷ ts) e
      go true q r = absurd (cc)
      go false q r = other (n, word w) ts refl
          (λ s. let i : w ≡ codes "step" = cc in let j : bytes_eq w (codes "step") ≡ true = (bytes_eq-Decides w (codes "step")).1 i in absurd (cc))
          (sym (err_is r))

  opening_refused : (ts : List PlacedToken) (e : ExprTextFault) → read_opening size v ts ≡ Err e → NoStep v size ts e
  opening_refused [] e p = unopened (missing refl (sym (err_is p)))
  opening_refused ((n, closing) ∷ ts) e p = unopened (other (n, closing) ts refl (λ q. cc) (sym (err_is p)))
  opening_refused ((n, word w) ∷ ts) e p = unopened (other (n, word w) ts refl (λ q. cc) (sym (err_is p)))
  opening_refused ((n, opening) ∷ ts) e p = unnamed n ts refl (name_refused ts e p)

  unlike_name : (x : PlacedToken) (us : List PlacedToken) → x.1 ≢ word (codes "step") → read_name size v (x ∷ us) ≡ Err (E.Syntax x.0)
  unlike_name (n, opening) us d = refl
  unlike_name (n, closing) us d = refl
  unlike_name (n, word w) us d = go (bytes_eq w (codes "step")) refl
    where
      go : (b : Bool) → bytes_eq w (codes "step") ≡ b → (if b then Ok us else Err (E.Syntax n)) ≡ Err (E.Syntax n)
      go true q = absurd (d (ap word ((bytes_eq-Decides w (codes "step")).0 q)))
      go false q = refl

  refuses_name : (ts : List PlacedToken) (e : ExprTextFault) → Unlike size (word (codes "step")) ts e → read_name size v ts ≡ Err e
  refuses_name ts e (missing p q) = ap (read_name size v) p ∙ ap Err (sym q)
  refuses_name ts e (other x us p d q) = ap (read_name size v) p ∙ unlike_name x us d ∙ ap Err (sym q)

  unlike_opening : (x : PlacedToken) (us : List PlacedToken) → x.1 ≢ opening → read_opening size v (x ∷ us) ≡ Err (E.Syntax x.0)
  unlike_opening (n, opening) us d = absurd (d refl)
  unlike_opening (n, closing) us d = refl
  unlike_opening (n, word w) us d = refl

  refuses_opening : (ts : List PlacedToken) (e : ExprTextFault) → Unlike size opening ts e → read_opening size v ts ≡ Err e
  refuses_opening ts e (missing p q) = ap (read_opening size v) p ∙ ap Err (sym q)
  refuses_opening ts e (other x us p d q) = ap (read_opening size v) p ∙ unlike_opening x us d ∙ ap Err (sym q)

  -- the end of a step
  end_found : (ts : List PlacedToken) (y : ℕ × List PlacedToken) → read_end (networks v) size STEP_ROOM ts ≡ Ok y → (m : ℕ) × (ts ≡ (m, closing) ∷ y.1)
  end_found [] y e = absurd (cc)
  end_found ((n, opening) ∷ ts) y e = absurd (cc)
  end_found ((n, closing) ∷ ts) y e = (n, ap (λ (z : ℕ × List PlacedToken). (n, closing) ∷ z.1) (ok_is e))
  end_found ((n, word w) ∷ ts) y e = absurd (cc)

  end_refused : (ts : List PlacedToken) (e : ExprTextFault) → read_end (networks v) size STEP_ROOM ts ≡ Err e → Unlike size closing ts e
  end_refused [] e p = missing refl (sym (err_is p))
  end_refused ((n, opening) ∷ ts) e p = other (n, opening) ts refl (λ q. cc) (sym (err_is p))
  end_refused ((n, closing) ∷ ts) e p = absurd (cc)
  end_refused ((n, word w) ∷ ts) e p = other (n, word w) ts refl (λ q. cc) (sym (err_is p))

  unlike_end : (x : PlacedToken) (us : List PlacedToken) → x.1 ≢ closing → read_end (networks v) size STEP_ROOM (x ∷ us) ≡ Err (E.Syntax x.0)
  unlike_end (n, opening) us d = refl
  unlike_end (n, closing) us d = absurd (d refl)
  unlike_end (n, word w) us d = refl

  refuses_end : (ts : List PlacedToken) (e : ExprTextFault) → Unlike size closing ts e → read_end (networks v) size STEP_ROOM ts ≡ Err e
  refuses_end ts e (missing p q) = ap (read_end (networks v) size STEP_ROOM) p ∙ ap Err (sym q)
  refuses_end ts e (other x us p d q) = ap (read_end (networks v) size STEP_ROOM) p ∙ unlike_end x us d ∙ ap Err (sym q)

  module _ (law : Law) where
    -- a tree of the law's kind, and the end
    abbrev pub tree_and_end : List PlacedToken → Read (Option (Tree Expression))
    tree_and_end ts = read_parts (networks v) size (read (networks v) size STEP_ROOM) STEP_ROOM (place (given_sort law) no_place) (λ t. Some (tree_of_given law t)) ts

    pub given_on : (ts : List PlacedToken) → begins_closing ts ≡ false → read_given size v law ts ≡ tree_and_end ts
    given_on [] b = refl
    given_on ((n, opening) ∷ ts) b = refl
    given_on ((n, closing) ∷ ts) b = absurd (cc)
    given_on ((n, word w) ∷ ts) b = refl

    -- no tree begins with a closing parenthesis
    no_closing : (p : Sexpr) (ts : List PlacedToken) (n : ℕ) (rest : List PlacedToken) → Spells p ts n rest → begins_closing ts ≡ false
    no_closing p ts n rest atom_spells = refl
    no_closing p ts n rest (form_spells h) = refl

    tree_read : (t : NetTree (given_sort law)) (n : ℕ) (ts vs : List PlacedToken) → IsTree v law t ts n vs
        → read (networks v) size STEP_ROOM (given_sort law) ts ≡ Ok (t, n, vs)
    tree_read t n ts vs b = only (networks v) (networks_proper v) size STEP_ROOM (given_sort law) b.part ts n vs t b.spells b.means b.within

    closed : (t : NetTree (given_sort law)) (vs : List PlacedToken) (g : Option (Tree Expression) × ℕ × List PlacedToken)
        → (read_end (networks v) size STEP_ROOM vs >>= (λ y. Ok (Some (tree_of_given law t), y.0, y.1))) ≡ Ok g
        → (m : ℕ) × (vs ≡ (m, closing) ∷ g.2) × (g.0 ≡ Some (tree_of_given law t))
    closed t vs g e =
        let i : (y : ℕ × List PlacedToken) × (read_end (networks v) size STEP_ROOM vs ≡ Ok y)
        × (◌≡◌ {A = Read (Option (Tree Expression))} (Ok (Some (tree_of_given law t), y.0, y.1)) (Ok g)) =
        bind_ok (read_end (networks v) size STEP_ROOM vs) _ g e in
        let j : (m : ℕ) × (vs ≡ (m, closing) ∷ i.0.1) = end_found vs i.0 i.1 in
        let k : (Some (tree_of_given law t), i.0.0, i.0.1) ≡ g = ok_is i.2 in
        (j.0, j.1 ∙ ap (λ z. (j.0, closing) ∷ z.2) k, sym (ap (λ z. z.0) k))

    tree_found : (ts : List PlacedToken) (g : Option (Tree Expression) × ℕ × List PlacedToken) → tree_and_end ts ≡ Ok g → IsGiven v law g.0 ts g.2
    tree_found ts g e =
        let i : (x : NetTree (given_sort law) × ℕ × List PlacedToken) × (read (networks v) size STEP_ROOM (given_sort law) ts ≡ Ok x)
        × ((read_end (networks v) size STEP_ROOM x.2 >>= (λ y. Ok (Some (tree_of_given law x.0), y.0, y.1))) ≡ Ok g) =
        bind_ok (read (networks v) size STEP_ROOM (given_sort law) ts) _ g e in
        let j = closed i.0.0 i.0.2 g i.2 in
        subst (λ o. IsGiven v law o ts g.2) (sym j.2)
        (one_tree i.0.0 i.0.1 j.0 ts g.2
        (subst (λ vs. IsTree v law i.0.0 ts i.0.1 vs) j.1 (found (networks v) size STEP_ROOM (given_sort law) ts i.0 i.1)))

    given_found : (ts : List PlacedToken) (g : Option (Tree Expression) × ℕ × List PlacedToken) → read_given size v law ts ≡ Ok g → IsGiven v law g.0 ts g.2
    given_found [] g e = tree_found [] g e
    given_found ((n, closing) ∷ ts) g e =
        subst (λ (z : Option (Tree Expression) × ℕ × List PlacedToken). IsGiven v law z.0 ((n, closing) ∷ ts) z.2) (ok_is e) (no_tree n ts)
    given_found ((n, opening) ∷ ts) g e = tree_found ((n, opening) ∷ ts) g e
    given_found ((n, word w) ∷ ts) g e = tree_found ((n, word w) ∷ ts) g e

    given_read : (o : Option (Tree Expression)) (ts rest : List PlacedToken) → IsGiven v law o ts rest → (n : ℕ) × (read_given size v law ts ≡ Ok (o, n, rest))
    given_read o ts rest (no_tree n us) = (suc n, refl)
    given_read o ts rest (one_tree t n m us vs b) = (
      suc m,
      given_on ts (no_closing b.part ts n _ b.spells)
          ∙ bind_on (read (networks v) size STEP_ROOM (given_sort law) ts) _ (t, n, (m, closing) ∷ rest) _ (tree_read t n ts _ b) refl,
    )

  -- no tree stands behind a step's position, or no end behind the tree
  tree_refused : (law : Law) (direction : Direction) (at : List ℕ) (ts us : List PlacedToken) (e : ExprTextFault) → IsStepFront v law direction at ts us
      → begins_closing us ≡ false → tree_and_end law us ≡ Err e → NoStep v size ts e
  tree_refused law direction at ts us e f b p =
      bind_err (read (networks v) size STEP_ROOM (given_sort law) us) _ e p
      (λ q. no_end law direction at us f b (stops (networks v) (networks_proper v) size STEP_ROOM (given_sort law) us e q))
      (λ x q r. bind_err (read_end (networks v) size STEP_ROOM x.2) _ e r
      (λ h. unclosed law direction at us f x.0 x.1 x.2 (found (networks v) size STEP_ROOM (given_sort law) us x q) (end_refused x.2 e h)) (λ y h k. absurd (cc)))

  given_refused : (law : Law) (direction : Direction) (at : List ℕ) (ts us : List PlacedToken) (e : ExprTextFault) → IsStepFront v law direction at ts us
      → read_given size v law us ≡ Err e → NoStep v size ts e
  given_refused law direction at ts [] e f p = tree_refused law direction at ts [] e f refl p
  given_refused law direction at ts ((n, closing) ∷ us) e f p = absurd (cc)
  given_refused law direction at ts ((n, opening) ∷ us) e f p = tree_refused law direction at ts ((n, opening) ∷ us) e f refl p
  given_refused law direction at ts ((n, word w) ∷ us) e f p = tree_refused law direction at ts ((n, word w) ∷ us) e f refl p

  part_read : (s : StepSort) (t : StepTree s) (n : ℕ) (ts vs : List PlacedToken) → IsPart v s t ts n vs → read (step_parts v) size STEP_ROOM s ts ≡ Ok (t, n, vs)
  part_read s t n ts vs b = only (step_parts v) (step_parts_proper v) size STEP_ROOM s b.part ts n vs t b.spells b.means b.within

  part_found : (s : StepSort) (ts : List PlacedToken) (x : StepTree s × ℕ × List PlacedToken) → read (step_parts v) size STEP_ROOM s ts ≡ Ok x
      → IsPart v s x.0 ts x.1 x.2
  part_found s ts x e = found (step_parts v) size STEP_ROOM s ts x e

  part_refused : (s : StepSort) (ts : List PlacedToken) (e : ExprTextFault) → read (step_parts v) size STEP_ROOM s ts ≡ Err e → Stops (step_parts v) size STEP_ROOM s ts e
  part_refused s ts e p = stops (step_parts v) (step_parts_proper v) size STEP_ROOM s ts e p

  refuses_part : (s : StepSort) (ts : List PlacedToken) (e : ExprTextFault) → Stops (step_parts v) size STEP_ROOM s ts e → read (step_parts v) size STEP_ROOM s ts ≡ Err e
  refuses_part s ts e p = refuses (step_parts v) (step_parts_proper v) size STEP_ROOM s ts e p

  -- the step of what was read of it
  abbrev made : Law → Direction → List ℕ → Option (Tree Expression) × ℕ × List PlacedToken → ReadAndLeft Step
  made law direction at g = Ok (record { law = law; direction = direction; position = at; given = g.0 }, g.2)

  abbrev behind_position : Law → Direction → List ℕ × ℕ × List PlacedToken → ReadAndLeft Step
  behind_position law direction p = read_given size v law p.2 >>= made law direction p.0

  abbrev behind_direction : Law → Direction × ℕ × List PlacedToken → ReadAndLeft Step
  behind_direction law d = read (step_parts v) size STEP_ROOM position_sort d.2 >>= behind_position law d.0

  abbrev behind_law : Law × ℕ × List PlacedToken → ReadAndLeft Step
  behind_law l = read (step_parts v) size STEP_ROOM direction_sort l.2 >>= behind_direction l.0

  abbrev behind_opening : List PlacedToken → ReadAndLeft Step
  behind_opening us = read (step_parts v) size STEP_ROOM law_sort us >>= behind_law

  -- behind its front a step is what its end makes it
  front_read : {y : ReadAndLeft Step} (law : Law) (direction : Direction) (at : List ℕ) (ts rest : List PlacedToken) → IsStepFront v law direction at ts rest
      → (read_given size v law rest >>= made law direction at) ≡ y → read_step size v ts ≡ y
  front_read {y = y} law direction at ts rest f e =
      bind_on (read_opening size v ts) behind_opening f.behind_name y (opening_read f.opened f.named ts f.behind_name f.starts)
      (bind_on (read (step_parts v) size STEP_ROOM law_sort f.behind_name) behind_law (law, f.law_end, f.behind_law) y
      (part_read law_sort law f.law_end f.behind_name f.behind_law f.is_law)
      (bind_on (read (step_parts v) size STEP_ROOM direction_sort f.behind_law) (behind_direction law) (direction, f.direction_end, f.behind_direction) y
      (part_read direction_sort direction f.direction_end f.behind_law f.behind_direction f.is_direction)
      (bind_on (read (step_parts v) size STEP_ROOM position_sort f.behind_direction) (behind_position law direction) (at, f.position_end, rest) y
      (part_read position_sort at f.position_end f.behind_direction rest f.is_position) e)))

  pub step_read : (s : Step) (ts rest : List PlacedToken) → IsStep v s ts rest → read_step size v ts ≡ Ok (s, rest)
  step_read s ts rest h =
      let g : (n : ℕ) × (read_given size v s.law h.behind ≡ Ok (s.given, n, rest)) = given_read s.law s.given h.behind rest h.ends in
      front_read s.law s.direction s.position ts h.behind h.front
      (bind_on (read_given size v s.law h.behind) (made s.law s.direction s.position) (s.given, g.0, rest) (Ok (s, rest)) g.1 refl)

  -- what was made of a step's parts is that step
  made_is : (law : Law) (direction : Direction) (at : List ℕ) (g : Option (Tree Expression) × ℕ × List PlacedToken) (ts : List PlacedToken)
      (x : Step × List PlacedToken) → made law direction at g ≡ Ok x
      → IsStep v (record { law = law; direction = direction; position = at; given = g.0 }) ts g.2 → IsStep v x.0 ts x.1
  made_is law direction at g ts x e h = subst (λ (z : Step × List PlacedToken). IsStep v z.0 ts z.1) (ok_is e) h

  pub step_found : (ts : List PlacedToken) (x : Step × List PlacedToken) → read_step size v ts ≡ Ok x → IsStep v x.0 ts x.1
  step_found ts x e =
      let o : (us : List PlacedToken) × (read_opening size v ts ≡ Ok us) × (behind_opening us ≡ Ok x) = bind_ok (read_opening size v ts) behind_opening x e in
      let i : (a : ℕ) × (b : ℕ) × (ts ≡ step_tokens a b o.0) = opening_found ts o.0 o.1 in
      let l : (l : Law × ℕ × List PlacedToken) × (read (step_parts v) size STEP_ROOM law_sort o.0 ≡ Ok l) × (behind_law l ≡ Ok x) =
      bind_ok (read (step_parts v) size STEP_ROOM law_sort o.0) behind_law x o.2 in
      let d : (d : Direction × ℕ × List PlacedToken) × (read (step_parts v) size STEP_ROOM direction_sort l.0.2 ≡ Ok d) × (behind_direction l.0.0 d ≡ Ok x) =
      bind_ok (read (step_parts v) size STEP_ROOM direction_sort l.0.2) (behind_direction l.0.0) x l.2 in
      let p : (p : List ℕ × ℕ × List PlacedToken) × (read (step_parts v) size STEP_ROOM position_sort d.0.2 ≡ Ok p) × (behind_position l.0.0 d.0.0 p ≡ Ok x) =
      bind_ok (read (step_parts v) size STEP_ROOM position_sort d.0.2) (behind_position l.0.0 d.0.0) x d.2 in
      let g : (g : Option (Tree Expression) × ℕ × List PlacedToken) × (read_given size v l.0.0 p.0.2 ≡ Ok g) × (made l.0.0 d.0.0 p.0.0 g ≡ Ok x) =
      bind_ok (read_given size v l.0.0 p.0.2) (made l.0.0 d.0.0 p.0.0) x p.2 in
      made_is l.0.0 d.0.0 p.0.0 g.0 ts x g.2
      (record {
        behind = p.0.2;
        front =
            record {
              opened = i.0;
              named = i.1;
              law_end = l.0.1;
              direction_end = d.0.1;
              position_end = p.0.1;
              behind_name = o.0;
              behind_law = l.0.2;
              behind_direction = d.0.2;
              starts = i.2;
              is_law = part_found law_sort o.0 l.0 l.1;
              is_direction = part_found direction_sort l.0.2 d.0 d.1;
              is_position = part_found position_sort d.0.2 p.0 p.1;
            };
        ends = given_found l.0.0 p.0.2 g.0 g.1;
      })

  pub step_refused : (ts : List PlacedToken) (e : ExprTextFault) → read_step size v ts ≡ Err e → NoStep v size ts e
  step_refused ts e h =
      bind_err (read_opening size v ts) behind_opening e h (opening_refused ts e)
      (λ us o h. let i : (a : ℕ) × (b : ℕ) × (ts ≡ step_tokens a b us) = opening_found ts us o in
      bind_err (read (step_parts v) size STEP_ROOM law_sort us) behind_law e h (λ q. no_law i.0 i.1 us i.2 (part_refused law_sort us e q))
      (λ l a h. let is_law : IsPart v law_sort l.0 us l.1 l.2 = part_found law_sort us l a in
      bind_err (read (step_parts v) size STEP_ROOM direction_sort l.2) (behind_direction l.0) e h
      (λ q. no_direction i.0 i.1 l.1 l.0 us l.2 i.2 is_law (part_refused direction_sort l.2 e q))
      (λ d b h. let is_direction : IsPart v direction_sort d.0 l.2 d.1 d.2 = part_found direction_sort l.2 d b in
      bind_err (read (step_parts v) size STEP_ROOM position_sort d.2) (behind_position l.0 d.0) e h
      (λ q. no_position i.0 i.1 l.1 d.1 l.0 d.0 us l.2 d.2 i.2 is_law is_direction (part_refused position_sort d.2 e q))
      (λ p c h. let front : IsStepFront v l.0 d.0 p.0 ts p.2 =
      record {
        opened = i.0;
        named = i.1;
        law_end = l.1;
        direction_end = d.1;
        position_end = p.1;
        behind_name = us;
        behind_law = l.2;
        behind_direction = d.2;
        starts = i.2;
        is_law = is_law;
        is_direction = is_direction;
        is_position = part_found position_sort d.2 p c;
      } in
      bind_err (read_given size v l.0 p.2) (made l.0 d.0 p.0) e h (λ q. given_refused l.0 d.0 p.0 ts p.2 e front q) (λ g q r. absurd (cc))))))

  pub refuses_step : (ts : List PlacedToken) (e : ExprTextFault) → NoStep v size ts e → read_step size v ts ≡ Err e
  refuses_step ts e (unopened u) = bind_gone (read_opening size v ts) behind_opening e (refuses_opening ts e u)
  refuses_step ts e (unnamed a us s u) = bind_gone (read_opening size v ts) behind_opening e (ap (read_opening size v) s ∙ refuses_name us e u)
  refuses_step ts e (no_law a b us s h) =
      bind_on (read_opening size v ts) behind_opening us (Err e) (opening_read a b ts us s)
      (bind_gone (read (step_parts v) size STEP_ROOM law_sort us) behind_law e (refuses_part law_sort us e h))
  refuses_step ts e (no_direction a b n law us vs s l h) =
      bind_on (read_opening size v ts) behind_opening us (Err e) (opening_read a b ts us s)
      (bind_on (read (step_parts v) size STEP_ROOM law_sort us) behind_law (law, n, vs) (Err e) (part_read law_sort law n us vs l)
      (bind_gone (read (step_parts v) size STEP_ROOM direction_sort vs) (behind_direction law) e (refuses_part direction_sort vs e h)))
  refuses_step ts e (no_position a b n m law direction us vs ws s l d h) =
      bind_on (read_opening size v ts) behind_opening us (Err e) (opening_read a b ts us s)
      (bind_on (read (step_parts v) size STEP_ROOM law_sort us) behind_law (law, n, vs) (Err e) (part_read law_sort law n us vs l)
      (bind_on (read (step_parts v) size STEP_ROOM direction_sort vs) (behind_direction law) (direction, m, ws) (Err e) (part_read direction_sort direction m vs ws d)
      (bind_gone (read (step_parts v) size STEP_ROOM position_sort ws) (behind_position law direction) e (refuses_part position_sort ws e h))))
  refuses_step ts e (no_end law direction at us f b h) =
      front_read law direction at ts us f
      (bind_gone (read_given size v law us) (made law direction at) e
      (given_on law us b
      ∙ bind_gone (read (networks v) size STEP_ROOM (given_sort law) us) _ e (refuses (networks v) (networks_proper v) size STEP_ROOM (given_sort law) us e h)))
  refuses_step ts e (unclosed law direction at us f t n vs b u) =
      front_read law direction at ts us f
      (bind_gone (read_given size v law us) (made law direction at) e
      (given_on law us (no_closing law b.part us n vs b.spells)
      ∙ bind_on (read (networks v) size STEP_ROOM (given_sort law) us) _ (t, n, vs) (Err e) (tree_read law t n us vs b)
      (bind_gone (read_end (networks v) size STEP_ROOM vs) _ e (refuses_end vs e u))))
