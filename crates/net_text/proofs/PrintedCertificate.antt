-- A printed certificate is read back.
use Rattle.std.proofs.Common.{◌≡◌, ℕ, suc, ◌+◌, ◌≤◌, Bool, true, false, ◌||◌, List, [], ◌∷◌, ◌++◌, length, refl, ap, ◌∙◌, arith, Option, Some, None}
use Rattle.std.specs.Prelude.{codes, option_map}
use Rattle.std.specs.Fmt.{decimal}
use Rattle.std.proofs.lemmas.Bool.{le-ltb, ltb-false}
use Rattle.leaf_core.specs.Expression.{Expression}
use Rattle.leaf_expr.specs.Token.{closing, PlacedToken, tokens, tokens_in}
use Rattle.leaf_expr.specs.Sexpr.{atom, form, Spells, SpellAll, form_spells, last_spells, more_spells, plain_sexpr, all_plain, is_word, all_word_bytes, depth, depths, sexpr_spelling}
use Rattle.leaf_expr.specs.Language.{meant, make_tree, read_word, places}
use Rattle.leaf_expr.specs.WordReading.{natural_at}
use Rattle.leaf_expr.specs.ReadText.{fit}
use Rattle.leaf_expr.specs.Grammar.{expression_sort}
use Rattle.leaf_expr.specs.Printing.{expression_sexpr}
use Rattle.leaf_expr.proofs.Numbers.{natural_spelled, decimal_is_word}
use Rattle.leaf_expr.proofs.PrintedMeans.{expression_means, expression_plain}
use Rattle.leaf_expr.proofs.TokenLaws.{spells_printed}
use Rattle.leaf_expr.specs.declared.type_reader.TheConstants.{MOST_OPEN}
use Rattle.leaf_expr.specs.declared.number_reader.TheConstants.{MOST_INDEX}
use Rattle.net_tree.specs.Place.{Tree, a_network, a_leaf}
use Rattle.net_tree.specs.LawStep.{Step}
use Rattle.net_tree.specs.declared.law_step.Law.{Law}
use Rattle.net_tree.specs.declared.law_step.Direction.{Direction}
use Rattle.net_text.specs.Grammar.{Version, version_1, version_2, version_3, version_4}
use Rattle.net_text.specs.Printing.{is_new, version_word}
use Rattle.net_text.specs.StepGrammar.{last_leaf_law, last_law, step_parts, law_sort, direction_sort, position_sort, child_sort, step_word_at, step_production_at, directions, position_productions}
use Rattle.net_text.specs.CertificateLaws.{laws_tokens, IsGiven, no_tree, one_tree, IsStep, AreSteps, no_step, a_step}
use Rattle.net_text.specs.CertificatePrinting.{law_spelling, direction_spelling, child_sexprs, tree_sexpr, given_sexprs, step_sexpr, step_lines, lacks_law, lacks_laws, is_new_given, are_new_given, version_for, steps_version, IsLaw, ChildrenFit, GivenFits, StepFits, StepsFit, PrintedCertificateLaw}
use Rattle.net_text.proofs.Carried.{meaning_same}
use Rattle.net_text.proofs.PrintedFile.{printed, Allows, left_allowed, right_allowed, version_allows, second_allows, third_allows, fourth_allows}
use Rattle.net_text.specs.declared.certificate_reader.TheConstants.{STEP_ROOM}

-- a word's bytes may all stand in words
word_bytes : (w : List ℕ) → is_word w ≡ true → all_word_bytes w ≡ true
word_bytes [] e = absurd (cc)
word_bytes (b ∷ w) e = e

-- the number of a law
law_number : (most n : ℕ) → n ≤ MOST_INDEX → 1 ≤ n → n ≤ most → read_word (natural_at 1 most (decimal n)) ≡ Some n
law_number most n m l h = ap read_word (natural_spelled 1 most n l h (omega arith))

number_plain : (n : ℕ) → n ≤ MOST_INDEX → all_word_bytes (decimal n) ≡ true
number_plain n h = word_bytes (decimal n) (decimal_is_word n (omega arith))

-- neither of two
left_false : (a b : Bool) → (a || b) ≡ false → a ≡ false
left_false true b e = e
left_false false b e = refl

right_false : (a b : Bool) → (a || b) ≡ false → b ≡ false
right_false true b e = absurd (cc)
right_false false b e = e

both_false : (a b : Bool) → a ≡ false → b ≡ false → (a || b) ≡ false
both_false true b p q = absurd (cc)
both_false false b p q = q

-- a printed law is that law, in a version that has it
law_means : (v : Version) (law : Law) → IsLaw law → lacks_law v law ≡ false → meant (step_parts v) law_sort (atom (law_spelling law)) ≡ Some law
unfolding step_word_at
law_means v (Law.E n) h b = ap (λ o. read_word (fit (option_map Law.E o))) (law_number (last_leaf_law v) n (omega (arith, h.1)) h.0 (ltb-false (last_leaf_law v) n b))
law_means v (Law.L n) h b = ap (λ o. read_word (fit (option_map Law.L o))) (law_number (last_law v) n (omega (arith, h.1)) h.0 (ltb-false (last_law v) n b))

law_plain : (law : Law) → IsLaw law → is_word (law_spelling law) ≡ true
law_plain (Law.E n) h = number_plain n (omega (arith, h.1))
law_plain (Law.L n) h = number_plain n (omega (arith, h.1))

direction_means : (v : Version) (d : Direction) → meant (step_parts v) direction_sort (atom (direction_spelling d)) ≡ Some d
unfolding step_word_at directions
direction_means v Direction.Forward = refl
direction_means v Direction.Backward = refl

direction_plain : (d : Direction) → is_word (direction_spelling d) ≡ true
direction_plain Direction.Forward = refl
direction_plain Direction.Backward = refl

child_means : (v : Version) (k : ℕ) → k ≤ MOST_INDEX → meant (step_parts v) child_sort (atom (decimal k)) ≡ Some k
unfolding step_word_at
child_means v k h = ap read_word (natural_spelled 0 MOST_INDEX k (omega arith) h (omega arith))

children_mean : (v : Version) (ks : List ℕ) → ChildrenFit ks → (make : List ℕ → List ℕ)
    → make_tree (step_parts v) position_sort (places child_sort) make (child_sexprs ks) ≡ Some (make ks)
children_mean v [] h make = refl
children_mean v (k ∷ ks) h make = let i : meant (step_parts v) child_sort (atom (decimal k)) ≡ Some k = child_means v k h.0 in
    rw i (children_mean v ks h.1 (λ xs. make (k ∷ xs)))

position_means : (v : Version) (ks : List ℕ) → ChildrenFit ks → meant (step_parts v) position_sort (form (codes "at") (child_sexprs ks)) ≡ Some ks
unfolding step_production_at position_productions
position_means v ks h = children_mean v ks h (λ xs. xs)

children_plain : (ks : List ℕ) → ChildrenFit ks → all_plain (child_sexprs ks) ≡ true
children_plain [] h = refl
children_plain (k ∷ ks) h = let i : is_word (decimal k) ≡ true = decimal_is_word k (omega (arith, h.0)) in
    rw i (children_plain ks h.1)

given_plain : (law : Law) (o : Option (Tree Expression)) → GivenFits law o → all_plain (given_sexprs o) ≡ true
given_plain law None h = refl
given_plain (Law.E n) (Some (a_leaf e)) h = rw (expression_plain e h) refl
given_plain (Law.L n) (Some (a_network f)) h = rw ((printed f version_2 h (second_allows (is_new f))).1) refl
given_plain (Law.E n) (Some (a_network f)) h = absurd h
given_plain (Law.L n) (Some (a_leaf e)) h = absurd h

step_plain : (s : Step) → StepFits s → plain_sexpr (step_sexpr s) ≡ true
step_plain s h = rw (law_plain s.law h.law, direction_plain s.direction, children_plain s.position h.position, given_plain s.law s.given h.given) refl

-- what is printed behind the position ends the step
given_stands : (v : Version) (law : Law) (o : Option (Tree Expression)) (ts : List PlacedToken) (k : ℕ) (rest : List PlacedToken) → GivenFits law o
    → Allows v (is_new_given o) → depths (given_sexprs o) ≤ STEP_ROOM → SpellAll (given_sexprs o) ts ((k, closing) ∷ rest) → IsGiven v law o ts rest
given_stands v law None ts k rest h w d last_spells = no_tree k rest
given_stands v (Law.E n) (Some (a_leaf e)) ts k rest h w d (more_spells {n = m} a last_spells) =
    one_tree e m k ts rest
    (record { part = expression_sexpr e; spells = a; means = meaning_same v expression_sort (expression_sexpr e) ∙ expression_means e h; within = omega arith })
given_stands v (Law.L n) (Some (a_network f)) ts k rest h w d (more_spells {n = m} a last_spells) =
    one_tree f m k ts rest (record { part = tree_sexpr (a_network f); spells = a; means = (printed f v h w).0; within = omega arith })
given_stands v (Law.E n) (Some (a_network f)) ts k rest h w d a = absurd h
given_stands v (Law.L n) (Some (a_leaf e)) ts k rest h w d a = absurd h

-- the tokens of a printed step are the step
step_stands : (v : Version) (s : Step) (ts : List PlacedToken) (end : ℕ) (rest : List PlacedToken) → StepFits s
    → Allows v (is_new_given s.given) → lacks_law v s.law ≡ false → Spells (step_sexpr s) ts end rest → IsStep v s ts rest
step_stands v s ts end rest h w b (form_spells {n = opened} {m = named} {k = close} {ts = us}
    (more_spells {n = law_end} {mid = vs} a (more_spells {n = direction_end} {mid = ws} p (more_spells {n = position_end} {mid = xs} c d)))) =
    let deep : depth (step_sexpr s) ≤ MOST_OPEN = h.within in
    record {
      behind = xs;
      front =
          record {
            opened = opened;
            named = named;
            law_end = law_end;
            direction_end = direction_end;
            position_end = position_end;
            behind_name = us;
            behind_law = vs;
            behind_direction = ws;
            starts = refl;
            is_law =
                record {
                  part = atom (law_spelling s.law);
                  spells = a;
                  means = law_means v s.law h.law b;
                  within = omega arith;
                };
            is_direction = record { part = atom (direction_spelling s.direction); spells = p; means = direction_means v s.direction; within = omega arith };
            is_position =
                record {
                  part = form (codes "at") (child_sexprs s.position);
                  spells = c;
                  means = position_means v s.position h.position;
                  within = omega arith;
                };
          };
      ends =
          given_stands v s.law s.given xs close rest h.given w (omega arith) d;
    }

steps_stand : (v : Version) (ss : List Step) (n : ℕ) → StepsFit ss → Allows v (are_new_given ss) → lacks_laws v ss ≡ false → AreSteps v ss (tokens_in false n (step_lines ss)) []
steps_stand v [] n h w b = no_step []
steps_stand v (s ∷ ss) n h w b =
    let new : Bool = is_new_given s.given in
    let lacks : Bool = lacks_law v s.law in
    let end : ℕ = n + length (sexpr_spelling (step_sexpr s)) in
    let spelt : Spells (step_sexpr s) (tokens_in false n (step_lines (s ∷ ss))) end (tokens_in false (suc end) (step_lines ss)) =
    spells_printed (step_sexpr s) n (10 ∷ step_lines ss) (step_plain s h.0) refl in
    a_step s ss (tokens_in false n (step_lines (s ∷ ss))) (tokens_in false (suc end) (step_lines ss)) []
    (step_stands v s (tokens_in false n (step_lines (s ∷ ss))) end (tokens_in false (suc end) (step_lines ss)) h.0
    (left_allowed v new (are_new_given ss) w) (left_false lacks (lacks_laws v ss) b) spelt)
    (steps_stand v ss (suc end) h.1 (right_allowed v new (are_new_given ss) w) (right_false lacks (lacks_laws v ss) b))

laws_stand : (v : Version) (bs : List ℕ) → tokens (codes "laws " ++ (version_word v ++ (10 ∷ bs))) ≡ laws_tokens v 0 5 (tokens_in false 7 bs)
laws_stand version_1 bs = refl
laws_stand version_2 bs = refl
laws_stand version_3 bs = refl
laws_stand version_4 bs = refl

-- the fourth version has each law
fourth_has : (law : Law) → IsLaw law → lacks_law version_4 law ≡ false
fourth_has (Law.E n) h = le-ltb (last_leaf_law version_4) n h.1
fourth_has (Law.L n) h = le-ltb (last_law version_4) n h.1

fourth_has_all : (ss : List Step) → StepsFit ss → lacks_laws version_4 ss ≡ false
fourth_has_all [] h = refl
fourth_has_all (s ∷ ss) h = both_false (lacks_law version_4 s.law) (lacks_laws version_4 ss) (fourth_has s.law h.0.law) (fourth_has_all ss h.1)

-- the version that is printed has the laws of the steps
has_laws : (ss : List Step) → StepsFit ss → lacks_laws (steps_version ss) ss ≡ false
has_laws ss h = go (lacks_laws version_3 ss) (lacks_laws version_2 ss) (lacks_laws version_1 ss || are_new_given ss) refl refl refl
  where
    go : (a b c : Bool) → lacks_laws version_3 ss ≡ a → lacks_laws version_2 ss ≡ b → (lacks_laws version_1 ss || are_new_given ss) ≡ c
        → lacks_laws (version_for a b c) ss ≡ false
    go true b c p q r = fourth_has_all ss h
    go false true c p q r = p
    go false false true p q r = q
    go false false false p q r = left_false (lacks_laws version_1 ss) (are_new_given ss) r

-- and allows its forms
has_forms : (third second lacks new : Bool) → Allows (version_for third second (lacks || new)) new
has_forms true second lacks new = fourth_allows new
has_forms false true lacks new = third_allows new
has_forms false false true new = second_allows new
has_forms false false false new = version_allows new

pub printed_certificate : PrintedCertificateLaw
printed_certificate ss h l =
    let v : Version = steps_version ss in
    record {
      short = l;
      version = v;
      behind = tokens_in false 7 (step_lines ss);
      headed = record { laws = 0; number = 5; starts = laws_stand v (step_lines ss) };
      steps = steps_stand v ss 7 h (has_forms (lacks_laws version_3 ss) (lacks_laws version_2 ss) (lacks_laws version_1 ss) (are_new_given ss)) (has_laws ss h);
    }
