-- The lines of steps, and lists of registers.
use Rattle.std.proofs.Common.{◌≡◌, ℕ, suc, ◌+◌, List, [], ◌∷◌, map, length, refl, sym, ap, ◌∙◌, arith, pos, Option, Some, None}
use Rattle.std.proofs.lemmas.List.{length-map}
use Rattle.sample_core.specs.TypeTree.{TypeTree}
use Rattle.sample_core.specs.TypeView.{type_of}
use Rattle.leaf_core.specs.declared.literal.Literal.TheVariants as N
use Rattle.leaf_code.specs.declared.operation.Operation.{Operation}
use Rattle.leaf_code.specs.declared.operation.Operation.TheVariants as V
use Rattle.leaf_code.specs.declared.operation.Step.{Step}
use Rattle.leaf_code.specs.Running as R
use Rattle.leaf_code.specs.CodeView.{operation_of, step_of}
use Rattle.c_text.specs.Meant.{base_meant}
use Rattle.c_text.specs.declared.tree.Base.{Base}
use Rattle.c_text.specs.declared.tree.CType as Y
use Rattle.c_text.specs.declared.tree.CType.TheVariants as T
use Rattle.c_meaning.specs.Object.{CType, u32, array}
use Rattle.c_meaning.specs.Syntax.{Term, local, literal, zeroed, braced, Command, sequence, skip}
use Rattle.c_leaf.specs.LeafC.{pair_of, elements_term}
use Rattle.c_forms.specs.Forms.{lines}
use Rattle.c_build.specs.declared.sym.Sym.TheVariants as S
use Rattle.c_build.specs.declared.operation.Lines.{Lines}
use Rattle.c_build.specs.Symbols.{Stacks, and_term, and_command, in_sequence, below_all, step}
use Rattle.c_build.specs.Making.{and_terms, and_commands}
use Rattle.c_build.proofs.Many.{braces, braced_made}
use Rattle.c_build.specs.LeafLines.{plain_at, step_at, steps_at}

-- some in front of others, the last first; how many they are, and m
abbrev pub onto : {A : Type 0} → List A → List A → List A
onto [] ys = ys
onto (x ∷ xs) ys = onto xs (x ∷ ys)

abbrev pub counted : {A : Type 0} → List A → ℕ → ℕ
counted [] m = m
counted (x ∷ xs) m = counted xs (suc m)

pub counted_is : {A : Type 0} (xs : List A) (m : ℕ) → counted xs m ≡ length xs + m
counted_is [] m = omega arith
counted_is (x ∷ xs) m = let h : counted xs (suc m) ≡ length xs + suc m = counted_is xs (suc m) in omega arith

pub below_onto : {A : Type 0} (xs ys : List A) (m : ℕ) → below_all (counted xs m) (onto xs ys) ≡ below_all m ys
below_onto [] ys m = refl
below_onto (x ∷ xs) ys m = below_onto xs (x ∷ ys) (suc m)

pub sequence_onto : (d : Command) (cs ds : List Command) (m : ℕ)
    → in_sequence d (counted cs m) (onto cs ds) ≡ in_sequence (lines cs d) m ds
sequence_onto d [] ds m = refl
sequence_onto d (c ∷ cs) ds m = sequence_onto d cs (c ∷ ds) (suc m)

-- commands on the stacks
pub commands_on : (cs : List Command) (s : Stacks) → (and_commands cs s).commands ≡ onto cs s.commands
commands_on [] s = refl
commands_on (c ∷ cs) s = commands_on cs (and_command c s)

pub terms_below : (cs : List Command) (s : Stacks) → (and_commands cs s).terms ≡ s.terms
terms_below [] s = refl
terms_below (c ∷ cs) s = terms_below cs (and_command c s)

module _ (Ts : List CType) where
  -- so many commands, and nothing behind them
  pub block_row : (cs : List Command) (s : Stacks) (k : ℕ) → k ≡ length cs + 1
      → step Ts (S.Block k) (step Ts S.Skip (and_commands cs s)) ≡ and_command (lines cs skip) s
  block_row cs s k h =
      let e : k ≡ suc (counted cs 0) = omega (arith, h, counted_is cs 0) in
      rw (e, commands_on cs s, terms_below cs s, sequence_onto skip cs s.commands 0, below_onto cs s.commands 0) refl

-- a step that compares nothing calls nothing
plain_of : (L : Lines) (s : Step) (o : Operation) → ((j k : ℕ) → o ≡ V.Equal j k → ⊥)
    → plain_at L (record { ty = s.ty; operation = o }) ≡ step_at L (R.step (type_of s.ty) (operation_of o))
plain_of L s (V.Equal j k) other = absurd (other j k refl)
plain_of L s (V.Literal N.Unit) other = refl
plain_of L s (V.Literal (N.Bool b)) other = refl
plain_of L s (V.Literal (N.Int z)) other = refl
plain_of L s o other = refl

pub plain_step : (L : Lines) (s : Step) → ((j k : ℕ) → s.operation ≡ V.Equal j k → ⊥)
    → plain_at L s ≡ step_at L (step_of s)
plain_step L s other = plain_of L s s.operation other

-- the lines of steps, one after the other
pub steps_lines : (L : Lines) (ss : List R.Step) → lines (map (step_at L) ss) skip ≡ steps_at L ss
steps_lines L [] = refl
steps_lines L (s ∷ ss) = ap (λ (c : Command). sequence (step_at L s) c) (steps_lines L ss)

-- the elements of a list in braces
module _ (n : TypeTree → ℕ) (h : TypeTree → ℕ) (m : ℕ) (t : ℕ → TypeTree) where
  pub elements_braces : (A : CType) (js : List ℕ) (l : ℕ)
      → braces (map (λ j. local (m + j)) js) (zeroed (array l A)) ≡ elements_term n h m t A js l
  elements_braces A [] l = refl
  elements_braces A (j ∷ js) l = ap (λ (e : Term). braced (local (m + j)) e) (elements_braces A js l)

  -- a count, and registers with zeros behind them: the list
  pub list_row : (Ts : List CType) (A : CType) (js : List ℕ) (l z k : ℕ) (b : Base) (s s1 s2 s3 : Stacks)
      → base_meant Ts b ≡ A → z ≡ l → k ≡ length js
      → s1 ≡ and_term (literal u32 (pos k)) s → s2 ≡ and_terms (map (λ j. local (m + j)) js) s1
      → s3 ≡ step Ts (S.Braced 2 None) (step Ts (S.Braced (length js) (Some (T.Array z b))) s2)
      → s3 ≡ and_term (pair_of (literal u32 (pos (length js))) (elements_term n h m t A js l)) s
  list_row Ts A js l z k b s s1 s2 s3 eb ez ek e1 e2 e3 =
      let es : List Term = map (λ j. local (m + j)) js in
      let tail : Option Y.CType = Some (T.Array z b) in
      let e : length js ≡ length es = sym (length-map js (λ j. local (m + j))) in
      e3
      ∙ (ap (λ (x : Stacks). step Ts (S.Braced 2 None) (step Ts (S.Braced (length js) tail) x)) (e2 ∙ ap (and_terms es) e1)
      ∙ (ap (step Ts (S.Braced 2 None)) (braced_made Ts es (length js) tail (and_term (literal u32 (pos k)) s) e)
      ∙ (ap (λ (x : ℕ). and_term (pair_of (literal u32 (pos x)) (braces es (zeroed (array z (base_meant Ts b))))) s) ek
      ∙ (ap (λ (x : ℕ). and_term (pair_of (literal u32 (pos (length js))) (braces es (zeroed (array x (base_meant Ts b))))) s) ez
      ∙ (ap (λ (x : CType). and_term (pair_of (literal u32 (pos (length js))) (braces es (zeroed (array l x)))) s) eb
      ∙ ap (λ (x : Term). and_term (pair_of (literal u32 (pos (length js))) x) s) (elements_braces A js l))))))
