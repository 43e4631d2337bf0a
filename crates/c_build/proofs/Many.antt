-- Terms and commands, one behind the other.
use Rattle.std.proofs.Common.{◌≡◌, ℕ, zero, suc, ◌+◌, List, [], ◌∷◌, length, Option, None, refl, sym, ◌∙◌, ap, arith}
use Rattle.sample_core.specs.TypeTree.{TypeTree}
use Rattle.leaf_code.specs.Fitting.{Bounds}
use Rattle.c_meaning.specs.Object.{CType, array}
use Rattle.c_meaning.specs.Syntax.{Term, local, zeroed, braced, Command, sequence, define, answer}
use Rattle.c_text.specs.declared.tree.CType as Y
use Rattle.c_text.specs.Meant.{type_meant, tail_meant}
use Rattle.c_leaf.specs.Representing.{c_type}
use Rattle.c_leaf.specs.LeafC.{pair_of}
use Rattle.c_forms.specs.Keeping.{Shape}
use Rattle.c_forms.specs.Forms.{lines}
use Rattle.c_forms.specs.Members.{member_calls, answers_term}
use Rattle.c_build.specs.declared.sym.Sym.TheVariants as S
use Rattle.c_build.specs.Symbols.{Stacks, run, and_term, and_command, in_braces, in_sequence, block_of, below_all}
use Rattle.c_build.specs.Making.{and_commands, and_terms, calls_from, registers_from}

-- k, and as many as there are here
counted : {A : Type 0} → List A → ℕ → ℕ
counted [] k = k
counted (x ∷ xs) k = counted xs (suc k)

counted_is : {A : Type 0} (xs : List A) (k : ℕ) → length xs + k ≡ counted xs k
unfolding counted
counted_is [] k = omega arith
counted_is (x ∷ xs) k = let e : suc (length xs) + k ≡ length xs + suc k = omega arith in e ∙ counted_is xs (suc k)

-- in braces, before a term
abbrev pub braces : List Term → Term → Term
braces [] t = t
braces (e ∷ es) t = braced e (braces es t)

braces_of : (es : List Term) (t : Term) (k : ℕ) (s : Stacks)
    → in_braces t (counted es k) (and_terms es s).terms ≡ in_braces (braces es t) k s.terms
unfolding counted
braces_of [] t k s = refl
braces_of (e ∷ es) t k s = braces_of es t (suc k) (and_term e s)

below_of : (es : List Term) (k : ℕ) (s : Stacks)
    → below_all (counted es k) (and_terms es s).terms ≡ below_all k s.terms
unfolding counted
below_of [] k s = refl
below_of (e ∷ es) k s = below_of es (suc k) (and_term e s)

sequence_of : (cs : List Command) (d : Command) (k : ℕ) (s : Stacks)
    → in_sequence d (counted cs k) (and_commands cs s).commands ≡ in_sequence (lines cs d) k s.commands
unfolding counted
sequence_of [] d k s = refl
sequence_of (c ∷ cs) d k s = sequence_of cs d (suc k) (and_command c s)

below_commands_of : (cs : List Command) (k : ℕ) (s : Stacks)
    → below_all (counted cs k) (and_commands cs s).commands ≡ below_all k s.commands
unfolding counted
below_commands_of [] k s = refl
below_commands_of (c ∷ cs) k s = below_commands_of cs (suc k) (and_command c s)

commands_kept : (es : List Term) (s : Stacks) → (and_terms es s).commands ≡ s.commands
commands_kept [] s = refl
commands_kept (e ∷ es) s = commands_kept es (and_term e s)

arguments_kept : (es : List Term) (s : Stacks) → (and_terms es s).arguments ≡ s.arguments
arguments_kept [] s = refl
arguments_kept (e ∷ es) s = arguments_kept es (and_term e s)

terms_kept : (cs : List Command) (s : Stacks) → (and_commands cs s).terms ≡ s.terms
terms_kept [] s = refl
terms_kept (c ∷ cs) s = terms_kept cs (and_command c s)

-- so many commands, and two, as one
pub block_made : (Ts : List CType) (cs : List Command) (d a : Command) (m : ℕ) (s : Stacks) → m ≡ length cs
    → run Ts (and_command a (and_command d (and_commands cs s))) (S.Block (m + 2) ∷ [])
    ≡ and_command (lines cs (sequence d a)) s
block_made Ts cs d a m s e =
    let k : m + 2 ≡ suc (suc (counted cs 0)) = let h = counted_is cs 0 in omega (arith, h) in
    rw (k, sequence_of cs (sequence d a) 0 s, below_commands_of cs 0 s, terms_kept cs s)

-- so many terms in braces
pub braced_made : (Ts : List CType) (es : List Term) (m : ℕ) (tail : Option Y.CType) (s : Stacks) → m ≡ length es
    → run Ts (and_terms es s) (S.Braced m tail ∷ []) ≡ and_term (braces es (tail_meant Ts tail)) s
braced_made Ts es m tail s e =
    let k : m ≡ counted es 0 = let h = counted_is es 0 in omega (arith, h) in
    rw (k, braces_of es (tail_meant Ts tail) 0 s, below_of es 0 s, arguments_kept es s, commands_kept es s)

module _ (n : Bounds) (Ps : List TypeTree) (Os : List Shape) where
  pub calls_length : (B : TypeTree) (i : ℕ) (js : List ℕ) → length js ≡ length (calls_from n Ps Os B i js)
  calls_length B i [] = refl
  calls_length B i (j ∷ js) = ap suc (calls_length B (suc i) js)

  pub calls_lines : (B : TypeTree) (i : ℕ) (js : List ℕ) (c : Command)
      → lines (calls_from n Ps Os B i js) c ≡ member_calls n Ps Os B i js c
  calls_lines B i [] c = refl
  calls_lines B i (j ∷ js) c = rw (calls_lines B (suc i) js c)

  pub registers_length : (i m : ℕ) → m ≡ length (registers_from n Ps Os i m)
  registers_length i zero = refl
  registers_length i (suc m) = ap suc (registers_length (suc i) m)

  pub registers_braces : (B : TypeTree) (i m l : ℕ)
      → braces (registers_from n Ps Os i m) (zeroed (array l (c_type n B))) ≡ answers_term n Ps Os B i m l
  registers_braces B i zero l = refl
  registers_braces B i (suc m) l = rw (registers_braces B (suc i) m l)
