-- The text of commands. The locals are numbered as they are declared; what is of a type without members
-- is left out.
use Rattle.std.specs.Prelude.{ℕ, Bool, true, false, if◌then◌else◌, List, [], ◌∷◌, ◌++◌, codes, length}
use Rattle.std.specs.Fmt.{decimal}
use Rattle.c_text.specs.declared.name.Name.TheVariants as N
use Rattle.c_text.specs.declared.tree.Base.TheVariants as B
use Rattle.c_text.specs.declared.tree.Scalar.TheVariants as S
use Rattle.c_text.specs.declared.tree.CType.{CType}
use Rattle.c_text.specs.declared.tree.CType.TheVariants as T
use Rattle.c_text.specs.declared.tree.Struct.{Struct}
use Rattle.c_text.specs.declared.tree.Local.{Local}
use Rattle.c_text.specs.declared.tree.Term.{Term}
use Rattle.c_text.specs.declared.tree.Argument.{Argument}
use Rattle.c_text.specs.declared.tree.Argument.TheVariants as A
use Rattle.c_text.specs.declared.tree.Command.{Command, Row_of-Command, end_of-Command, more_of-Command}
use Rattle.c_text.specs.declared.tree.Command as C
use Rattle.c_text.specs.declared.command.Context.{Context}
use Rattle.c_text.specs.NameText.{name_text}
use Rattle.c_text.specs.TypeText.{type_text, declared_text, is_empty, left_out}
use Rattle.c_text.specs.PlaceType.{place_type}
use Rattle.c_text.specs.TermText.{operand_text, valued_text, term_text, address_text}
use Rattle.c_text.specs.Used.{is_used}

-- a local by value, and by pointer
abbrev pub by_value : CType → Local
by_value T = record { ty = T; pointer = false }

abbrev pub by_pointer : CType → Local
by_pointer T = record { ty = T; pointer = true }

-- the locals after a command
abbrev mutual
  pub after : List Local → Command → List Local
  after L (C.Declare T) = L ++ by_value T ∷ []
  after L (C.Define T e) = L ++ by_value T ∷ []
  after L (C.Refer T e) = L ++ by_pointer T ∷ []
  after L (C.Call T k as1) = L ++ by_value T ∷ []
  after L (C.Block' shape all) = after_row L all
  after L C.Skip = L
  after L (C.Assign e v) = L
  after L (C.Branch' c p a q b) = L
  after L (C.Loop' n c p a) = L
  after L (C.Answer e) = L

  pub after_row : List Local → {m : _} → Row_of-Command m → List Local
  after_row L end_of-Command = L
  after_row L (more_of-Command c cs) = after_row (after L c) cs

-- the same of a list
abbrev pub after_all : List Local → List Command → List Local
after_all L [] = L
after_all L (c ∷ cs) = after_all (after L c) cs

abbrev pub is_skip : Command → Bool
is_skip C.Skip = true
is_skip _ = false

abbrev pub separator_text : Bool → List ℕ
separator_text true = []
separator_text false = codes ", "

-- P: the prefix of names; E: which structs have no member; Ss: the structs; R: the function's result;
-- U: which locals the function uses; m: what each line begins with
module _ (P : List ℕ) (E : List Bool) (Ss : List Struct) (R : CType) (U : List Bool) (m : List ℕ)
    (L : List Local) where
  -- whether a pointer is passed to what has no member
  abbrev pub passes_nothing : Argument → Bool
  passes_nothing (A.Value e) = false
  passes_nothing (A.Const e) = is_empty E (place_type Ss L e)
  passes_nothing (A.Pointer e) = is_empty E (place_type Ss L e)

  abbrev pub argument_text : Argument → List ℕ
  argument_text (A.Value e) = term_text P Ss L e
  argument_text (A.Const e) = address_text P Ss L e
  argument_text (A.Pointer e) = address_text P Ss L e

  -- whether none was printed before
  abbrev pub arguments_text : Bool → List Argument → List ℕ
  arguments_text first [] = []
  arguments_text first (a ∷ as1) =
      if passes_nothing a then arguments_text first as1
      else separator_text first ++ (argument_text a ++ arguments_text false as1)

  -- the next local, and the end of the line that declares it: where it isn't used, so that no compiler
  -- warns of it
  abbrev pub next_text : List ℕ
  next_text = name_text P (N.Local (length L))

  abbrev pub ending_text : Bool → List ℕ
  ending_text true = codes ";\n"
  ending_text false = codes "; (void)" ++ (next_text ++ codes ";\n")

  abbrev pub end_text : List ℕ
  end_text = ending_text (is_used U (length L))

  abbrev pub declaration_text : CType → List ℕ
  declaration_text T = m ++ (declared_text P T (N.Local (length L)) ++ end_text)

  -- `const T r = s;`
  abbrev pub constant_head : CType → List ℕ
  constant_head T = m ++ (codes "const " ++ (declared_text P T (N.Local (length L)) ++ codes " = "))

  abbrev pub constant_text : CType → List ℕ → List ℕ
  constant_text T s = constant_head T ++ (s ++ end_text)

  -- a call, whose text is s: its result is a local, if it has a member
  abbrev pub called_text : CType → List ℕ → List ℕ
  called_text T s = if is_empty E T then m ++ (s ++ codes ";\n") else constant_text T s

  -- `const T *const r = &e;`
  abbrev pub reference_head : CType → List ℕ
  reference_head T =
      m ++ (codes "const " ++ (type_text P T ++ (codes " *const " ++ (next_text ++ codes " = "))))

  abbrev pub reference_text : CType → Term → List ℕ
  reference_text T e = reference_head T ++ (address_text P Ss L e ++ end_text)

  abbrev pub assignment_text : Term → Term → List ℕ
  assignment_text e v =
      m
      ++ (term_text P Ss L e
      ++ (codes " = " ++ (valued_text P (place_type Ss L e) v (term_text P Ss L v) ++ codes ";\n")))

  abbrev pub call_text : ℕ → List Argument → List ℕ
  call_text k as1 =
      name_text P (N.Function k) ++ (codes "(" ++ (arguments_text true as1 ++ codes ")"))

  -- what is returned, if it has a member
  abbrev pub answered_text : Term → List ℕ
  answered_text e = left_out E R (codes " " ++ valued_text P R e (term_text P Ss L e))

  abbrev pub answer_text : Term → List ℕ
  answer_text e = m ++ (codes "return" ++ (answered_text e ++ codes ";\n"))

  -- s, t: the lines of both sides, of which none is printed where there is nothing to do
  abbrev pub otherwise_text : Bool → List ℕ → List ℕ
  otherwise_text true t = []
  otherwise_text false t = m ++ (codes "} else {\n" ++ t)

  abbrev pub sides_text : Term → Bool → List ℕ → Bool → List ℕ → List ℕ
  sides_text c true s b t = codes "!" ++ (operand_text c (term_text P Ss L c) ++ (codes ") {\n" ++ t))
  sides_text c false s b t = term_text P Ss L c ++ (codes ") {\n" ++ (s ++ otherwise_text b t))

  abbrev pub branch_text : Term → Bool → List ℕ → Bool → List ℕ → List ℕ
  branch_text c a s b t = m ++ (codes "if (" ++ (sides_text c a s b t ++ (m ++ codes "}\n")))

  -- a loop over the next local: n: how often at most; c: the text of its test; s: its lines
  abbrev pub loop_head : ℕ → List ℕ
  loop_head n =
      m
      ++ (codes "for (uint32_t "
      ++ (next_text
      ++ (codes " = 0; (" ++ (next_text ++ (codes " < UINT32_C(" ++ (decimal n ++ codes ")) && "))))))

  abbrev pub loop_text : ℕ → List ℕ → List ℕ → List ℕ
  loop_text n c s =
      loop_head n
      ++ (c ++ (codes "; " ++ (next_text ++ (codes "++) {\n" ++ (s ++ (m ++ codes "}\n"))))))

-- one level in
abbrev pub inner : List ℕ → List ℕ
inner m = m ++ codes "    "

-- the counter of a loop
abbrev pub counted : List Local → List Local
counted L = L ++ by_value (T.One (B.Number S.Uint32)) ∷ []

module _ (P : List ℕ) (E : List Bool) (Ss : List Struct) (R : CType) (U : List Bool) where
  abbrev mutual
    pub command_text : List ℕ → List Local → Command → List ℕ
    command_text m L C.Skip = []
    command_text m L (C.Block' shape all) = row_text m L all
    command_text m L (C.Declare T) = left_out E T (declaration_text P E Ss R U m L T)
    command_text m L (C.Define T e) =
        left_out E T (constant_text P E Ss R U m L T (term_text P Ss L e))
    command_text m L (C.Refer T e) = left_out E T (reference_text P E Ss R U m L T e)
    command_text m L (C.Assign e v) =
        left_out E (place_type Ss L e) (assignment_text P E Ss R U m L e v)
    command_text m L (C.Call T k as1) =
        called_text P E Ss R U m L T (call_text P E Ss R U m L k as1.items)
    command_text m L (C.Branch' c p a q b) =
        branch_text P E Ss R U m L c (is_skip a) (command_text (inner m) L a) (is_skip b)
        (command_text (inner m) L b)
    command_text m L (C.Loop' n c p a) =
        loop_text P E Ss R U m L n (operand_text c (term_text P Ss (counted L) c))
        (command_text (inner m) (counted L) a)
    command_text m L (C.Answer e) = answer_text P E Ss R U m L e

    pub row_text : List ℕ → List Local → {n : _} → Row_of-Command n → List ℕ
    row_text m L end_of-Command = []
    row_text m L (more_of-Command c cs) = command_text m L c ++ row_text m (after L c) cs

  -- the same of a list
  abbrev pub lines_text : List ℕ → List Local → List Command → List ℕ
  lines_text m L [] = []
  lines_text m L (c ∷ cs) = command_text m L c ++ lines_text m (after L c) cs

-- what is printed in a context
abbrev pub printed : {A : Type 0}
    → (List ℕ → List Bool → List Struct → CType → List Bool → List ℕ → List Local → A)
    → Context → A
printed f x =
    f x.prefix.now x.empty.now x.structs.now x.result x.used.now x.margin.now x.locals.now
