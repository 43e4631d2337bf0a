-- Files of a header and what is read behind it: what is answered, and why bytes are none.
use Rattle.std.proofs.Common.{◌≡◌, ◌≢◌, ℕ, ◌≤◌, ◌<◌, Bool, true, false, if◌then◌else◌, nat_lt, List, length, refl, sym, ap, ◌∙◌, Some, None, Result, Ok, Err}
use Rattle.std.specs.Prelude.{IfErr}
use Rattle.std.proofs.lemmas.Bool.{ltb-false, ltb-true, le-ltb, lt-ltb}
use Rattle.leaf_expr.specs.Token.{PlacedToken, tokens}
use Rattle.net_text.specs.Grammar.{Version}
use Rattle.net_text.specs.File.{Headed, in_file, body_fault, read_behind, read_headed}
use Rattle.net_text.specs.FileLaws.{FaultOfFile}
use Rattle.net_text.specs.declared.fault.NetTextFault.{NetTextFault}
use Rattle.net_text.specs.declared.fault.NetTextFault.TheVariants as V
use Rattle.sample_core.specs.Answer.{GivesUnless}
use Rattle.leaf_expr.specs.declared.text_fault.ExprTextFault.{ExprTextFault}
use Rattle.leaf_expr.specs.declared.text_fault.ExprTextFault.TheVariants as E
use Rattle.leaf_expr.specs.declared.expr_reader.TheConstants.{MOST_LENGTH}

pub file_is : {A : Type 0} {x y : A} → ◌≡◌ {A = Result A NetTextFault} (Ok x) (Ok y) → x ≡ y
file_is p = cc

fault_is : {A : Type 0} {x y : NetTextFault} → ◌≡◌ {A = Result A NetTextFault} (Err x) (Err y) → x ≡ y
fault_is p = cc

no_header : (e : ExprTextFault) → V.Header ≢ in_file e
no_header (E.Syntax n) p = cc
no_header (E.Number n) p = cc
no_header (E.TooDeep n) p = cc
no_header E.TooLong p = cc
no_header E.Memory p = cc

body_ok : {A : Type 0} (r : Result A ExprTextFault) (x : A) → body_fault r ≡ Ok x → r ≡ Ok x
body_ok (Ok y) x e = ap Ok (file_is e)
body_ok (Err f) x e = absurd (cc)

-- a fault of a tree is told by that of the file
of_tree : NetTextFault → ExprTextFault
of_tree (V.Syntax n) = E.Syntax n
of_tree (V.Number n) = E.Number n
of_tree (V.TooDeep n) = E.TooDeep n
of_tree V.TooLong = E.TooLong
of_tree _ = E.Memory

of_tree-in_file : (e : ExprTextFault) → of_tree (in_file e) ≡ e
unfolding of_tree
of_tree-in_file (E.Syntax n) = refl
of_tree-in_file (E.Number n) = refl
of_tree-in_file (E.TooDeep n) = refl
of_tree-in_file E.TooLong = refl
of_tree-in_file E.Memory = refl

at_is : {A : Type 0} {x y : ExprTextFault} → ◌≡◌ {A = Result A NetTextFault} (Err (in_file x)) (Err (in_file y)) → x ≡ y
at_is {x = x} {y = y} p = let i : in_file x ≡ in_file y = cc in sym (of_tree-in_file x) ∙ ap of_tree i ∙ of_tree-in_file y

body_err : {A : Type 0} (r : Result A ExprTextFault) (f : ExprTextFault) → body_fault r ≡ Err (in_file f) → r ≡ Err f
body_err (Ok y) f e = absurd (cc)
body_err (Err g) f e = ap Err (at_is e)

not_header : {A : Type 0} (r : Result A ExprTextFault) → body_fault r ≡ Err V.Header → ⊥
not_header (Ok x) q = cc
not_header (Err f) q = no_header f (fault_is (sym q))

module _ {T : Type 0} (header : List PlacedToken → Headed) (body : ℕ → Version → List PlacedToken → Result T ExprTextFault) (bs : List ℕ) where
  -- what was answered stands behind a header
  pub record Behind (r : Result T ExprTextFault) : Type 0 where
    pub short : length bs ≤ MOST_LENGTH
    pub version : Version
    pub behind : List PlacedToken
    pub headed : header (tokens bs) ≡ Some (version, behind)
    pub reads : body (length bs) version behind ≡ r

  short_file : (r : Result T NetTextFault) → r ≢ Err V.TooLong → read_headed header body bs ≡ r
      → (length bs ≤ MOST_LENGTH) × (read_behind (body (length bs)) (header (tokens bs)) ≡ r)
  short_file r d e = go (nat_lt MOST_LENGTH (length bs)) refl e
    where
      go : (b : Bool) → nat_lt MOST_LENGTH (length bs) ≡ b → (if b then Err V.TooLong else read_behind (body (length bs)) (header (tokens bs))) ≡ r
          → (length bs ≤ MOST_LENGTH) × (read_behind (body (length bs)) (header (tokens bs)) ≡ r)
      go true q e' = absurd (d (sym e'))
      go false q e' = (ltb-false MOST_LENGTH (length bs) q, e')

  past_length : length bs ≤ MOST_LENGTH → read_headed header body bs ≡ read_behind (body (length bs)) (header (tokens bs))
  past_length l = ap (λ c. if c then Err V.TooLong else read_behind (body (length bs)) (header (tokens bs))) (le-ltb MOST_LENGTH (length bs) l)

  -- what is read of bytes with a header, where they are no more than files have
  past_header : (v : Version) (ts : List PlacedToken) → length bs ≤ MOST_LENGTH → header (tokens bs) ≡ Some (v, ts)
      → read_headed header body bs ≡ body_fault (body (length bs) v ts)
  past_header v ts l h = past_length l ∙ ap (read_behind (body (length bs))) h

  pub headed_found : (x : T) → read_headed header body bs ≡ Ok x → Behind (Ok x)
  headed_found x e = let i : (length bs ≤ MOST_LENGTH) × (read_behind (body (length bs)) (header (tokens bs)) ≡ Ok x) = short_file (Ok x) (λ q. cc) e in
      go i.0 (header (tokens bs)) refl i.1
    where
      go : length bs ≤ MOST_LENGTH → (o : Headed) → header (tokens bs) ≡ o → read_behind (body (length bs)) o ≡ Ok x → Behind (Ok x)
      go l None p q = absurd (cc)
      go l (Some h) p q = record { short = l; version = h.0; behind = h.1; headed = p; reads = body_ok (body (length bs) h.0 h.1) x q }

  pub headed_read : (x : T) → Behind (Ok x) → read_headed header body bs ≡ Ok x
  headed_read x b = past_header b.version b.behind b.short b.headed ∙ ap body_fault b.reads

  headed_refused : (e : ExprTextFault) → read_headed header body bs ≢ Err V.TooLong → read_headed header body bs ≡ Err (in_file e) → Behind (Err e)
  headed_refused e d p =
      let i : (length bs ≤ MOST_LENGTH)
      × (read_behind (body (length bs)) (header (tokens bs)) ≡ Err (in_file e)) = short_file (Err (in_file e)) (λ q. d (p ∙ q)) p in
      go i.0 (header (tokens bs)) refl i.1
    where
      go : length bs ≤ MOST_LENGTH → (o : Headed) → header (tokens bs) ≡ o → read_behind (body (length bs)) o ≡ Err (in_file e) → Behind (Err e)
      go l None h q = absurd (no_header e (fault_is q))
      go l (Some h) p q = record { short = l; version = h.0; behind = h.1; headed = p; reads = body_err (body (length bs) h.0 h.1) e q }

  -- a file has one reading
  pub one_reading : (x y : T) → Behind (Ok x) → Behind (Ok y) → x ≡ y
  one_reading x y a b = file_is (sym (headed_read x a) ∙ headed_read y b)

  module _ (Has : Version → List PlacedToken → Type 0) (Wrong : ExprTextFault → Type 0)
      (has : (v : Version) (ts : List PlacedToken) → Has v ts → header (tokens bs) ≡ Some (v, ts))
      (headed : (v : Version) (ts : List PlacedToken) → header (tokens bs) ≡ Some (v, ts) → Has v ts) (wrong : (e : ExprTextFault) → Behind (Err e) → Wrong e)
      (long : Wrong E.TooLong → ⊥) where
    headless : read_headed header body bs ≡ Err V.Header → (length bs ≤ MOST_LENGTH) × ((v : Version) (ts : List PlacedToken) → Has v ts → ⊥)
    headless p =
        let i : (length bs ≤ MOST_LENGTH) × (read_behind (body (length bs)) (header (tokens bs)) ≡ Err V.Header) = short_file (Err V.Header) (λ q. cc) p in
        (i.0, λ v ts h. not_header (body (length bs) v ts) (sym (ap (read_behind (body (length bs))) (has v ts h)) ∙ i.1))

    told : (e : ExprTextFault) → read_headed header body bs ≢ Err V.TooLong → read_headed header body bs ≡ Err (in_file e)
        → (length bs ≤ MOST_LENGTH) × Wrong e
    told e d p = let b = headed_refused e d p in (b.short, wrong e b)

    longer : read_headed header body bs ≡ Err V.TooLong → MOST_LENGTH < length bs
    longer p = go (nat_lt MOST_LENGTH (length bs)) refl p
      where
        here : length bs ≤ MOST_LENGTH → (o : Headed) → header (tokens bs) ≡ o → read_behind (body (length bs)) o ≡ Err V.TooLong → ⊥
        here l None h q = cc
        here l (Some h) p q =
            long (wrong E.TooLong (record { short = l; version = h.0; behind = h.1; headed = p; reads = body_err (body (length bs) h.0 h.1) E.TooLong q }))

        go : (b : Bool) → nat_lt MOST_LENGTH (length bs) ≡ b → (if b then Err V.TooLong else read_behind (body (length bs)) (header (tokens bs))) ≡ Err V.TooLong
            → MOST_LENGTH < length bs
        go true q e = ltb-true MOST_LENGTH (length bs) q
        go false q e = absurd (here (ltb-false MOST_LENGTH (length bs) q) (header (tokens bs)) refl e)

    pub headed_fault : (e : NetTextFault) → e ≢ V.Memory → read_headed header body bs ≡ Err e → FaultOfFile bs Has Wrong e
    headed_fault V.Header d p = headless p
    headed_fault (V.Syntax n) d p = told (E.Syntax n) (λ q. cc) p
    headed_fault (V.Number n) d p = told (E.Number n) (λ q. cc) p
    headed_fault (V.TooDeep n) d p = told (E.TooDeep n) (λ q. cc) p
    headed_fault V.TooLong d p = longer p
    headed_fault V.Memory d p = absurd (d refl)

    -- what a call that gives it is refused for
    pub headed_told : {X : Type 0} (view : X → T) (r : Result X NetTextFault) → GivesUnless V.Memory view r (read_headed header body bs)
        → IfErr r (FaultOfFile bs Has Wrong)
    headed_told view (Ok x) h = tt
    headed_told view (Err V.Header) h = headed_fault V.Header (λ q. cc) (h (λ q. cc))
    headed_told view (Err (V.Syntax n)) h = headed_fault (V.Syntax n) (λ q. cc) (h (λ q. cc))
    headed_told view (Err (V.Number n)) h = headed_fault (V.Number n) (λ q. cc) (h (λ q. cc))
    headed_told view (Err (V.TooDeep n)) h = headed_fault (V.TooDeep n) (λ q. cc) (h (λ q. cc))
    headed_told view (Err V.TooLong) h = headed_fault V.TooLong (λ q. cc) (h (λ q. cc))
    headed_told view (Err V.Memory) h = tt

    module _ (refuse : (e : ExprTextFault) → length bs ≤ MOST_LENGTH → Wrong e → Behind (Err e)) where
      answered : (e : ExprTextFault) → length bs ≤ MOST_LENGTH → Wrong e → read_headed header body bs ≡ Err (in_file e)
      answered e l w = let b = refuse e l w in past_header b.version b.behind b.short b.headed ∙ ap body_fault b.reads

      pub headed_refuses : (e : NetTextFault) → e ≢ V.Memory → FaultOfFile bs Has Wrong e → read_headed header body bs ≡ Err e
      headed_refuses V.Header d h = past_length h.0 ∙ go (header (tokens bs)) refl
        where
          go : (o : Headed) → header (tokens bs) ≡ o → read_behind (body (length bs)) (header (tokens bs)) ≡ Err V.Header
          go None p = ap (read_behind (body (length bs))) p
          go (Some x) p = absurd (h.1 x.0 x.1 (headed x.0 x.1 p))
      headed_refuses (V.Syntax n) d h = answered (E.Syntax n) h.0 h.1
      headed_refuses (V.Number n) d h = answered (E.Number n) h.0 h.1
      headed_refuses (V.TooDeep n) d h = answered (E.TooDeep n) h.0 h.1
      headed_refuses V.TooLong d h =
          ap (λ c. if c then Err V.TooLong else read_behind (body (length bs)) (header (tokens bs))) (lt-ltb MOST_LENGTH (length bs) h)
      headed_refuses V.Memory d h = absurd (d refl)
