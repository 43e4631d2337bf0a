-- The reader of network files answers exactly the files, and why bytes are none.
use Rattle.std.proofs.Common.{◌≡◌, ◌≢◌, ℕ, ◌≤◌, Bool, true, false, if◌then◌else◌, List, [], ◌∷◌, length, refl, sym, ap, ◌∙◌, subst, Option, Some, None, Result, Ok, Err, IfOk}
use Rattle.std.specs.Prelude.{codes, bytes_eq, option_and_then, option_map, IfErr}
use Rattle.std.proofs.lemmas.Slice.Eq.{bytes_eq-Decides}
use Rattle.sample_core.specs.TypeTree.{TypeTree}
use Rattle.sample_core.specs.TypeView.{type_of}
use Rattle.sample_core.specs.declared.ty.Ty.{Ty}
use Rattle.leaf_core.specs.Expression.{Expression}
use Rattle.leaf_core.specs.declared.expr.Expr.{Expr}
use Rattle.leaf_expr.specs.Token.{opening, closing, word, PlacedToken, tokens}
use Rattle.leaf_expr.specs.Language.{Begins}
use Rattle.leaf_expr.specs.Grammar.{leaf, type_sort}
use Rattle.leaf_expr.specs.TreeReader.{read}
use Rattle.leaf_expr.proofs.ReadFound.{found, bind_ok}
use Rattle.leaf_expr.proofs.ReadOnly.{only, some_bind}
use Rattle.leaf_expr.proofs.ReadFaults.{stops, stops_not_long}
use Rattle.leaf_expr.proofs.OneFault.{refuses}
use Rattle.leaf_expr.proofs.LeafProper.{leaf_proper}
use Rattle.net_tree.specs.Network.{Network}
use Rattle.net_tree.specs.NetworkView.{tree_of}
use Rattle.net_tree.specs.declared.net.Net.{Net}
use Rattle.net_text.specs.Grammar.{Version, version_1, version_2, version_3, version_4, networks, network_sort}
use Rattle.net_text.specs.File.{behind_word, version_named, behind_version, of_networks, network_version, then_word, behind_header, at_end, read_network, read_body, read_file}
use Rattle.net_text.specs.Printing.{version_word}
use Rattle.net_text.specs.FileLaws.{header_tokens, IsOfNetworks, HasHeader, IsFile, NoFile, no_type, no_network, follows, IsFileFault, ReadFileLaw, OneFileLaw, FileFaultLaw}
use Rattle.net_text.specs.ReadNet.{GivesFile}
use Rattle.net_text.specs.declared.fault.NetTextFault.{NetTextFault}
use Rattle.net_text.specs.declared.fault.NetTextFault.TheVariants as V
use Rattle.net_text.proofs.NetProper.{networks_proper}
use Rattle.net_text.proofs.HeadedText.{Behind, headed_found, headed_read, headed_fault, headed_refuses, headed_told, one_reading}
use Rattle.sample_core.specs.Answer.{◌>>=◌}
use Rattle.leaf_expr.specs.declared.text_fault.ExprTextFault.{ExprTextFault}
use Rattle.leaf_expr.specs.declared.text_fault.ExprTextFault.TheVariants as E
use Rattle.leaf_expr.specs.declared.type_reader.TheConstants.{MOST_OPEN}
use Rattle.leaf_expr.specs.declared.expr_reader.TheConstants.{MOST_LENGTH}

some_is : {A : Type 0} {x y : A} → ◌≡◌ {A = Option A} (Some x) (Some y) → x ≡ y
some_is p = cc

err_is : {A : Type 0} {x y : ExprTextFault} → ◌≡◌ {A = Result A ExprTextFault} (Err x) (Err y) → x ≡ y
err_is p = cc

ok_same : {A : Type 0} {x y : A} → ◌≡◌ {A = Result A ExprTextFault} (Ok x) (Ok y) → x ≡ y
ok_same p = cc

not_long : {bs : List ℕ} → NoFile bs E.TooLong → ⊥
not_long {bs = bs} (no_type v ts h s) = stops_not_long leaf (length bs) MOST_OPEN type_sort ts s
not_long {bs = bs} (no_network v ts h A n us b s) = stops_not_long (networks v) (length bs) MOST_OPEN network_sort us s
not_long (follows v ts h A n us b f m x after c e) = cc

at_end_ok : {T : Type 0} (x y : T) (ts : List PlacedToken) → at_end x ts ≡ Ok y → (x ≡ y) × (ts ≡ [])
at_end_ok x y [] e = (ok_same e, refl)
at_end_ok x y (z ∷ ts) e = absurd (cc)

pub word_found : (u : List ℕ) (ts us : List PlacedToken) → behind_word u ts ≡ Some us → (n : ℕ) × (ts ≡ (n, word u) ∷ us)
word_found u [] us e = absurd (cc)
word_found u ((n, opening) ∷ ts) us e = absurd (cc)
word_found u ((n, closing) ∷ ts) us e = absurd (cc)
word_found u ((n, word w) ∷ ts) us e = go (bytes_eq w u) refl e
  where
    go : (b : Bool) → bytes_eq w u ≡ b → (if b then Some ts else None) ≡ Some us → (m : ℕ) × ((n, word w) ∷ ts ≡ (m, word u) ∷ us)
    go true p q = (n, let i : w ≡ u = (bytes_eq-Decides w u).0 p in let j : ts ≡ us = some_is q in λ k. (n, word (i k)) ∷ j k)
    go false p q = absurd (cc)

-- a version is the word that it is printed as
word_is_version : (w : List ℕ) (v : Version) → version_named w ≡ Some v → w ≡ version_word v
word_is_version w v e = first (bytes_eq w (codes "1")) refl e
  where
    fourth : (b : Bool) → bytes_eq w (codes "4") ≡ b → (if b then Some version_4 else None) ≡ Some v → w ≡ version_word v
    fourth true p q = (bytes_eq-Decides w (codes "4")).0 p ∙ ap version_word (some_is q)
    fourth false p q = absurd (cc)

    third : (b : Bool) → bytes_eq w (codes "3") ≡ b → (if b then Some version_3 else if bytes_eq w (codes "4") then Some version_4 else None) ≡ Some v
        → w ≡ version_word v
    third true p q = (bytes_eq-Decides w (codes "3")).0 p ∙ ap version_word (some_is q)
    third false p q = fourth (bytes_eq w (codes "4")) refl q

    second : (b : Bool) → bytes_eq w (codes "2") ≡ b
        → (if b then Some version_2 else if bytes_eq w (codes "3") then Some version_3 else if bytes_eq w (codes "4") then Some version_4 else None) ≡ Some v
        → w ≡ version_word v
    second true p q = (bytes_eq-Decides w (codes "2")).0 p ∙ ap version_word (some_is q)
    second false p q = third (bytes_eq w (codes "3")) refl q

    first : (b : Bool) → bytes_eq w (codes "1") ≡ b
        → (if b then Some version_1 else if bytes_eq w (codes "2") then Some version_2 else if bytes_eq w (codes "3") then Some version_3 else if bytes_eq w (codes "4") then Some version_4 else None) ≡ Some v
        → w ≡ version_word v
    first true p q = (bytes_eq-Decides w (codes "1")).0 p ∙ ap version_word (some_is q)
    first false p q = second (bytes_eq w (codes "2")) refl q

pub version_found : (v : Version) (ts us : List PlacedToken) → behind_version ts ≡ Some (v, us) → (n : ℕ) × (ts ≡ (n, word (version_word v)) ∷ us)
version_found v [] us e = absurd (cc)
version_found v ((n, opening) ∷ ts) us e = absurd (cc)
version_found v ((n, closing) ∷ ts) us e = absurd (cc)
version_found v ((n, word w) ∷ ts) us e = go (version_named w) refl e
  where
    go : (o : Option Version) → version_named w ≡ o → option_map {U = Version × List PlacedToken} (λ u. (u, ts)) o ≡ Some (v, us)
        → (m : ℕ) × ((n, word w) ∷ ts ≡ (m, word (version_word v)) ∷ us)
    go None p q = absurd (cc)
    go (Some u) p q =
        let i : (u, ts) ≡ (v, us) = some_is q in
        let j : w ≡ version_word v = word_is_version w u p ∙ ap (λ x. version_word x.0) i in
        let k : ts ≡ us = ap (λ x. x.1) i in
        (n, λ l. (n, word (j l)) ∷ k l)

-- the version of network files that is the first word is one, and the first word is it
kept : (h x : Version × List PlacedToken) → of_networks h ≡ Some x → (h ≡ x) × IsOfNetworks x.0
kept (version_1, ts) x e = let i : (version_1, ts) ≡ x = some_is e in (i, subst (λ z. IsOfNetworks z.0) i tt)
kept (version_2, ts) x e = let i : (version_2, ts) ≡ x = some_is e in (i, subst (λ z. IsOfNetworks z.0) i tt)
kept (version_3, ts) x e = absurd (cc)
kept (version_4, ts) x e = absurd (cc)

network_version_found : (ts : List PlacedToken) (x : Version × List PlacedToken) → network_version ts ≡ Some x → (behind_version ts ≡ Some x) × IsOfNetworks x.0
network_version_found ts x e =
    let i : (h : Version × List PlacedToken) × (behind_version ts ≡ Some h) × (of_networks h ≡ Some x) = some_bind (behind_version ts) of_networks x e in
    let k : (i.0 ≡ x) × IsOfNetworks x.0 = kept i.0 x i.2 in
    (i.1 ∙ ap (λ h. Some h) k.0, k.1)

-- the tokens behind a word, with the version before them
then_word_found : (u : List ℕ) (h : Version × List PlacedToken) (v : Version) (us : List PlacedToken) → then_word u h ≡ Some (v, us)
    → (h.0 ≡ v) × (behind_word u h.1 ≡ Some us)
then_word_found u h v us e = go (behind_word u h.1) refl e
  where
    go : (o : Option (List PlacedToken)) → behind_word u h.1 ≡ o → option_map {U = Version × List PlacedToken} (λ ts. (h.0, ts)) o ≡ Some (v, us)
        → (h.0 ≡ v) × (behind_word u h.1 ≡ Some us)
    go None p q = absurd (cc)
    go (Some ts) p q = let i : (h.0, ts) ≡ (v, us) = some_is q in (ap (λ x. x.0) i, p ∙ ap (λ x. Some x.1) i)

-- three words, one behind the other, are a header
header_is : (u v : Version) (a b c : ℕ) (ts vs ws us : List PlacedToken) → ts ≡ (a, word (codes "yampa")) ∷ vs → vs ≡ (b, word (version_word u)) ∷ ws
    → ws ≡ (c, word (codes "input")) ∷ us → u ≡ v → ts ≡ header_tokens v a b c us
header_is u v a b c ts vs ws us p q r e =
    p ∙ ap (λ xs. (a, word (codes "yampa")) ∷ xs) (q ∙ ap (λ xs. (b, word (version_word u)) ∷ xs) r) ∙ ap (λ x. header_tokens x a b c us) e

header_found : (v : Version) (ts us : List PlacedToken) → behind_header ts ≡ Some (v, us)
    → (a : ℕ) × (b : ℕ) × (c : ℕ) × (ts ≡ header_tokens v a b c us) × IsOfNetworks v
header_found v ts us e =
    let i : (h : Version × List PlacedToken) × (option_and_then network_version (behind_word (codes "yampa") ts) ≡ Some h)
    × (then_word (codes "input") h ≡ Some (v, us)) =
    some_bind (option_and_then network_version (behind_word (codes "yampa") ts)) (then_word (codes "input")) (v, us) e in
    let j : (ws : List PlacedToken) × (behind_word (codes "yampa") ts ≡ Some ws) × (network_version ws ≡ Some i.0) =
    some_bind (behind_word (codes "yampa") ts) network_version i.0 i.1 in
    let m : (behind_version j.0 ≡ Some i.0) × IsOfNetworks i.0.0 = network_version_found j.0 i.0 j.2 in
    let k : (i.0.0 ≡ v) × (behind_word (codes "input") i.0.1 ≡ Some us) = then_word_found (codes "input") i.0 v us i.2 in
    let p : (a : ℕ) × (ts ≡ (a, word (codes "yampa")) ∷ j.0) = word_found (codes "yampa") ts j.0 j.1 in
    let q : (b : ℕ) × (j.0 ≡ (b, word (version_word i.0.0)) ∷ i.0.1) = version_found i.0.0 j.0 i.0.1 m.0 in
    let r : (c : ℕ) × (i.0.1 ≡ (c, word (codes "input")) ∷ us) = word_found (codes "input") i.0.1 us k.1 in
    (p.0, q.0, r.0, header_is i.0.0 v p.0 q.0 r.0 ts j.0 i.0.1 us p.1 q.1 r.1 k.0, subst IsOfNetworks k.0 m.1)

-- the version that a header names is the one that it has
header_names : (v : Version) → IsOfNetworks v → (a b c : ℕ) (ts : List PlacedToken) → behind_header (header_tokens v a b c ts) ≡ Some (v, ts)
header_names version_1 o a b c ts = refl
header_names version_2 o a b c ts = refl
header_names version_3 o a b c ts = absurd o
header_names version_4 o a b c ts = absurd o

header_behind : (bs : List ℕ) (v : Version) (ts : List PlacedToken) → HasHeader bs v ts → behind_header (tokens bs) ≡ Some (v, ts)
header_behind bs v ts h = ap behind_header h.starts ∙ header_names v h.of_networks h.yampa h.number h.input ts

module _ (bs : List ℕ) where
  -- a type that stands behind the header is read
  read_type : (ts : List PlacedToken) (A : TypeTree) (n : ℕ) (us : List PlacedToken) → Begins leaf MOST_OPEN type_sort A ts n us
      → read leaf (length bs) MOST_OPEN type_sort ts ≡ Ok (A, n, us)
  read_type ts A n us b = only leaf leaf_proper (length bs) MOST_OPEN type_sort b.part ts n us A b.spells b.means b.within

  file_behind : (A : TypeTree) (f : Network Expression) → IsFile bs A f → Behind behind_header read_body bs (Ok (A, f))
  file_behind A f h =
      let c : Begins (networks h.version) MOST_OPEN network_sort f h.network h.network_end [] = h.body in
      let q : read (networks h.version) (length bs) MOST_OPEN network_sort h.network ≡ Ok (f, h.network_end, []) =
      only (networks h.version) (networks_proper h.version) (length bs) MOST_OPEN network_sort c.part h.network h.network_end [] f c.spells c.means c.within in
      record {
        short = h.short;
        version = h.version;
        behind = h.behind;
        headed = header_behind bs h.version h.behind h.headed;
        reads =
            ap (λ r. r >>= read_network h.version (length bs)) (read_type h.behind A h.type_end h.network h.input)
            ∙ ap (λ r. r >>= (λ g. at_end (A, g.0) g.2)) q;
      }

  body_found : (v : Version) (ts : List PlacedToken) → HasHeader bs v ts → length bs ≤ MOST_LENGTH → (A : TypeTree) (f : Network Expression)
      → read_body (length bs) v ts ≡ Ok (A, f) → IsFile bs A f
  body_found v ts h l A f e =
      let i : (x : TypeTree × ℕ × List PlacedToken) × (read leaf (length bs) MOST_OPEN type_sort ts ≡ Ok x)
      × (read_network v (length bs) x ≡ Ok (A, f)) = bind_ok (read leaf (length bs) MOST_OPEN type_sort ts) _ (A, f) e in
      let j : (y : Network Expression × ℕ × List PlacedToken) × (read (networks v) (length bs) MOST_OPEN network_sort i.0.2 ≡ Ok y)
      × (at_end (i.0.0, y.0) y.2 ≡ Ok (A, f)) = bind_ok (read (networks v) (length bs) MOST_OPEN network_sort i.0.2) _ (A, f) i.2 in
      let k : ((i.0.0, j.0.0) ≡ (A, f)) × (j.0.2 ≡ []) = at_end_ok (i.0.0, j.0.0) (A, f) j.0.2 j.2 in
      let a : i.0.0 ≡ A = ap (λ z. z.0) k.0 in
      let g : j.0.0 ≡ f = ap (λ z. z.1) k.0 in
      record {
        short = l;
        version = v;
        behind = ts;
        headed = h;
        type_end = i.0.1;
        network = i.0.2;
        input =
            subst (λ B. Begins leaf MOST_OPEN type_sort B ts i.0.1 i.0.2) a (found leaf (length bs) MOST_OPEN type_sort ts i.0 i.1);
        network_end = j.0.1;
        body =
            subst (λ r. Begins (networks v) MOST_OPEN network_sort f i.0.2 j.0.1 r) k.1
            (subst (λ n. Begins (networks v) MOST_OPEN network_sort n i.0.2 j.0.1 j.0.2) g (found (networks v) (length bs) MOST_OPEN network_sort i.0.2 j.0 j.1));
      }

  body_refused : (v : Version) (ts : List PlacedToken) → HasHeader bs v ts → (e : ExprTextFault) → read_body (length bs) v ts ≡ Err e → NoFile bs e
  body_refused v ts h e p = go (read leaf (length bs) MOST_OPEN type_sort ts) refl p
    where
      ended : TypeTree → Network Expression × ℕ × List PlacedToken → Result (TypeTree × Network Expression) ExprTextFault
      ended A g = at_end (A, g.0) g.2

      then_network : (A : TypeTree) (n : ℕ) (us : List PlacedToken) → read leaf (length bs) MOST_OPEN type_sort ts ≡ Ok (A, n, us)
          → (r : Result (Network Expression × ℕ × List PlacedToken) ExprTextFault) → read (networks v) (length bs) MOST_OPEN network_sort us ≡ r
          → (r >>= ended A) ≡ Err e → NoFile bs e
      then_network A n us i (Err f) j q = no_network v ts h A n us (found leaf (length bs) MOST_OPEN type_sort ts (A, n, us) i)
          (stops (networks v) (networks_proper v) (length bs) MOST_OPEN network_sort us e (j ∙ ap Err (err_is q)))
      then_network A n us i (Ok (f, m, [])) j q = absurd (cc)
      then_network A n us i (Ok (f, m, x ∷ after)) j q =
          follows v ts h A n us (found leaf (length bs) MOST_OPEN type_sort ts (A, n, us) i) f m x after
          (found (networks v) (length bs) MOST_OPEN network_sort us (f, m, x ∷ after) j) (sym (err_is q))

      go : (r : Result (TypeTree × ℕ × List PlacedToken) ExprTextFault) → read leaf (length bs) MOST_OPEN type_sort ts ≡ r
          → (r >>= read_network v (length bs)) ≡ Err e → NoFile bs e
      go (Err f) i q = no_type v ts h (stops leaf leaf_proper (length bs) MOST_OPEN type_sort ts e (i ∙ ap Err (err_is q)))
      go (Ok (A, n, us)) i q = then_network A n us i (read (networks v) (length bs) MOST_OPEN network_sort us) refl q

  headed_by : (v : Version) (ts : List PlacedToken) → behind_header (tokens bs) ≡ Some (v, ts) → HasHeader bs v ts
  headed_by v ts e = let i : (a : ℕ) × (b : ℕ) × (c : ℕ) × (tokens bs ≡ header_tokens v a b c ts) × IsOfNetworks v = header_found v (tokens bs) ts e in
      record { yampa = i.0; number = i.1; input = i.2; starts = i.3; of_networks = i.4 }

  wrong : (e : ExprTextFault) → Behind behind_header read_body bs (Err e) → NoFile bs e
  wrong e b = body_refused b.version b.behind (headed_by b.version b.behind b.headed) e b.reads

  -- where no file is, the fault is answered
  refuse : (e : ExprTextFault) → length bs ≤ MOST_LENGTH → NoFile bs e → Behind behind_header read_body bs (Err e)
  refuse e l (no_type v ts h s) =
      record {
        short = l;
        version = v;
        behind = ts;
        headed = header_behind bs v ts h;
        reads = ap (λ r. r >>= read_network v (length bs)) (refuses leaf leaf_proper (length bs) MOST_OPEN type_sort ts e s);
      }
  refuse e l (no_network v ts h A n us a s) =
      record {
        short = l;
        version = v;
        behind = ts;
        headed = header_behind bs v ts h;
        reads =
            ap (λ r. r >>= read_network v (length bs)) (read_type ts A n us a)
            ∙ ap (λ r. r >>= (λ g. at_end (A, g.0) g.2)) (refuses (networks v) (networks_proper v) (length bs) MOST_OPEN network_sort us e s);
      }
  refuse e l (follows v ts h A n us a f m x after b q) =
      record {
        short = l;
        version = v;
        behind = ts;
        headed = header_behind bs v ts h;
        reads =
            ap (λ r. r >>= read_network v (length bs)) (read_type ts A n us a)
            ∙ ap (λ r. r >>= (λ g. at_end (A, g.0) g.2))
            (only (networks v) (networks_proper v) (length bs) MOST_OPEN network_sort b.part us m (x ∷ after) f b.spells b.means b.within) ∙ ap Err (sym q);
      }

  pub file_read : (A : TypeTree) (f : Network Expression) → IsFile bs A f → read_file bs ≡ Ok (A, f)
  file_read A f h = headed_read behind_header read_body bs (A, f) (file_behind A f h)

  pub file_found : (A : TypeTree) (f : Network Expression) → read_file bs ≡ Ok (A, f) → IsFile bs A f
  file_found A f e = let b = headed_found behind_header read_body bs (A, f) e in
      body_found b.version b.behind (headed_by b.version b.behind b.headed) b.short A f b.reads

  pub file_fault : (e : NetTextFault) → e ≢ V.Memory → read_file bs ≡ Err e → IsFileFault bs e
  file_fault e d p = headed_fault behind_header read_body bs (HasHeader bs) (NoFile bs) (header_behind bs) headed_by wrong not_long e d p

  pub refuses_file : (e : NetTextFault) → e ≢ V.Memory → IsFileFault bs e → read_file bs ≡ Err e
  refuses_file e d h = headed_refuses behind_header read_body bs (HasHeader bs) (NoFile bs) (header_behind bs) headed_by wrong not_long refuse e d h

  -- what the call returned, said by the grammar alone
  pub net_found : (r : Result (Ty × Net Expr) NetTextFault) → GivesFile r (read_file bs) → IfOk r (λ x. IsFile bs (type_of x.0) (tree_of x.1))
  net_found (Ok x) h = file_found (type_of x.0) (tree_of x.1) h
  net_found (Err e) h = tt

  pub net_only : (r : Result (Ty × Net Expr) NetTextFault) → GivesFile r (read_file bs) → (A : TypeTree) (f : Network Expression) → IsFile bs A f
      → GivesFile r (Ok (A, f))
  net_only r h A f i = subst (λ z. GivesFile r z) (file_read A f i) h

  pub net_refused : (r : Result (Ty × Net Expr) NetTextFault) → GivesFile r (read_file bs) → IfErr r (IsFileFault bs)
  net_refused r h = headed_told behind_header read_body bs (HasHeader bs) (NoFile bs) (header_behind bs) headed_by wrong not_long _ r h

pub read_file_law : ReadFileLaw
read_file_law bs A f = (file_found bs A f, file_read bs A f)

pub file_fault_law : FileFaultLaw
file_fault_law bs e d = (file_fault bs e d, refuses_file bs e d)

pub one_file : OneFileLaw
one_file bs A B f g h i =
    let p : (A, f) ≡ (B, g) = one_reading behind_header read_body bs (A, f) (B, g) (file_behind bs A f h) (file_behind bs B g i) in
    (ap (λ x. x.0) p, ap (λ x. x.1) p)
