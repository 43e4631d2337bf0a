-- Members' turns in an array.
use Rattle.std.proofs.Common.{◌≡◌, ◌≤◌, ◌<◌, ℕ, zero, suc, true, List, [], ◌∷◌, ◌++◌, length, take, Some, refl, subst, sym, ap, arith}
use Rattle.sample_core.specs.TypeTree.{TypeTree}
use Rattle.net_meaning.specs.SignalFunction.{item_at}
use Rattle.leaf_code.specs.Fitting.{Bounds}
use Rattle.net_machine.specs.Store.{Moment, start, Origin, Store, Entry, entries, stored}
use Rattle.net_machine.specs.Stepper.{Turn, turns, new_turns}
use Rattle.c_meaning.specs.Object.{CType, array, Object, more, has_type, each_has, part_of}
use Rattle.c_meaning.specs.Meaning.{is_set}
use Rattle.c_meaning.proofs.Alike.{yes-and}
use Rattle.c_leaf.specs.Representing.{c_type}
use Rattle.c_forms.specs.Keeping.{Shape, shape_type, most_members, entry_type, written_count, KeepsTurns, no_turn, one_turn, KeepsEntry, written_kept, made_kept, KeepsMember, this_member, later_member, at_start}
use Rattle.c_forms.specs.Members.{members_shape}
use Rattle.c_forms.proofs.Lines.{entry-has, front-of}
use Rattle.c_forms.proofs.Members.{stack}

pub one-longer : {X : Type 0} (ts : List X) (t : X) → suc (length ts) ≡ length (ts ++ t ∷ [])
one-longer [] t = refl
one-longer (u ∷ ts) t = ap suc (one-longer ts t)

pub take-all : {X : Type 0} (k : ℕ) (xs : List X) → length xs ≤ k → take k xs ≡ xs
take-all zero [] l = refl
take-all zero (x ∷ xs) l = absurd (omega arith)
take-all (suc k) [] l = refl
take-all {X} (suc k) (x ∷ xs) l = ap (λ (us : List X). x ∷ us) (take-all k xs (omega arith))

pub take-full : {X : Type 0} (k : ℕ) (xs ys : List X) → length xs ≡ k → take k (xs ++ ys) ≡ xs
take-full zero [] ys e = refl
take-full zero (x ∷ xs) ys e = absurd (omega arith)
take-full (suc k) [] ys e = absurd (omega arith)
take-full {X} (suc k) (x ∷ xs) ys e = ap (λ (us : List X). x ∷ us) (take-full k xs ys (omega arith))

pub take-again : {X : Type 0} (k : ℕ) (xs ys : List X) → take k (take k xs ++ ys) ≡ take k (xs ++ ys)
take-again zero xs ys = refl
take-again (suc k) [] ys = refl
take-again {X} (suc k) (x ∷ xs) ys = ap (λ (us : List X). x ∷ us) (take-again k xs ys)

pub entries-stored : (es : List Entry) → entries (stored es) ≡ es
entries-stored [] = refl
entries-stored (e ∷ es) = ap (λ (us : List Entry). e ∷ us) (entries-stored es)

-- all at one moment
abbrev pub AllAt : Moment → List Turn → Type 0
AllAt m [] = Unit {0}
AllAt m (t ∷ ts) = (t.0 ≡ m) × AllAt m ts

-- the first k at a moment, the others at their first sample
abbrev pub AtMoments : Moment → ℕ → List Turn → Type 0
AtMoments m k [] = Unit {0}
AtMoments m zero (t ∷ ts) = (t.0 ≡ start) × AtMoments m zero ts
AtMoments m (suc k) (t ∷ ts) = (t.0 ≡ m) × AtMoments m k ts

pub all-turns : (m : Moment) (es : List Entry) → AllAt m (turns m es)
all-turns m [] = tt
all-turns m (e ∷ es) = (refl, all-turns m es)

pub all-new : (ws : List Origin) → AllAt start (new_turns ws)
all-new [] = tt
all-new (w ∷ ws) = (refl, all-new ws)

pub all-append : (m : Moment) (ts us : List Turn) → AllAt m ts → AllAt m us → AllAt m (ts ++ us)
all-append m [] us h k = k
all-append m (t ∷ ts) us h k = (h.0, all-append m ts us h.1 k)

pub all-at-moments : (m : Moment) (ts : List Turn) → AllAt m ts → AtMoments m (length ts) ts
all-at-moments m [] h = tt
all-at-moments m (t ∷ ts) h = (h.0, all-at-moments m ts h.1)

pub moments-append : (m : Moment) (k : ℕ) (ts : List Turn) (e : Entry) → k ≤ length ts → AtMoments m k ts → AtMoments m k (ts ++ (start, e) ∷ [])
moments-append m zero [] e l h = (refl, tt)
moments-append m (suc k) [] e l h = absurd (omega arith)
moments-append m zero (t ∷ ts) e l h = (h.0, moments-append m zero ts e (omega arith) h.1)
moments-append m (suc k) (t ∷ ts) e l h = (h.0, moments-append m k ts e (omega arith) h.1)

module _ (n : Bounds) (V : TypeTree) (M T : Shape) where
  abbrev E : CType
  E = entry_type (c_type n V) (shape_type n T) (shape_type n M)

  pub entry-set : {m : Moment} {w : Origin} {s : Store} {e : Object} → KeepsEntry n V M T m w s e → is_set e ≡ Some e
  entry-set (written_kept a b k) = refl
  entry-set (made_kept r k t) = refl

  -- turn j
  pub record TurnAt (ts : List Turn) (m : Moment) (j : ℕ) (o : Object) : Type 0 where
    pub origin : Origin
    pub store : Store
    pub object : Object
    pub is : item_at ts j ≡ (m, (origin, store)) ∷ []
    pub at : part_of o j ≡ Some object
    pub keeps : KeepsEntry n V M T m origin store object

  pub turn-at : {l : ℕ} {ts : List Turn} {o : Object} (m : Moment) (j : ℕ) → KeepsTurns n V M T l ts o → AllAt m ts → j < length ts → TurnAt ts m j o
  turn-at m j (no_turn e) a l = absurd (omega arith)
  turn-at m zero (one_turn {m = m1} {w = w} {s = s} {e = e} k h) a l =
      record { origin = w; store = s; object = e; is = ap (λ z. (z, (w, s)) ∷ []) a.0; at = refl; keeps = subst (λ z. KeepsEntry n V M T z w s e) a.0 k }
  turn-at m (suc j) (one_turn k h) a l =
      let r = turn-at m j h a.1 (omega arith) in
      record { origin = r.origin; store = r.store; object = r.object; is = r.is; at = r.at; keeps = r.keeps }

  -- the place behind them
  pub record Free (l : ℕ) (ts : List Turn) (o : Object) : Type 0 where
    pub front : List Object
    pub object : Object
    pub rest : Object
    pub is : o ≡ stack front (more object rest)
    pub count : length front ≡ length ts
    pub has_it : has_type E object ≡ true
    pub fits : (x : Object) → has_type E x ≡ true → each_has (has_type E) l (stack front (more x rest)) ≡ true
    pub keeps : (m : Moment) (w : Origin) (s : Store) (x : Object) → KeepsEntry n V M T m w s x → KeepsTurns n V M T l (ts ++ (m, (w, s)) ∷ []) (stack front (more x rest))

  pub free-place : (l : ℕ) {ts : List Turn} {o : Object} → written_count M ≤ most_members → KeepsTurns n V M T l ts o → length ts < l → Free l ts o
  free-place zero few h b = absurd (omega arith)
  free-place (suc l) few (no_turn {o = o} t) b =
      let f = front-of E (array l E) o t in
      record { front = []; object = f.a; rest = f.b; is = f.is; count = refl; has_it = f.has_a; fits = λ x u. yes-and u f.has_b; keeps = λ m w s x k. one_turn k (no_turn f.has_b) }
  free-place (suc l) few (one_turn {e = a} c h) b =
      let r = free-place l few h (omega arith) in
      record {
        front = a ∷ r.front;
        object = r.object;
        rest = r.rest;
        is = ap (more a) r.is;
        count = ap suc r.count;
        has_it = r.has_it;
        fits = λ x u. yes-and (entry-has n few c) (r.fits x u);
        keeps = λ m w s x k. one_turn c (r.keeps m w s x k);
      }

-- at the first sample the members are as they are
pub member-starts : (n : Bounds) (Ss : List Shape) (k : ℕ) (s : Store) (o : Object) → k < length Ss → has_type (shape_type n (members_shape Ss)) o ≡ true → KeepsMember n (members_shape Ss) start k s o
member-starts n [] k s o l t = absurd (omega arith)
member-starts n (S ∷ Ss) zero s o l t =
    let f = front-of (shape_type n S) (shape_type n (members_shape Ss)) o t in
    subst (KeepsMember n (members_shape (S ∷ Ss)) start 0 s) (sym f.is) (this_member (at_start f.has_a) f.has_b)
member-starts n (S ∷ Ss) (suc k) s o l t =
    let f = front-of (shape_type n S) (shape_type n (members_shape Ss)) o t in
    subst (KeepsMember n (members_shape (S ∷ Ss)) start (suc k) s) (sym f.is) (later_member f.has_a (member-starts n Ss k s f.b (omega arith) f.has_b))

pub written-shapes : (Ss : List Shape) → written_count (members_shape Ss) ≡ length Ss
written-shapes [] = refl
written-shapes (S ∷ Ss) = ap suc (written-shapes Ss)
