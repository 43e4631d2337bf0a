-- Commands one by one: what each comes to.
use Rattle.std.proofs.Common.{◌≡◌, ◌+◌, ℕ, zero, suc, true, false, ◌&&◌, List, [], ◌∷◌, ◌++◌, length, take, Option, Some, None, refl, ap, ap₂, ◌∙◌, arith}
use Rattle.std.specs.Prelude.{slice_get, if◌then◌else◌}
use Rattle.c_meaning.specs.Object.{CType, Object, truth, has_type}
use Rattle.c_meaning.specs.Syntax.{Term, Argument, Command, skip, sequence, define, assign, call, branch, answer, Function}
use Rattle.c_meaning.specs.Meaning.{Frame, Linked, bind, eval, is_set, write, go_on, leave, by_truth, pushed, run, all_apart, passed, put_back, called, all_have, steady, returned, function_run}

module _ (F : ℕ → Linked) where
  -- a command comes to this
  pub record Runs (c : Command) (f : Frame) (r : Frame × Option Object) : Type 0 where
    pub is : run F c f ≡ Some r

  pub then-run : {a b : Command} {f g : Frame} {r : Frame × Option Object} → Runs a f (g, None) → Runs b g r → Runs (sequence a b) f r
  then-run {b = b} h k = record { is = ap (λ R. bind R (go_on (run F b))) h.is ∙ k.is }

  -- what follows is not looked at
  pub ends : {a b : Command} {f g : Frame} {o : Object} → Runs a f (g, Some o) → Runs (sequence a b) f (g, Some o)
  ends {b = b} h = record { is = ap (λ R. bind R (go_on (run F b))) h.is }

  pub skips : {f : Frame} → Runs skip f (f, None)
  skips = record { is = refl }

  pub defines : (T : CType) (e : Term) (f : Frame) (z : Object) → eval f e ≡ Some z → is_set z ≡ Some z → has_type T z ≡ true → Runs (define T e) f (f ++ z ∷ [], None)
  defines T e f z h k t = record {
    is =
        ap (λ E. bind (bind E is_set) (pushed T f)) h ∙ ap (λ E. bind E (pushed T f)) k ∙ ap (λ b. if b then Some (f ++ z ∷ [], None) else None) t;
  }

  pub gives-back : (e : Term) (f : Frame) (z : Object) → eval f e ≡ Some z → is_set z ≡ Some z → Runs (answer e) f (f, Some z)
  gives-back e f z h k = record { is = ap (λ E. bind (bind E is_set) (λ o. Some (f, Some o))) h ∙ ap (λ E. bind E (λ o. Some (f, Some o))) k }

  pub assigns : (e v : Term) (f g : Frame) (z : Object) → eval f v ≡ Some z → is_set z ≡ Some z → write f e z ≡ Some g → Runs (assign e v) f (g, None)
  assigns e v f g z h k w = record {
    is =
        ap (λ E. bind (bind E is_set) (λ o. bind (write f e o) (λ g. Some (g, None)))) h
        ∙ ap (λ E. bind E (λ o. bind (write f e o) (λ g. Some (g, None)))) k
        ∙ ap (λ W. bind W (λ g. Some (g, None))) w;
  }

  -- a block: the locals that it declares are gone
  pub chooses-first : {a b : Command} (c : Term) (f g : Frame) (r : Option Object) → eval f c ≡ Some (truth true) → Runs a f (g, r) → Runs (branch c a b) f (take (length f) g, r)
  chooses-first {a} {b} c f g r h k = record {
    is =
        ap (λ E. bind (bind E is_set) (λ v. by_truth v (bind (run F a f) (leave f)) (bind (run F b f) (leave f)))) h
        ∙ ap (λ R. bind R (leave f)) k.is;
  }

  pub chooses-second : {a b : Command} (c : Term) (f g : Frame) (r : Option Object) → eval f c ≡ Some (truth false) → Runs b f (g, r) → Runs (branch c a b) f (take (length f) g, r)
  chooses-second {a} {b} c f g r h k = record {
    is =
        ap (λ E. bind (bind E is_set) (λ v. by_truth v (bind (run F a f) (leave f)) (bind (run F b f) (leave f)))) h
        ∙ ap (λ R. bind R (leave f)) k.is;
  }

  -- a call
  pub calls : (T : CType) (k : ℕ) (args : List Argument) (f g : Frame) (os ps : List Object) (y : Object) → all_apart args ≡ true → passed f args ≡ Some os → F k os ≡ Some (ps, y)
      → put_back f args ps ≡ Some g → has_type T y ≡ true → Runs (call T k args) f (g ++ y ∷ [], None)
  calls T k args f g os ps y away ha hF hb ht = record {
    is =
        ap (λ z. if z then bind (passed f args) (λ os. bind (F k os) (called F T f args)) else None) away
        ∙ ap (λ P. bind P (λ os. bind (F k os) (called F T f args))) ha
        ∙ ap (λ R. bind R (called F T f args)) hF
        ∙ ap (λ W. bind W (λ g. pushed T g y)) hb
        ∙ ap (λ b. if b then Some (g ++ y ∷ [], None) else None) ht;
  }

  -- a function whose body answers
  pub function-runs : (h : Function) (os f ps : List Object) (y : Object) → all_have h.params os ≡ true → steady h.body ≡ true → Runs h.body os (f, Some y)
      → has_type h.result y ≡ true → take (length os) f ≡ ps → function_run F h os ≡ Some (ps, y)
  function-runs h os f ps y a s r t l =
      ap (λ z. if z then bind (run F h.body os) (returned h.result (length os)) else None) (ap₂ ◌&&◌ a s)
      ∙ ap (λ R. bind R (returned h.result (length os))) r.is
      ∙ ap (λ z. if z then Some (take (length os) f, y) else None) t
      ∙ ap (λ qs. Some (qs, y)) l

pub take-front : (os rs : List Object) → take (length os) (os ++ rs) ≡ os
take-front [] rs = refl
take-front (o ∷ os) rs = ap (λ (qs : List Object). o ∷ qs) (take-front os rs)

-- behind others
pub get-behind : {X : Type 0} (qs os : List X) (k : ℕ) → slice_get (qs ++ os) (length qs + k) ≡ slice_get os k
get-behind [] os k = ap (slice_get os) (omega arith)
get-behind (q ∷ qs) os k = ap (slice_get (q ∷ qs ++ os)) (shift (length qs) k) ∙ get-behind qs os k
  where
    shift : (a k : ℕ) → suc a + k ≡ suc (a + k)
    shift a k = omega arith

pub get-before : {X : Type 0} (qs os : List X) (k : ℕ) (o : X) → slice_get qs k ≡ Some o → slice_get (qs ++ os) k ≡ Some o
get-before [] os k o e = absurd (grind arith)
get-before (q ∷ qs) os zero o e = e
get-before (q ∷ qs) os (suc k) o e = get-before qs os k o e
