-- Loops, and blocks that change the locals in front of them.
use Rattle.std.proofs.Common.{◌≡◌, ◌<◌, ◌+◌, ◌*◌, ◌^◌, ℕ, suc, pos, true, false, List, [], ◌∷◌, ◌++◌, length, take, Option, Some, None, subst, sym, ap, ap₂, ◌∙◌, arith, append_assoc, append-nil, length-append}
use Rattle.std.specs.Prelude.{not, nat_eq, slice_get, set, if◌then◌else◌}
use Rattle.std.proofs.Math.Seq.{set-append_seam}
use Rattle.sample_core.specs.TypeTree.{TypeTree}
use Rattle.leaf_code.specs.Fitting.{Bounds}
use Rattle.net_code.specs.Running.{Given}
use Rattle.c_meaning.specs.Object.{CType, u32, Object, truth, number, in_range, has_type, fresh, like}
use Rattle.c_meaning.specs.Syntax.{Term, Command, declare, loop, branch}
use Rattle.c_meaning.specs.Meaning.{Frame, Linked, Outcome, bind, eval, value, is_set, replaced, write, go_on, leave, by_truth, looped, is_none_of, written, run}
use Rattle.c_meaning.proofs.Alike.{yes-and}
use Rattle.c_meaning.proofs.Runs.{Runs, chooses-first, chooses-second, take-front}
use Rattle.c_forms.specs.Keeping.{Shape}
use Rattle.c_forms.specs.Standing.{InScope, behind}
use Rattle.c_forms.proofs.Reading.{width, local-at}
use Rattle.c_forms.proofs.Lines.{at, register-is}

take-same : (f g ms : List Object) → length f ≡ length g → take (length f) (g ++ ms) ≡ g
take-same f g ms e = ap (λ k. take k (g ++ ms)) e ∙ take-front g ms

pub loop-range : (k : ℕ) → k < 2 ^ 32 → in_range u32 (pos k) ≡ true
loop-range k l = grind arith

-- a local is not another
pub other-local : (a b : ℕ) → b < a → not (nat_eq a b) ≡ true
other-local a b l = grind arith

module _ (F : ℕ → Linked) where
  pub declares : (T : CType) (f : Frame) → has_type T (fresh T) ≡ true → Runs F (declare T) f (f ++ fresh T ∷ [], None)
  declares T f t = record { is = ap (λ b. if b then Some (f ++ fresh T ∷ [], None) else None) t }

  pub first-block : (a b : Command) (c : Term) (f g ms : List Object) (r : Option Object) → eval f c ≡ Some (truth true) → Runs F a f (g ++ ms, r) → length f ≡ length g → Runs F (branch c a b) f (g, r)
  first-block a b c f g ms r e k l = subst (λ u. Runs F (branch c a b) f (u, r)) (take-same f g ms l) (chooses-first F {a = a} {b = b} c f (g ++ ms) r e k)

  pub second-block : (a b : Command) (c : Term) (f g ms : List Object) (r : Option Object) → eval f c ≡ Some (truth false) → Runs F b f (g ++ ms, r) → length f ≡ length g → Runs F (branch c a b) f (g, r)
  second-block a b c f g ms r e k l = subst (λ u. Runs F (branch c a b) f (u, r)) (take-same f g ms l) (chooses-second F {a = a} {b = b} c f (g ++ ms) r e k)

  -- without locals of its own
  pub first-plain : (a b : Command) (c : Term) (f g : List Object) (r : Option Object) → eval f c ≡ Some (truth true) → Runs F a f (g, r) → length f ≡ length g → Runs F (branch c a b) f (g, r)
  first-plain a b c f g r e k l = first-block a b c f g [] r e (subst (λ u. Runs F a f (u, r)) (sym (append-nil g)) k) l

  pub second-plain : (a b : Command) (c : Term) (f g : List Object) (r : Option Object) → eval f c ≡ Some (truth false) → Runs F b f (g, r) → length f ≡ length g → Runs F (branch c a b) f (g, r)
  second-plain a b c f g r e k l = second-block a b c f g [] r e (subst (λ u. Runs F b f (u, r)) (sym (append-nil g)) k) l

  module _ (c : Term) (a : Command) where
    abbrev pub the-loop : ℕ → ℕ → Frame → Outcome
    the-loop n i f = looped (λ g. value g c) (run F a) n i f

    abbrev turned : ℕ → ℕ → Frame → Frame → Option Object → Outcome
    turned n i f f1 E = bind (bind E is_set) (λ v. by_truth v (bind (bind (run F a f1) (leave f)) (go_on (the-loop n (suc i)))) (Some (f, None)))

    pub goes-round : (n i : ℕ) (f f1 g ms h : List Object) → f ++ number u32 (pos i) ∷ [] ≡ f1 → eval f1 c ≡ Some (truth true) → Runs F a f1 (g ++ ms, None) → length f ≡ length g
        → the-loop n (suc i) g ≡ Some (h, None) → the-loop (suc n) i f ≡ Some (h, None)
    goes-round n i f f1 g ms h e t r l k =
        ap (λ u. turned n i f u (eval u c)) e ∙ ap (turned n i f f1) t ∙ ap (λ R. bind (bind R (leave f)) (go_on (the-loop n (suc i)))) r.is
        ∙ ap (λ u. the-loop n (suc i) u) (take-same f g ms l) ∙ k

    pub stops : (n i : ℕ) (f f1 : List Object) → f ++ number u32 (pos i) ∷ [] ≡ f1 → eval f1 c ≡ Some (truth false) → the-loop (suc n) i f ≡ Some (f, None)
    stops n i f f1 e t = ap (λ u. turned n i f u (eval u c)) e ∙ ap (turned n i f f1) t

    pub loop-runs : (n : ℕ) (f h : List Object) → is_none_of (length f) (written a) ≡ true → n < 2 ^ 32 → the-loop n 0 f ≡ Some (h, None) → Runs F (loop n c a) f (h, None)
    loop-runs n f h w l k = record { is = ap (λ b. if b then the-loop n 0 f else None) (yes-and w (loop-range n l)) ∙ k }

module _ (n : Bounds) (Ps : List TypeTree) (Os : List Shape) (F : ℕ → Linked) (g : Given) (qs : List Object) (h : InScope n Ps Os g qs) where
  -- a register holds something else
  pub write-register : (k : ℕ) (o d i u v : Object) (pre rest : List Object) → k ≡ length pre → like u v ≡ true
      → write (at n Ps Os F g qs h o d i (pre ++ (u ∷ rest))) (behind n Ps Os k) v ≡ Some (at n Ps Os F g qs h o d i (pre ++ (v ∷ rest)))
  write-register k o d i u v pre rest e l =
      let f : Frame = at n Ps Os F g qs h o d i (pre ++ (u ∷ rest)) in
      let c : ℕ = 3 + (length Ps + 2 * length Os) + k in
      ap (λ E. bind E (λ w. replaced f c w v)) (register-is n Ps Os F g qs h o d i (pre ++ (u ∷ rest)) k u (ap (slice_get (pre ++ (u ∷ rest))) e ∙ local-at pre rest u))
      ∙ ap (λ b. if b then Some (set f c v) else None) l
      ∙ ap Some (ap₂ (λ (us : List Object) j. set us j v) (ap (λ (us : List Object). o ∷ d ∷ i ∷ us) (sym (append_assoc qs pre (u ∷ rest)))) (place (length Ps + 2 * length Os) (length qs) (length pre) (width n Ps Os g qs h) e (length-append qs pre))
      ∙ set-append_seam (o ∷ d ∷ i ∷ (qs ++ pre)) u rest v ∙ ap (λ (us : List Object). o ∷ d ∷ i ∷ us) (append_assoc qs pre (v ∷ rest)))
    where
      place : (w a b : ℕ) {c : ℕ} → w ≡ a → k ≡ b → c ≡ a + b → 3 + w + k ≡ suc (suc (suc c))
      place w a b e f g = omega arith

  -- more locals
  pub further : (o d i : Object) (rs ms : List Object) → at n Ps Os F g qs h o d i rs ++ ms ≡ at n Ps Os F g qs h o d i (rs ++ ms)
  further o d i rs ms = ap (λ (us : List Object). o ∷ d ∷ i ∷ us) (append_assoc qs rs ms)

  -- the next local of a loop
  pub counted : (o d i : Object) (rs : List Object) (y : Object) → at n Ps Os F g qs h o d i rs ++ y ∷ [] ≡ at n Ps Os F g qs h o d i (rs ++ y ∷ [])
  counted o d i rs y = ap (λ (us : List Object). o ∷ d ∷ i ∷ us) (append_assoc qs rs (y ∷ []))

  pub frame-length : (o d i : Object) (rs : List Object) → length (at n Ps Os F g qs h o d i rs) ≡ 3 + (length Ps + 2 * length Os) + length rs
  frame-length o d i rs = ap (λ k. suc (suc (suc k))) (length-append qs rs) ∙ frame-count (length Ps + 2 * length Os) (length qs) (length rs) (width n Ps Os g qs h)
    where
      frame-count : (w a b : ℕ) → w ≡ a → suc (suc (suc (a + b))) ≡ 3 + w + b
      frame-count w a b e = omega arith

  pub as-long : (o p d i : Object) (rs us : List Object) → length rs ≡ length us → length (at n Ps Os F g qs h o d i rs) ≡ length (at n Ps Os F g qs h p d i us)
  as-long o p d i rs us e = ap (λ k. suc (suc (suc k))) (length-append qs rs ∙ ap (λ k. length qs + k) e ∙ sym (length-append qs us))
