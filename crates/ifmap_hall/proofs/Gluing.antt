-- A seat is joined to another.
-- 1. `Place` says where a seat of the new list comes from.
-- 2. Each field of the rule goes by cases on it.
-- 3. `Joint` is what the joined view is of two, whichever has seen more; `joint_of` makes it in both cases.
use Rattle.std.proofs.Common.{◌≡◌, ◌≢◌, ◌⊎◌, ℕ, ◌+◌, ◌<◌, ◌≤◌, List, [], length, set, Bool, true, false, cond, refl, sym, ap, subst, ◌∙◌, inl, inr, arith}
use mathlib.Core.Option.{some-injective}
use lib.ListN.{get_elem?}
use Rattle.atomic_table.specs.Table.{Joins}
use Rattle.atomic_table.proofs.Lists.{at_set, set_else}
use Rattle.ifmap_hall.specs.Histories.{Extends, OneExtendsOther}
use Rattle.ifmap_hall.specs.Places.{times}
use Rattle.ifmap_hall.specs.Rule.{Homes, Sits, SeatFits, AtHome, IsAway, IsInTurn, Keeps}
use Rattle.ifmap_hall.specs.SeatViews.{tickets_of, holds_book, joint_seat, spent_seat}
use Rattle.ifmap_hall.specs.Views.{is_later}
use Rattle.ifmap_hall.specs.declared.view.HallHistory.{HallHistory}
use Rattle.ifmap_hall.specs.declared.view.SeatView.{SeatView}
use Rattle.ifmap_hall.specs.declared.view.Stage.TheVariants.{Idle}
use Rattle.ifmap_hall.specs.declared.view.Terms.{Terms}
use Rattle.ifmap_hall.proofs.Cutting.{Stems, stems_ordered}
use Rattle.ifmap_hall.proofs.Extending.{extends-itself, log_length, later_extends, earlier_extends}
use Rattle.std.proofs.lemmas.Bool.{true≢false}
use Rattle.ifmap_lemmas.specs.Elements.{place_within}
use Rattle.ifmap_lemmas.specs.Sums.{sum_set, two_within_sum}
use Rattle.ifmap_hall.proofs.Places.{rises_le, rises_merge, times-merge, once_most}

-- of two histories the later one, and the earlier one
pub record Joint {E : Type 0} (h k late early : HallHistory E) : Type 0 where
  pub one : (late ≡ h) ⊎ (late ≡ k)
  pub this : Extends h late
  pub that : Extends k late
  pub rest : Extends early late

module _ {E : Type 0} where
  joint_by : (h k : HallHistory E) (b : Bool) → is_later h k ≡ b → OneExtendsOther h k → Joint h k (cond b k h) (cond b h k)
  joint_by h k true e o = let x = later_extends h k o e in record { one = inr refl; this = x; that = extends-itself k; rest = x }
  joint_by h k false e o = let x = earlier_extends h k o e in record { one = inl refl; this = extends-itself h; that = x; rest = x }

  pub joint_of : (h k : HallHistory E) → OneExtendsOther h k → Joint h k (cond (is_later h k) k h) (cond (is_later h k) h k)
  joint_of h k o = joint_by h k (is_later h k) refl o

module _ {M E R : Type 0} (next : M → E → M) (weight : E → ℕ) where
  data Place (seats : List (SeatView M E R)) (id other : ℕ) (both spent : SeatView M E R) (i : ℕ) (x : SeatView M E R) : Type 0 where
    is_both : i ≡ id → both ≡ x → Place seats id other both spent i x
    is_spent : i ≡ other → spent ≡ x → Place seats id other both spent i x
    is_old : i ≢ id → i ≢ other → Sits seats i x → Place seats id other both spent i x

  place : (seats : List (SeatView M E R)) (id other : ℕ) (both spent : SeatView M E R) (i : ℕ) (x : SeatView M E R)
      → Sits (set (set seats id both) other spent) i x
      → Place seats id other both spent i x
  place seats id other both spent i x e = elim (at_set (set seats id both) other i spent x e) [
    | inl p ↦ is_spent p.0 p.1
    | inr q ↦ elim (at_set seats id i both x q.1) [
      | inl p ↦ is_both p.0 p.1
      | inr p ↦ is_old p.0 q.0 p.1
    ]
  ]

  module _ (m : M) (terms : Terms M) (words : List ℕ) (homes : Homes M E R) (seats : List (SeatView M E R))
      (k : IsInTurn next weight terms words homes seats)
      (id other : ℕ) (s u : SeatView M E R) (sits : Sits seats id s) (ne : other ≢ id) (there : Sits seats other u)
      (part_s : 0 < s.parts) (part_u : 0 < u.parts) (idle_s : s.stage ≡ Idle) (idle_u : u.stage ≡ Idle) where
    no_ticket : tickets_of s.stage ≡ 0
    no_ticket = ap tickets_of idle_s

    no_ticket_other : tickets_of u.stage ≡ 0
    no_ticket_other = ap tickets_of idle_u

    no_book : holds_book s.stage ≡ false
    no_book = ap holds_book idle_s

    no_book_other : holds_book u.stage ≡ false
    no_book_other = ap holds_book idle_u

    joint : Joint s.view.history u.view.history (joint_seat s u).view.history (joint_seat s u).joined
    joint = joint_of s.view.history u.view.history (k.ordered id other s u sits there part_s part_u)

    glue_enough : (i : ℕ) (x : SeatView M E R) → Place seats id other (joint_seat s u) (spent_seat m) i x → tickets_of x.stage ≤ x.parts
    glue_enough i x (is_both p e) = subst (λ (y : SeatView M E R). tickets_of y.stage ≤ y.parts) e (omega (arith, no_ticket))
    glue_enough i x (is_spent p e) = subst (λ (y : SeatView M E R). tickets_of y.stage ≤ y.parts) e (omega arith)
    glue_enough i x (is_old n o e) = k.enough i x e

    glue_spent : (i : ℕ) (x : SeatView M E R) → Place seats id other (joint_seat s u) (spent_seat m) i x → x.parts ≡ 0
        → (x.view.mine ≡ []) × (holds_book x.stage ≡ false)
    glue_spent i x (is_both p e) z = let q : s.parts + u.parts ≡ x.parts = ap (λ (y : SeatView M E R). y.parts) e in absurd (omega arith)
    glue_spent i x (is_spent p e) z =
        (ap (λ (y : SeatView M E R). y.view.mine) (sym e), ap (λ (y : SeatView M E R). holds_book y.stage) (sym e))
    glue_spent i x (is_old n o e) z = k.spent i x e z

    glue_waits : (i : ℕ) (x : SeatView M E R) → Place seats id other (joint_seat s u) (spent_seat m) i x → tickets_of x.stage ≡ 1
        → Sits seats i x
    glue_waits i x (is_both p e) h =
        let q : tickets_of s.stage ≡ tickets_of x.stage = ap (λ (y : SeatView M E R). tickets_of y.stage) e in absurd
        (omega (arith, no_ticket))
    glue_waits i x (is_spent p e) h =
        let q : 0 ≡ tickets_of x.stage = ap (λ (y : SeatView M E R). tickets_of y.stage) e in absurd (omega arith)
    glue_waits i x (is_old n o e) h = e

    disjoint : (x : ℕ) → times x s.view.mine + times x u.view.mine ≤ 1
    disjoint x =
        let t = two_within_sum (λ (y : SeatView M E R). times x y.view.mine) seats id other s u (λ e. ne (sym e)) sits there in
        let p = k.places x in let o = once_most x (length k.history.log) in omega arith

    late_fits : (late : HallHistory E) → (late ≡ s.view.history) ⊎ (late ≡ u.view.history)
        → Extends late k.history × (late.from ≤ length late.log)
    late_fits late (inl e) =
        let f = k.fit id s sits part_s in subst (λ (h : HallHistory E). Extends h k.history × (h.from ≤ length h.log)) (sym e)
        (f.extends, f.sound.inside)
    late_fits late (inr e) =
        let f = k.fit other u there part_u in subst (λ (h : HallHistory E). Extends h k.history × (h.from ≤ length h.log)) (sym e)
        (f.extends, f.sound.inside)

    glue_fits : (i : ℕ) (x : SeatView M E R) → Place seats id other (joint_seat s u) (spent_seat m) i x → 0 < x.parts
        → SeatFits terms k.history k.served k.drawn x
    glue_fits i x (is_both p e) h =
        let f = k.fit id s sits part_s in
        let g = k.fit other u there part_u in
        let late : HallHistory E = (joint_seat s u).view.history in
        let fits = late_fits late joint.one in
        let long_s = log_length s.view.history late joint.this in
        let long_u = log_length u.view.history late joint.that in
        subst (λ (y : SeatView M E R). SeatFits terms k.history k.served k.drawn y) e (record {
          terms_are = f.terms_are;
          sound = record {
            inside = fits.1;
            mine = rises_merge 0 s.view.mine u.view.mine (length late.log)
                (rises_le 0 s.view.mine (length s.view.history.log) (length late.log) f.sound.mine (omega arith))
                (rises_le 0 u.view.mine (length u.view.history.log) (length late.log) g.sound.mine (omega arith)) disjoint;
          };
          extends = fits.0;
          joined = joint.rest;
          queued = λ w. absurd (omega (arith, no_ticket));
          held = λ w. absurd (true≢false (sym w ∙ no_book));
          lone = λ l. absurd (true≢false (sym l));
        })
    glue_fits i x (is_spent p e) h = let q : 0 ≡ x.parts = ap (λ (y : SeatView M E R). y.parts) e in absurd (omega arith)
    glue_fits i x (is_old n o e) h = k.fit i x e h

    late_stems : (late : HallHistory E) → (late ≡ s.view.history) ⊎ (late ≡ u.view.history) → (x : SeatView M E R) → late ≡ x.view.history
        → Stems next weight seats x
    late_stems late (inl e) x q = record { index = id; old = s; sits = sits; part = part_s; seen = sym e ∙ q }
    late_stems late (inr e) x q = record { index = other; old = u; sits = there; part = part_u; seen = sym e ∙ q }

    glue_stems : (i : ℕ) (x : SeatView M E R) → Place seats id other (joint_seat s u) (spent_seat m) i x → 0 < x.parts
        → Stems next weight seats x
    glue_stems i x (is_both p e) h = late_stems (joint_seat s u).view.history joint.one x (ap (λ (y : SeatView M E R). y.view.history) e)
    glue_stems i x (is_spent p e) h = let q : 0 ≡ x.parts = ap (λ (y : SeatView M E R). y.parts) e in absurd (omega arith)
    glue_stems i x (is_old n o e) h = record { index = i; old = x; sits = e; part = h; seen = refl }

    glue_alone : (i : ℕ) (x : SeatView M E R) → Place seats id other (joint_seat s u) (spent_seat m) i x → x.view.lone ≡ true → ⊥
    glue_alone i x (is_both p e) l = true≢false (sym l ∙ ap (λ (y : SeatView M E R). y.view.lone) (sym e))
    glue_alone i x (is_spent p e) l = true≢false (sym l ∙ ap (λ (y : SeatView M E R). y.view.lone) (sym e))
    glue_alone i x (is_old n o e) l =
        let one = k.alone i x e l in let a = place_within seats i x e in let c = place_within seats id s sits in n (omega arith)

    glue_free : ((j : ℕ) (y : SeatView M E R) → Sits seats j y → holds_book y.stage ≡ false) → (i : ℕ) (x : SeatView M E R)
        → Place seats id other (joint_seat s u) (spent_seat m) i x
        → holds_book x.stage ≡ false
    glue_free free i x (is_both p e) = ap (λ (y : SeatView M E R). holds_book y.stage) (sym e) ∙ no_book
    glue_free free i x (is_spent p e) = ap (λ (y : SeatView M E R). holds_book y.stage) (sym e)
    glue_free free i x (is_old n o e) = free i x e

    glue_slot : AtHome next weight terms k.history homes seats ⊎ IsAway next weight homes seats
        → AtHome next weight terms k.history homes (set (set seats id (joint_seat s u)) other (spent_seat m))
        ⊎ IsAway next weight homes (set (set seats id (joint_seat s u)) other (spent_seat m))
    glue_slot (inl a) = inl (record {
      book = a.book;
      there = a.there;
      stands = a.stands;
      free = λ i x e. glue_free a.free i x (place seats id other (joint_seat s u) (spent_seat m) i x e);
    })
    glue_slot (inr o) = inr (record {
      gone = o.gone;
      seat = o.seat;
      holder = o.holder;
      sits = set_else (set seats id (joint_seat s u)) other o.seat (spent_seat m)
          (λ e. true≢false (sym o.holds ∙ ap (λ (y : SeatView M E R). holds_book y.stage)
          (some-injective o.holder u (sym o.sits ∙ ap (get_elem? seats) e ∙ there)) ∙ no_book_other))
          ∙ set_else seats id o.seat (joint_seat s u)
          (λ e. true≢false (sym o.holds ∙ ap (λ (y : SeatView M E R). holds_book y.stage)
          (some-injective o.holder s (sym o.sits ∙ ap (get_elem? seats) e ∙ sits)) ∙ no_book))
          ∙ o.sits;
      holds = o.holds;
    })

    still_there : Sits (set seats id (joint_seat s u)) other u
    still_there = set_else seats id other (joint_seat s u) ne ∙ there

    pub glue_keeps : IsInTurn next weight terms words homes (set (set seats id (joint_seat s u)) other (spent_seat m))
    glue_keeps =
        let at = λ (i : ℕ) (x : SeatView M E R) (e : Sits (set (set seats id (joint_seat s u)) other (spent_seat m)) i x). place seats id
        other (joint_seat s u) (spent_seat m) i x e in
        record {
          history = k.history;
          served = k.served;
          drawn = k.drawn;
          words_are = k.words_are;
          slot = glue_slot k.slot;
          parts =
              let t = sum_set (λ (x : SeatView M E R). x.parts) seats id s (joint_seat s u) sits in
              let z = sum_set (λ (x : SeatView M E R). x.parts) (set seats id (joint_seat s u)) other u (spent_seat m) still_there in
              let p = k.parts in omega arith;
          enough = λ i x e. glue_enough i x (at i x e);
          spent = λ i x e. glue_spent i x (at i x e);
          tickets =
              let t = sum_set (λ (x : SeatView M E R). tickets_of x.stage) seats id s (joint_seat s u) sits in
              let z = sum_set (λ (x : SeatView M E R). tickets_of x.stage) (set seats id (joint_seat s u)) other u
              (spent_seat m) still_there in
              let p = k.tickets in omega (arith, no_ticket_other);
          apart = λ i j x y e f hx hy. k.apart i j x y (glue_waits i x (at i x e) hx) (glue_waits j y (at j y f) hy) hx hy;
          places = λ x.
              let t = sum_set (λ (y : SeatView M E R). times x y.view.mine) seats id s (joint_seat s u) sits in
              let z = sum_set (λ (y : SeatView M E R). times x y.view.mine) (set seats id (joint_seat s u)) other u
              (spent_seat m) still_there in
              let q = times-merge x s.view.mine u.view.mine in
              let p = k.places x in omega arith;
          fit = λ i x e. glue_fits i x (at i x e);
          ordered = λ i j x y e f hx hy. stems_ordered next weight terms words homes seats k x y (glue_stems i x (at i x e) hx)
              (glue_stems j y (at j y f) hy);
          alone = λ i x e l. absurd (glue_alone i x (at i x e) l);
        }

  pub joins : (m : M) (terms : Terms M) (id other : ℕ) (s u : SeatView M E R) → 0 < s.parts → 0 < u.parts → s.stage ≡ Idle → u.stage ≡ Idle
      → Joins (Keeps next weight terms) id s other u (joint_seat s u) (spent_seat m)
  joins m terms id other s u ps pu is iu t k sits ne there =
      glue_keeps m terms t.words t.homes t.views k id other s u sits ne
      (sym (set_else t.views id other (joint_seat s u) ne) ∙ there) ps pu is iu
