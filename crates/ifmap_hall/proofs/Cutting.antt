-- A seat is split in two. `Place` says where a seat of the new list comes from, and each field of the rule goes by cases on it;
-- the order of histories goes by `Stems`: each seat of the new list has seen what some old one had.
use Rattle.std.proofs.Common.{◌≡◌, ◌≢◌, ◌⊎◌, ℕ, ◌-◌, ◌%◌, ◌<◌, ◌≤◌, List, [], ◌∷◌, ◌++◌, set, nat_lt, true, false, refl, sym, ap, subst, ◌∙◌, inl, inr, arith, div-add-mod'}
use mathlib.Core.Option.{some-injective}
use lib.ListN.{get_elem?}
use Rattle.std.proofs.Math.Nat.{mod-lt}
use Rattle.std.proofs.lemmas.Bool.Decides.{nat_tests}
use Rattle.std.proofs.lemmas.Bool.{cases_lt, true≢false}
use Rattle.atomic_table.specs.Table.{Splits}
use Rattle.atomic_table.proofs.Lists.{at_set, set_else, at_snoc, at_longer}
use Rattle.ifmap_hall.specs.Histories.{OneExtendsOther}
use Rattle.ifmap_hall.specs.Places.{times}
use Rattle.ifmap_hall.specs.Rule.{Homes, Sits, SeatFits, AtHome, IsAway, IsInTurn, Keeps}
use Rattle.ifmap_hall.specs.SeatViews.{share_of, tickets_of, holds_book, kept_seat, given_seat}
use Rattle.ifmap_hall.specs.declared.view.HallHistory.{HallHistory}
use Rattle.ifmap_hall.specs.declared.view.SeatView.{SeatView}
use Rattle.ifmap_hall.specs.declared.view.Stage.TheVariants.{Idle}
use Rattle.ifmap_hall.specs.declared.view.Terms.{Terms}
use Rattle.std.proofs.lemmas.List.Sums.{sum_by_push}
use Rattle.ifmap_lemmas.specs.Elements.{place_within}
use Rattle.ifmap_lemmas.specs.Sums.{sum_set}
use Rattle.ifmap_hall.proofs.Passing.{extends-none}

pub share_within : (p : ℕ) → 1 < p → (0 < share_of p) × (share_of p < p)
share_within p h = elim (cases_lt p 65536) [
  | inl l ↦ let a : nat_lt p 65536 ≡ true = grind (arith, nat_tests) in rw a (omega arith, omega arith)
  | inr g ↦
      let a : nat_lt p 65536 ≡ false = grind (arith, nat_tests) in
      let d = div-add-mod' p 65536 in
      let m : p % 65536 < 65536 = mod-lt p (omega arith) in
      rw a (omega arith, omega arith)
]

module _ {M E R : Type 0} (next : M → E → M) (weight : E → ℕ) where
  -- a seat has seen what some seat that is not spent had seen
  pub record Stems (seats : List (SeatView M E R)) (x : SeatView M E R) : Type 0 where
    pub index : ℕ
    pub old : SeatView M E R
    pub sits : Sits seats index old
    pub part : 0 < old.parts
    pub seen : old.view.history ≡ x.view.history

  pub stems_ordered : (terms : Terms M) (words : List ℕ) (homes : Homes M E R) (seats : List (SeatView M E R))
      (k : IsInTurn next weight terms words homes seats)
      (x y : SeatView M E R) → Stems seats x → Stems seats y → OneExtendsOther x.view.history y.view.history
  stems_ordered terms words homes seats k x y a b =
      subst (λ (h : HallHistory E). OneExtendsOther h y.view.history) a.seen
      (subst (λ (h : HallHistory E). OneExtendsOther a.old.view.history h) b.seen
      (k.ordered a.index b.index a.old b.old a.sits b.sits a.part b.part))

  -- where a seat of the new list comes from
  data Place (seats : List (SeatView M E R)) (id : ℕ) (kept given : SeatView M E R) (i : ℕ) (x : SeatView M E R) : Type 0 where
    is_kept : i ≡ id → kept ≡ x → Place seats id kept given i x
    is_given : given ≡ x → Place seats id kept given i x
    is_old : i ≢ id → Sits seats i x → Place seats id kept given i x

  place : (seats : List (SeatView M E R)) (id : ℕ) (kept given : SeatView M E R) (i : ℕ) (x : SeatView M E R)
      → Sits (set seats id kept ++ given ∷ []) i x → Place seats id kept given i x
  place seats id kept given i x e = elim (at_snoc (set seats id kept) given x i e) [
    | inl h ↦ elim (at_set seats id i kept x h) [
      | inl p ↦ is_kept p.0 p.1
      | inr p ↦ is_old p.0 p.1
    ]
    | inr r ↦ is_given r
  ]

  module _ (terms : Terms M) (words : List ℕ) (homes : Homes M E R) (seats : List (SeatView M E R))
      (k : IsInTurn next weight terms words homes seats)
      (id : ℕ) (s : SeatView M E R) (sits : Sits seats id s) (parts : 1 < s.parts) (idle : s.stage ≡ Idle) where
    no_ticket : tickets_of s.stage ≡ 0
    no_ticket = ap tickets_of idle

    no_book : holds_book s.stage ≡ false
    no_book = ap holds_book idle

    cut_enough : (i : ℕ) (x : SeatView M E R) → Place seats id (kept_seat s) (given_seat s) i x → tickets_of x.stage ≤ x.parts
    cut_enough i x (is_kept p e) = subst (λ (y : SeatView M E R). tickets_of y.stage ≤ y.parts) e (omega (arith, no_ticket))
    cut_enough i x (is_given e) = subst (λ (y : SeatView M E R). tickets_of y.stage ≤ y.parts) e (omega arith)
    cut_enough i x (is_old n e) = k.enough i x e

    cut_spent : (i : ℕ) (x : SeatView M E R) → Place seats id (kept_seat s) (given_seat s) i x → x.parts ≡ 0
        → (x.view.mine ≡ []) × (holds_book x.stage ≡ false)
    cut_spent i x (is_kept p e) z =
        let a = (share_within s.parts parts).0 in let b = (share_within s.parts parts).1 in
        let q : s.parts - share_of s.parts ≡ x.parts = ap (λ (y : SeatView M E R). y.parts) e in absurd (omega arith)
    cut_spent i x (is_given e) z =
        let a = (share_within s.parts parts).0 in
        let q : share_of s.parts ≡ x.parts = ap (λ (y : SeatView M E R). y.parts) e in absurd (omega arith)
    cut_spent i x (is_old n e) z = k.spent i x e z

    cut_waits : (i : ℕ) (x : SeatView M E R) → Place seats id (kept_seat s) (given_seat s) i x → tickets_of x.stage ≡ 1 → Sits seats i x
    cut_waits i x (is_kept p e) h =
        let q : tickets_of s.stage ≡ tickets_of x.stage = ap (λ (y : SeatView M E R). tickets_of y.stage) e in absurd
        (omega (arith, no_ticket))
    cut_waits i x (is_given e) h =
        let q : 0 ≡ tickets_of x.stage = ap (λ (y : SeatView M E R). tickets_of y.stage) e in absurd (omega arith)
    cut_waits i x (is_old n e) h = e

    cut_fits : (i : ℕ) (x : SeatView M E R) → Place seats id (kept_seat s) (given_seat s) i x → 0 < x.parts
        → SeatFits terms k.history k.served k.drawn x
    cut_fits i x (is_kept p e) h =
        let f = k.fit id s sits (omega arith) in
        subst (λ (y : SeatView M E R). SeatFits terms k.history k.served k.drawn y) e (record {
          terms_are = f.terms_are;
          sound = record { inside = f.sound.inside; mine = f.sound.mine };
          extends = f.extends;
          joined = f.joined;
          queued = f.queued;
          held = f.held;
          lone = λ l. absurd (true≢false (sym l));
        })
    cut_fits i x (is_given e) h =
        let f = k.fit id s sits (omega arith) in
        subst (λ (y : SeatView M E R). SeatFits terms k.history k.served k.drawn y) e (record {
          terms_are = f.terms_are;
          sound = record { inside = f.sound.inside; mine = omega arith };
          extends = f.extends;
          joined = extends-none s.view.history;
          queued = λ w. absurd (omega arith);
          held = λ w. absurd (true≢false (sym w));
          lone = λ l. absurd (true≢false (sym l));
        })
    cut_fits i x (is_old n e) h = k.fit i x e h

    cut_stems : (i : ℕ) (x : SeatView M E R) → Place seats id (kept_seat s) (given_seat s) i x → 0 < x.parts → Stems seats x
    cut_stems i x (is_kept p e) h =
        record { index = id; old = s; sits = sits; part = omega arith; seen = ap (λ (y : SeatView M E R). y.view.history) e }
    cut_stems i x (is_given e) h =
        record { index = id; old = s; sits = sits; part = omega arith; seen = ap (λ (y : SeatView M E R). y.view.history) e }
    cut_stems i x (is_old n e) h = record { index = i; old = x; sits = e; part = h; seen = refl }

    cut_alone : (i : ℕ) (x : SeatView M E R) → Place seats id (kept_seat s) (given_seat s) i x → x.view.lone ≡ true → ⊥
    cut_alone i x (is_kept p e) l = true≢false (sym l ∙ ap (λ (y : SeatView M E R). y.view.lone) (sym e))
    cut_alone i x (is_given e) l = true≢false (sym l ∙ ap (λ (y : SeatView M E R). y.view.lone) (sym e))
    cut_alone i x (is_old n e) l =
        let one = k.alone i x e l in let a = place_within seats i x e in let b = place_within seats id s sits in n (omega arith)

    cut_free : ((j : ℕ) (y : SeatView M E R) → Sits seats j y → holds_book y.stage ≡ false) → (i : ℕ) (x : SeatView M E R)
        → Place seats id (kept_seat s) (given_seat s) i x → holds_book x.stage ≡ false
    cut_free free i x (is_kept p e) = ap (λ (y : SeatView M E R). holds_book y.stage) (sym e) ∙ no_book
    cut_free free i x (is_given e) = ap (λ (y : SeatView M E R). holds_book y.stage) (sym e)
    cut_free free i x (is_old n e) = free i x e

    cut_slot : AtHome next weight terms k.history homes seats ⊎ IsAway next weight homes seats
        → AtHome next weight terms k.history homes (set seats id (kept_seat s) ++ given_seat s ∷ [])
        ⊎ IsAway next weight homes (set seats id (kept_seat s) ++ given_seat s ∷ [])
    cut_slot (inl a) = inl (record {
      book = a.book;
      there = a.there;
      stands = a.stands;
      free = λ i x e. cut_free a.free i x (place seats id (kept_seat s) (given_seat s) i x e);
    })
    cut_slot (inr o) = inr (record {
      gone = o.gone;
      seat = o.seat;
      holder = o.holder;
      sits = at_longer (set seats id (kept_seat s)) (given_seat s ∷ []) o.seat o.holder
          (set_else seats id o.seat (kept_seat s)
          (λ e. true≢false (sym o.holds ∙ ap (λ (y : SeatView M E R). holds_book y.stage)
          (some-injective o.holder s (sym o.sits ∙ ap (get_elem? seats) e ∙ sits)) ∙ no_book)) ∙ o.sits);
      holds = o.holds;
    })

    pub cut_keeps : IsInTurn next weight terms words homes (set seats id (kept_seat s) ++ given_seat s ∷ [])
    cut_keeps =
        let at = λ (i : ℕ) (x : SeatView M E R) (e : Sits (set seats id (kept_seat s) ++ given_seat s ∷ []) i x). place seats id
        (kept_seat s) (given_seat s) i x e in
        record {
          history = k.history;
          served = k.served;
          drawn = k.drawn;
          words_are = k.words_are;
          slot = cut_slot k.slot;
          parts =
              let t = sum_set (λ (x : SeatView M E R). x.parts) seats id s (kept_seat s) sits in
              let z = sum_by_push (λ (x : SeatView M E R). x.parts) (set seats id (kept_seat s)) (given_seat s) in
              let a = (share_within s.parts parts).1 in let p = k.parts in omega arith;
          enough = λ i x e. cut_enough i x (at i x e);
          spent = λ i x e. cut_spent i x (at i x e);
          tickets =
              let t = sum_set (λ (x : SeatView M E R). tickets_of x.stage) seats id s (kept_seat s) sits in
              let z = sum_by_push (λ (x : SeatView M E R). tickets_of x.stage) (set seats id (kept_seat s)) (given_seat s) in
              let p = k.tickets in omega arith;
          apart = λ i j x y e f hx hy. k.apart i j x y (cut_waits i x (at i x e) hx) (cut_waits j y (at j y f) hy) hx hy;
          places = λ x.
              let t = sum_set (λ (y : SeatView M E R). times x y.view.mine) seats id s (kept_seat s) sits in
              let z = sum_by_push (λ (y : SeatView M E R). times x y.view.mine) (set seats id (kept_seat s)) (given_seat s) in
              let p = k.places x in omega arith;
          fit = λ i x e. cut_fits i x (at i x e);
          ordered =
              λ i j x y e f hx hy. stems_ordered terms words homes seats k x y (cut_stems i x (at i x e) hx) (cut_stems j y (at j y f) hy);
          alone = λ i x e l. absurd (cut_alone i x (at i x e) l);
        }

  pub splits : (terms : Terms M) (id : ℕ) (s : SeatView M E R) → 1 < s.parts → s.stage ≡ Idle
      → Splits (Keeps next weight terms) id s (kept_seat s) (given_seat s)
  splits terms id s parts idle t k sits = cut_keeps terms t.words t.homes t.views k id s sits parts idle
