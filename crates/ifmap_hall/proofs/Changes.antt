-- A step of one seat keeps the rule. `Goes` says how what the seat knows changes while the history, the number served and the
-- next ticket go on; `seat_goes` turns it into the rule after the step, field by field, by cases on whether a seat is this one.
use Rattle.std.proofs.Common.{◌≡◌, ◌≢◌, ◌⊎◌, ℕ, ◌+◌, ◌%◌, ◌^◌, ◌<◌, ◌≤◌, List, [], ◌∷◌, length, set, true, sym, ap, subst, ◌∙◌, inl, inr, arith, length-set}
use mathlib.Core.Option.{}
use Rattle.atomic_table.proofs.Lists.{at_set}
use Rattle.ifmap_hall.specs.Histories.{Extends, OneExtendsOther}
use Rattle.ifmap_hall.specs.Places.{times, once_below}
use Rattle.ifmap_hall.specs.Rule.{Homes, Sits, SeatFits, AtHome, IsAway, IsInTurn}
use Rattle.ifmap_hall.specs.SeatViews.{tickets_of, ticket_of, holds_book}
use Rattle.ifmap_hall.specs.declared.view.HallHistory.{HallHistory}
use Rattle.ifmap_hall.specs.declared.view.SeatView.{SeatView}
use Rattle.ifmap_hall.specs.declared.view.Stage.{Stage}
use Rattle.ifmap_hall.specs.declared.view.Stage.TheVariants.{Idle, Waits, Holds}
use Rattle.ifmap_hall.specs.declared.view.Terms.{Terms}
use Rattle.ifmap_hall.proofs.Extending.{extends-itself, extends-through, ordered_again}
use Rattle.std.proofs.lemmas.Bool.{true≢false}
use Rattle.ifmap_lemmas.specs.Elements.{place_within}
use Rattle.ifmap_lemmas.specs.Sums.{sum_set}

module _ {E : Type 0} where
  pub one_ticket : (a : Stage E) → tickets_of a ≤ 1
  one_ticket Idle = omega arith
  one_ticket (Waits t) = omega arith
  one_ticket (Holds t h) = omega arith

  pub holder_has_ticket : (a : Stage E) → holds_book a ≡ true → tickets_of a ≡ 1
  holder_has_ticket Idle h = absurd (true≢false (sym h))
  holder_has_ticket (Waits t) h = absurd (true≢false (sym h))
  holder_has_ticket (Holds t x) h = omega arith

module _ {M E R : Type 0} (next : M → E → M) (weight : E → ℕ) where
  -- one seat goes from s to u
  pub record Goes (terms : Terms M) (words : List ℕ) (homes : Homes M E R) (seats : List (SeatView M E R))
      (k : IsInTurn next weight terms words homes seats)
      (id : ℕ) (s u : SeatView M E R) (history : HallHistory E) (served drawn : ℕ) : Type 0 where
    pub sits : Sits seats id s
    pub same : u.parts ≡ s.parts
    pub part : 0 < s.parts
    pub extends : Extends k.history history
    pub later : k.served ≤ served
    pub further : k.drawn ≤ drawn
    pub queued : (j : ℕ) (x : SeatView M E R) → j ≢ id → Sits seats j x → tickets_of x.stage ≡ 1 → served ≤ ticket_of x.stage
    pub held : (j : ℕ) (x : SeatView M E R) → j ≢ id → Sits seats j x → holds_book x.stage ≡ true
        → (history ≡ k.history) × (served ≡ k.served)
    pub fits : SeatFits terms history served drawn u
    pub tickets : tickets_of u.stage + k.drawn + served ≡ tickets_of s.stage + drawn + k.served
    pub places : (x : ℕ) → times x u.view.mine + once_below x (length k.history.log) ≡ times x s.view.mine + once_below x
        (length history.log)
    pub apart : tickets_of u.stage ≡ 1 → (j : ℕ) (x : SeatView M E R) → j ≢ id → Sits seats j x → tickets_of x.stage ≡ 1
        → ticket_of x.stage ≢ ticket_of u.stage
    pub order : (j : ℕ) (x : SeatView M E R) → j ≢ id → Sits seats j x → 0 < x.parts → OneExtendsOther x.view.history u.view.history
    pub alone : u.view.lone ≡ true → s.view.lone ≡ true

  module _ (terms : Terms M) (words : List ℕ) (homes : Homes M E R) (seats : List (SeatView M E R))
      (k : IsInTurn next weight terms words homes seats)
      (id : ℕ) (s u : SeatView M E R) (history : HallHistory E) (served drawn : ℕ)
      (g : Goes terms words homes seats k id s u history served drawn) where
    no_other_lone : (j : ℕ) (x : SeatView M E R) → j ≢ id → Sits seats j x → x.view.lone ≡ true → ⊥
    no_other_lone j x n e l =
        let one = k.alone j x e l in let a = place_within seats j x e in let b = place_within seats id s g.sits in n (omega arith)

    still : (j : ℕ) (x : SeatView M E R) → j ≢ id → Sits seats j x → SeatFits terms k.history k.served k.drawn x
        → SeatFits terms history served drawn x
    still j x n e f =
        let d = g.further in
        record {
          terms_are = f.terms_are;
          sound = f.sound;
          extends = extends-through x.view.history k.history history f.extends g.extends;
          joined = f.joined;
          queued = λ h. let q = (f.queued h).1 in (g.queued j x n e h, omega arith);
          held = λ h. let y = g.held j x n e h in let z = f.held h in (z.0 ∙ sym y.1, z.1 ∙ sym y.0);
          lone = λ h. absurd (no_other_lone j x n e h);
        }

    pub seat_goes : (words' : List ℕ) (homes' : Homes M E R) → words' ≡ served % 2 ^ 64 ∷ drawn % 2 ^ 64 ∷ []
        → AtHome next weight terms history homes' (set seats id u) ⊎ IsAway next weight homes' (set seats id u)
        → IsInTurn next weight terms words' homes' (set seats id u)
    seat_goes words' homes' words_are slot = record {
      history = history;
      served = served;
      drawn = drawn;
      words_are = words_are;
      slot = slot;
      parts = let t = sum_set (λ (x : SeatView M E R). x.parts) seats id s u g.sits in let p = k.parts in let same = g.same in omega arith;
      enough = λ i x e. elim (at_set seats id i u x e) [
        | inl p ↦ subst (λ (y : SeatView M E R). tickets_of y.stage ≤ y.parts) p.1
            (let one = one_ticket u.stage in let same = g.same in let h = g.part in omega arith)
        | inr p ↦ k.enough i x p.1
      ];
      spent = λ i x e z. elim (at_set seats id i u x e) [
        | inl p ↦ let q : u.parts ≡ x.parts = ap (λ (y : SeatView M E R). y.parts) p.1 in let same = g.same in let h = g.part in absurd
            (omega arith)
        | inr p ↦ k.spent i x p.1 z
      ];
      tickets = let t = sum_set (λ (x : SeatView M E R). tickets_of x.stage) seats id s u
          g.sits in let a = k.tickets in let b = g.tickets in omega arith;
      apart = λ i j x y e f hx hy same. elim (at_set seats id i u x e) [
        | inl p ↦ elim (at_set seats id j u y f) [
          | inl q ↦ p.0 ∙ sym q.0
          | inr q ↦ absurd (g.apart (ap (λ (z : SeatView M E R). tickets_of z.stage) p.1 ∙ hx) j y q.0 q.1 hy
              (sym same ∙ sym (ap (λ (z : SeatView M E R). ticket_of z.stage) p.1)))
        ]
        | inr p ↦ elim (at_set seats id j u y f) [
          | inl q ↦ absurd (g.apart (ap (λ (z : SeatView M E R). tickets_of z.stage) q.1 ∙ hy) i x p.0 p.1 hx
              (same ∙ sym (ap (λ (z : SeatView M E R). ticket_of z.stage) q.1)))
          | inr q ↦ k.apart i j x y p.1 q.1 hx hy same
        ]
      ];
      places = λ x. let t = sum_set (λ (y : SeatView M E R). times x y.view.mine) seats id s u g.sits in let a = k.places
          x in let b = g.places x in omega arith;
      fit = λ i x e h. elim (at_set seats id i u x e) [
        | inl p ↦ subst (λ (y : SeatView M E R). SeatFits terms history served drawn y) p.1 g.fits
        | inr p ↦ still i x p.0 p.1 (k.fit i x p.1 h)
      ];
      ordered = λ i j x y e f hx hy. elim (at_set seats id i u x e) [
        | inl p ↦ elim (at_set seats id j u y f) [
          | inl q ↦ subst (λ (z : SeatView M E R). OneExtendsOther x.view.history z.view.history) (sym p.1 ∙ q.1)
              (inl (extends-itself x.view.history))
          | inr q ↦ subst (λ (z : SeatView M E R). OneExtendsOther z.view.history y.view.history) p.1
              (ordered_again y.view.history u.view.history (g.order j y q.0 q.1 hy))
        ]
        | inr p ↦ elim (at_set seats id j u y f) [
          | inl q ↦ subst (λ (z : SeatView M E R). OneExtendsOther x.view.history z.view.history) q.1 (g.order i x p.0 p.1 hx)
          | inr q ↦ k.ordered i j x y p.1 q.1 hx hy
        ]
      ];
      alone = λ i x e l. length-set seats id u ∙ elim (at_set seats id i u x e) [
        | inl p ↦ k.alone id s g.sits (g.alone (ap (λ (y : SeatView M E R). y.view.lone) p.1 ∙ l))
        | inr p ↦ k.alone i x p.1 l
      ];
    }
