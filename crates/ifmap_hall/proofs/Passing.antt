-- Giving the book back and passing the turn on.
use Rattle.std.proofs.Common.{◌≡◌, ◌≢◌, ◌⊎◌, ℕ, ◌+◌, ◌%◌, ◌^◌, ◌<◌, List, [], ◌∷◌, length, set, slice_index, true, false, refl, sym, ap, subst, ◌∙◌, inl, inr, arith}
use mathlib.Core.Option.{some, none}
use Rattle.std.proofs.lemmas.Bool.{false_from_ne_true, true≢false}
use Rattle.std.specs.Prelude.{Option, Some}
use Rattle.atomic_table.specs.Table.{Step, Act, gives, Valid, homes_after, carried_after, Allows}
use Rattle.atomic_table.proofs.Lists.{at_set}
use Rattle.ifmap_hall.specs.Histories.{Extends, BookStandsFor, no_history, history_in}
use Rattle.ifmap_hall.specs.Places.{times, once_below}
use Rattle.ifmap_hall.specs.Plays.{Gives, PassesOn}
use Rattle.ifmap_hall.specs.Rule.{Homes, Sits, AtHome, IsAway, IsInTurn, Keeps}
use Rattle.ifmap_hall.specs.SeatViews.{tickets_of, ticket_of, holds_book, taken_of, after_turn}
use Rattle.ifmap_hall.specs.declared.book.Book.{Book}
use Rattle.ifmap_hall.specs.declared.view.HallHistory.{HallHistory}
use Rattle.ifmap_hall.specs.declared.view.SeatView.{SeatView}
use Rattle.ifmap_hall.specs.declared.view.Terms.{Terms}
use Rattle.ifmap_hall.proofs.Changes.{Goes, seat_goes, holder_has_ticket}
use Rattle.ifmap_hall.proofs.Drawing.{ticket_after, has_part, holder_served}
use Rattle.ifmap_hall.proofs.Extending.{extends-itself, extends-through, gains_rest, log_length}
use Rattle.ifmap_hall.proofs.Places.{gains_places, gains_rise, rises_le}

module _ {E : Type 0} where
  pub extends-none : (h : HallHistory E) → Extends no_history h
  extends-none h = record { from = omega arith; rest = h.log; whole = refl }

module _ {M E R : Type 0} (next : M → E → M) (weight : E → ℕ) (reply : M → E → R) where
  -- the history that is given back extends the one that was taken
  pub gives_extends : (terms : Terms M) (h : HallHistory E) (b : Book M E R) → Gives next weight terms h b → Extends h (history_in h b)
  gives_extends terms h b g =
      let more = gains_rest h.log (history_in h b).log g.gains in
      record { from = g.settled; rest = more.0; whole = more.1 }

  module _ (terms : Terms M) (words : List ℕ) (homes : Homes M E R) (seats : List (SeatView M E R))
      (k : IsInTurn next weight terms words homes seats)
      (id : ℕ) (s : SeatView M E R) (sits : Sits seats id s) (part : 0 < s.parts) (holds : holds_book s.stage ≡ true) where
    no_other : (j : ℕ) (x : SeatView M E R) → j ≢ id → Sits seats j x → holds_book x.stage ≡ false
    no_other j x n e = false_from_ne_true (holds_book x.stage) (λ h.
        let a = holder_served next weight terms words homes seats k j x e h in
        let b = holder_served next weight terms words homes seats k id s sits holds in
        n (k.apart j id x s e sits a.1 b.1 (a.2 ∙ sym b.2)))

    pass_goes : (b : Book M E R) → Gives next weight s.view.terms (taken_of s.stage) b
        → Goes next weight terms words homes seats k id s (after_turn next reply s b) (history_in (taken_of s.stage) b)
        (k.served + 1) k.drawn
    pass_goes b g =
        let taken : HallHistory E = taken_of s.stage in
        let after : HallHistory E = history_in taken b in
        let f = k.fit id s sits part in
        let waits : tickets_of s.stage ≡ 1 = holder_has_ticket s.stage holds in
        let ticket : ticket_of s.stage ≡ k.served = (f.held holds).0 in
        let same : taken ≡ k.history = (f.held holds).1 in
        let grown : Extends taken after = gives_extends s.view.terms taken b g in
        let grown' : Extends k.history after = subst (λ (h : HallHistory E). Extends h after) same grown in
        let len : length taken.log ≡ length k.history.log = ap (λ (h : HallHistory E). length h.log) same in
        let long = log_length taken after grown in
        let seen = log_length s.view.history k.history f.extends in
        let near = g.near in
        record {
          sits = sits;
          same = refl;
          part = part;
          extends = grown';
          later = omega arith;
          further = omega arith;
          queued = λ j x n e one.
              let q = ((k.fit j x e (has_part next weight terms words homes seats k j x e one)).queued one).0 in
              let ne : ticket_of x.stage ≢ k.served = λ e'. n (k.apart j id x s e sits one waits (e' ∙ sym ticket)) in
              omega arith;
          held = λ j x n e h. absurd (true≢false (sym h ∙ no_other j x n e));
          fits = record {
            terms_are = f.terms_are;
            sound = record {
              inside = omega arith;
              mine = gains_rise taken.log after.log s.view.mine g.gains
                  (rises_le 0 s.view.mine (length s.view.history.log) (length taken.log) f.sound.mine (omega arith));
            };
            extends = extends-itself after;
            joined = extends-none after;
            queued = λ h. absurd (omega arith);
            held = λ h. absurd (true≢false (sym h));
            lone = λ _. refl;
          };
          tickets = omega arith;
          places = λ x. subst (λ (n : ℕ). times x (after_turn next reply s b).view.mine + once_below x n ≡ times x
              s.view.mine + once_below x (length after.log)) len
              (gains_places taken.log after.log s.view.mine g.gains x);
          apart = λ one. absurd (omega arith);
          order = λ j x n e some_part. inl (extends-through x.view.history k.history after (k.fit j x e some_part).extends grown');
          alone = λ l. l;
        }

    -- the slot is empty while a seat has the book
    empty : AtHome next weight terms k.history homes seats ⊎ IsAway next weight homes seats → homes ≡ none ∷ []
    empty (inl a) = absurd (true≢false (sym holds ∙ a.free id s sits))
    empty (inr o) = o.gone

  pub passes : (terms : Terms M) (slots id : ℕ) (s : SeatView M E R) (b : Book M E R) (st : Step (Option (Book M E R))) → 0 < s.parts
      → holds_book s.stage ≡ true
      → Gives next weight s.view.terms (taken_of s.stage) b
      → Allows (Keeps next weight terms) slots id (s, (0, Some b) ∷ []) 0 (λ n. (n + 1) % 2 ^ 64)
      (PassesOn next reply st (s, (0, Some b) ∷ []))
  passes terms slots id s b st part holds g t k _ sits _ =
      let P : List ℕ → Type 0 = λ ws. (u : SeatView M E R) × (a : Act (Option (Book M E R))) × Valid t.homes ((0, Some b) ∷ []) a
      × IsInTurn next weight terms (set ws 0 ((slice_index ws 0 + 1) % 2 ^ 64)) (homes_after t.homes ((0, Some b) ∷ []) a)
      (set t.views id u)
      × PassesOn next reply st (s, (0, Some b) ∷ []) (slice_index ws 0) (u, carried_after ((0, Some b) ∷ []) a) in
      let u : SeatView M E R = after_turn next reply s b in
      subst P (sym k.words_are) (
        u,
        gives,
        tt,
        seat_goes next weight terms t.words t.homes t.views k id s u (history_in (taken_of s.stage) b) (k.served + 1) k.drawn
            (pass_goes terms t.words t.homes t.views k id s sits part holds b g)
            ((k.served % 2 ^ 64 + 1) % 2 ^ 64 ∷ k.drawn % 2 ^ 64 ∷ []) (set t.homes 0 (some (Some b)))
            (ap (λ n. n ∷ k.drawn % 2 ^ 64 ∷ []) (ticket_after k.served))
            (inl (record {
              book = b;
              there =
                  ap (λ (hs : Homes M E R). set hs 0 (some (Some b))) (empty terms t.words t.homes t.views k id s sits part holds k.slot);
              stands = subst (λ q. BookStandsFor next weight q (history_in (taken_of s.stage) b) b) (k.fit id s sits part).terms_are g.book;
              free = λ i x e. elim (at_set t.views id i u x e) [
                | inl p ↦ sym (ap (λ (y : SeatView M E R). holds_book y.stage) p.1)
                | inr p ↦ no_other terms t.words t.homes t.views k id s sits part holds i x p.0 p.1
              ];
            })),
        (b, refl, refl),
      )
