-- Drawing a ticket, and looking whether it is served.
-- 1. The slot stays where a seat that has no book changes into one that has none (`same_slot`).
-- 2. A seat that has a ticket or the book has a part (`has_part`, `holder_served`).
-- 3. Each step is a `Goes` of a seat that comes to a stage while the history and the number served stay (`stage_goes`): the next
--    ticket is drawn (`draw_goes`), or the book is taken (`look_goes`).
-- 4. Who has the ticket that is served finds the book in its slot (`finds`); equal remainders are
--    equal tickets, since no more tickets are out than there are parts (`is_served`).
-- 5. So the table allows each step, over the words that the rule names: `draws`, `looks`, `looks_at_rest`.
use Rattle.std.proofs.Common.{◌≡◌, ◌≢◌, ◌⊎◌, ℕ, ◌+◌, ◌%◌, ◌^◌, ◌<◌, ◌≤◌, List, [], ◌∷◌, set, slice_index, true, false, refl, sym, ap, subst, ◌∙◌, inl, inr, arith}
use mathlib.Core.Option.{none, some-injective}
use native.Mathlib.Nat.{mod-add-mod}
use native.Mathlib.Decide.{ℕ_discrete}
use mathlib.Core.Logic.{dite}
use lib.ListN.{get_elem?}
use Rattle.std.specs.Prelude.{Option, Some}
use Rattle.atomic_table.specs.Table.{Step, Act, keeps, takes, Valid, homes_after, carried_after, Allows}
use Rattle.atomic_table.proofs.Lists.{at_set, set_here, set_else, set_again, one_turn}
use Rattle.ifmap_hall.specs.Histories.{BookStandsFor}
use Rattle.ifmap_hall.specs.Plays.{Draws, Looks, LooksAtRest}
use Rattle.ifmap_hall.specs.Rule.{Homes, Sits, AtHome, IsAway, IsInTurn, Keeps}
use Rattle.ifmap_hall.specs.SeatViews.{tickets_of, ticket_of, taken_of, holds_book, with_ticket, with_book}
use Rattle.ifmap_hall.specs.declared.book.Book.{Book}
use Rattle.ifmap_hall.specs.declared.view.HallHistory.{HallHistory}
use Rattle.ifmap_hall.specs.declared.view.SeatView.{SeatView}
use Rattle.ifmap_hall.specs.declared.view.Stage.{Stage}
use Rattle.ifmap_hall.specs.declared.view.Stage.TheVariants.{Idle, Waits, Holds}
use Rattle.ifmap_hall.specs.declared.view.Terms.{Terms}
use Rattle.ifmap_hall.proofs.Changes.{Goes, seat_goes, holder_has_ticket}
use Rattle.ifmap_hall.proofs.Extending.{extends-itself}
use Rattle.std.proofs.lemmas.Bool.{true≢false}
use Rattle.ifmap_lemmas.specs.Elements.{place_within}
use Rattle.ifmap_lemmas.specs.Sums.{one_within_sum, sum_at_most}

pub ticket_after : (n : ℕ) → (n % 2 ^ 64 + 1) % 2 ^ 64 ≡ (n + 1) % 2 ^ 64
ticket_after n = mod-add-mod n (2 ^ 64) 1

module _ {M E R : Type 0} (next : M → E → M) (weight : E → ℕ) where
  -- the slot, where a seat that has no book changes into one that has none
  pub same_slot : (terms : Terms M) (h : HallHistory E) (id : ℕ) (s u : SeatView M E R) (homes : Homes M E R)
      (seats : List (SeatView M E R))
      → Sits seats id s → holds_book s.stage ≡ false → holds_book u.stage ≡ false
      → AtHome next weight terms h homes seats ⊎ IsAway next weight homes seats
      → AtHome next weight terms h homes (set seats id u) ⊎ IsAway next weight homes (set seats id u)
  same_slot terms h id s u homes seats sits hs hu (inl a) = inl (record {
    book = a.book;
    there = a.there;
    stands = a.stands;
    free = λ i x e. elim (at_set seats id i u x e) [
      | inl p ↦ sym (ap (λ (y : SeatView M E R). holds_book y.stage) p.1) ∙ hu
      | inr p ↦ a.free i x p.1
    ];
  })
  same_slot terms h id s u homes seats sits hs hu (inr o) = inr (record {
    gone = o.gone;
    seat = o.seat;
    holder = o.holder;
    sits = set_else seats id o.seat u (λ e. true≢false (sym o.holds
        ∙ ap (λ (y : SeatView M E R). holds_book y.stage) (some-injective o.holder s (sym o.sits ∙ ap (get_elem? seats) e ∙ sits)) ∙ hs))
        ∙ o.sits;
    holds = o.holds;
  })

  module _ (terms : Terms M) (words : List ℕ) (homes : Homes M E R) (seats : List (SeatView M E R))
      (k : IsInTurn next weight terms words homes seats) where
    -- a seat that has a ticket has a part
    pub has_part : (j : ℕ) (x : SeatView M E R) → Sits seats j x → tickets_of x.stage ≡ 1 → 0 < x.parts
    has_part j x e h = let a = k.enough j x e in omega arith

    -- a seat that has the book has a part, and the ticket that is served
    pub holder_served : (j : ℕ) (x : SeatView M E R) → Sits seats j x → holds_book x.stage ≡ true
        → (0 < x.parts) × (tickets_of x.stage ≡ 1) × (ticket_of x.stage ≡ k.served)
    holder_served j x e h =
        let one = holder_has_ticket x.stage h in
        let part = has_part j x e one in
        (part, one, ((k.fit j x e part).held h).0)

    module _ (id : ℕ) (s : SeatView M E R) (sits : Sits seats id s) (part : 0 < s.parts) where
      -- the seat comes to a stage, and only tickets are drawn: the history and the number served stay
      stage_goes : (stage : Stage E) (drawn : ℕ) → k.drawn ≤ drawn → tickets_of stage + k.drawn ≡ tickets_of s.stage + drawn
          → (tickets_of stage ≡ 1 → (k.served ≤ ticket_of stage) × (ticket_of stage < drawn))
          → (holds_book stage ≡ true → (ticket_of stage ≡ k.served) × (taken_of stage ≡ k.history))
          → (tickets_of stage ≡ 1 → (j : ℕ) (x : SeatView M E R) → j ≢ id → Sits seats j x → tickets_of x.stage ≡ 1
          → ticket_of x.stage ≢ ticket_of stage)
          → Goes next weight terms words homes seats k id s (record s { stage = stage }) k.history k.served drawn
      stage_goes stage drawn further tickets queued held apart =
          let f = k.fit id s sits part in
          record {
            sits = sits;
            same = refl;
            part = part;
            extends = extends-itself k.history;
            later = omega arith;
            further = further;
            queued = λ j x n e h. ((k.fit j x e (has_part j x e h)).queued h).0;
            held = λ j x n e h. (refl, refl);
            fits = record {
              terms_are = f.terms_are;
              sound = f.sound;
              extends = f.extends;
              joined = f.joined;
              queued = queued;
              held = held;
              lone = f.lone;
            };
            tickets = omega (arith, tickets);
            places = λ x. refl;
            apart = apart;
            order = λ j x n e h. k.ordered j id x s e sits h part;
            alone = λ l. l;
          }

      -- the ticket that is drawn is the next
      draw_goes : s.stage ≡ Idle → Goes next weight terms words homes seats k id s (with_ticket s k.drawn) k.history k.served (k.drawn + 1)
      draw_goes idle =
          let all = k.tickets in
          let none : tickets_of s.stage ≡ 0 = ap tickets_of idle in
          stage_goes (Waits k.drawn) (k.drawn + 1) (omega arith) (omega arith) (λ h. (omega arith, omega arith))
          (λ h. absurd (true≢false (sym h)))
          (λ one j x n e h same. let q = ((k.fit j x e (has_part j x e h)).queued h).1 in omega arith)

      -- who has the ticket that is served takes the book
      look_goes : tickets_of s.stage ≡ 1 → k.served ≡ ticket_of s.stage
          → Goes next weight terms words homes seats k id s (with_book s k.history) k.history k.served k.drawn
      look_goes waits here =
          let f = k.fit id s sits part in
          stage_goes (Holds (ticket_of s.stage) k.history) k.drawn (omega arith) (omega arith) (λ _. f.queued waits) (λ _. (sym here, refl))
          (λ one j x n e h same. n (k.apart j id x s e sits h waits same))

      -- the book is in its slot, where the ticket that is served is that of a seat without the book
      finds : tickets_of s.stage ≡ 1 → holds_book s.stage ≡ false → k.served ≡ ticket_of s.stage
          → AtHome next weight terms k.history homes seats ⊎ IsAway next weight homes seats → AtHome next weight terms k.history homes seats
      finds waits free here (inl a) = a
      finds waits free here (inr o) =
          let x = holder_served o.seat o.holder o.sits o.holds in
          let same : o.seat ≡ id = k.apart o.seat id o.holder s o.sits sits x.1 waits (x.2 ∙ here) in
          let it = some-injective o.holder s (sym o.sits ∙ ap (get_elem? seats) same ∙ sits) in
          absurd (true≢false (sym o.holds ∙ ap (λ (y : SeatView M E R). holds_book y.stage) it ∙ free))

      -- a ticket that is out is served where its number is
      is_served : tickets_of s.stage ≡ 1 → k.served % 2 ^ 64 ≡ ticket_of s.stage % 2 ^ 64 → k.served ≡ ticket_of s.stage
      is_served waits same =
          let q = (k.fit id s sits part).queued waits in
          let low = q.0 in let high = q.1 in
          let all = k.tickets in let parts = k.parts in
          let few = sum_at_most (λ (x : SeatView M E R). tickets_of x.stage) (λ (x : SeatView M E R). x.parts) seats k.enough in
          one_turn k.served (ticket_of s.stage) (2 ^ 64) low (omega arith) same

      -- a look that changes nothing
      unchanged : IsInTurn next weight terms (k.served % 2 ^ 64 ∷ k.drawn % 2 ^ 64 ∷ []) homes (set seats id s)
      unchanged =
          subst (λ (xs : List (SeatView M E R)). IsInTurn next weight terms (k.served % 2 ^ 64 ∷ k.drawn % 2 ^ 64 ∷ []) homes xs)
          (sym (set_again seats id s sits))
          (subst (λ ws. IsInTurn next weight terms ws homes seats) k.words_are k)

  pub draws : (terms : Terms M) (slots id : ℕ) (s : SeatView M E R) (st : Step (Option (Book M E R))) → 0 < s.parts → s.stage ≡ Idle
      → Allows (Keeps next weight terms) slots id (s, []) 1 (λ n. (n + 1) % 2 ^ 64) (Draws st (s, []))
  draws terms slots id s st part idle t k _ sits _ =
      let P : List ℕ → Type 0 = λ ws. (u : SeatView M E R) × (a : Act (Option (Book M E R))) × Valid t.homes [] a
      × IsInTurn next weight terms (set ws 1 ((slice_index ws 1 + 1) % 2 ^ 64)) (homes_after t.homes [] a) (set t.views id u)
      × Draws st (s, []) (slice_index ws 1) (u, carried_after [] a) in
      subst P (sym k.words_are) (
        with_ticket s k.drawn,
        keeps,
        tt,
        seat_goes next weight terms t.words t.homes t.views k id s (with_ticket s k.drawn) k.history k.served (k.drawn + 1)
            (draw_goes terms t.words t.homes t.views k id s sits part idle)
            (k.served % 2 ^ 64 ∷ (k.drawn % 2 ^ 64 + 1) % 2 ^ 64 ∷ []) t.homes (ap (λ n. k.served % 2 ^ 64 ∷ n ∷ []) (ticket_after k.drawn))
            (same_slot terms k.history id s (with_ticket s k.drawn) t.homes t.views sits (ap holds_book idle) refl k.slot),
        (k.drawn, refl, refl),
      )

  pub looks : (terms : Terms M) (slots id : ℕ) (s : SeatView M E R) (st : Step (Option (Book M E R))) → 0 < s.parts
      → s.stage ≡ Waits (ticket_of s.stage)
      → Allows (Keeps next weight terms) slots id (s, []) 0 (λ n. n) (Looks next weight st (s, []))
  looks terms slots id s st part is t k _ sits _ =
      let waits : tickets_of s.stage ≡ 1 = ap tickets_of is in
      let free : holds_book s.stage ≡ false = ap holds_book is in
      let P : List ℕ → Type 0 = λ ws. (u : SeatView M E R) × (a : Act (Option (Book M E R))) × Valid t.homes [] a
      × IsInTurn next weight terms (set ws 0 (slice_index ws 0)) (homes_after t.homes [] a) (set t.views id u)
      × Looks next weight st (s, []) (slice_index ws 0) (u, carried_after [] a) in
      subst P (sym k.words_are) (dite (ℕ_discrete k.served (ticket_of s.stage))
      (λ here.
      let a = finds terms t.words t.homes t.views k id s sits part waits free here k.slot in
      let u : SeatView M E R = with_book s k.history in
      let f = k.fit id s sits part in (
        u,
        takes 0 (Some a.book),
        ap (λ hs. get_elem? hs 0) a.there,
        seat_goes next weight terms t.words t.homes t.views k id s u k.history k.served k.drawn
            (look_goes terms t.words t.homes t.views k id s sits part waits here)
            (k.served % 2 ^ 64 ∷ k.drawn % 2 ^ 64 ∷ []) (set t.homes 0 none) refl
            (inr (record {
              gone = ap (λ (hs : Homes M E R). set hs 0 none) a.there;
              seat = id;
              holder = u;
              sits = set_here t.views id u (place_within t.views id s sits);
              holds = refl;
            })),
        (
          (λ _. (
            k.history,
            a.book,
            record {
              book = subst (λ q. BookStandsFor next weight q k.history a.book) (sym f.terms_are) a.stands;
              sound = f.sound;
              extends = f.extends;
              lone = f.lone;
            },
            refl,
          )),
          (λ ne. absurd (ne (ap (λ n. n % 2 ^ 64) here))),
        ),
      ))
      (λ ne. (
        s,
        keeps,
        tt,
        unchanged terms t.words t.homes t.views k id s sits part,
        (
          (λ same. absurd (ne (is_served terms t.words t.homes t.views k id s sits part waits same))),
          (λ _. refl),
        ),
      )))

  pub looks_at_rest : (terms : Terms M) (slots id : ℕ) (s : SeatView M E R) (st : Step (Option (Book M E R))) → 0 < s.parts
      → Allows (Keeps next weight terms) slots id (s, []) 0 (λ n. n) (LooksAtRest st (s, []))
  looks_at_rest terms slots id s st part t k _ sits _ =
      let P : List ℕ → Type 0 = λ ws. (u : SeatView M E R) × (a : Act (Option (Book M E R))) × Valid t.homes [] a
      × IsInTurn next weight terms (set ws 0 (slice_index ws 0)) (homes_after t.homes [] a) (set t.views id u)
      × LooksAtRest st (s, []) (slice_index ws 0) (u, carried_after [] a) in
      let f = k.fit id s sits part in
      subst P (sym k.words_are) (
        s,
        keeps,
        tt,
        unchanged terms t.words t.homes t.views k id s sits part,
        (
          refl,
          record {
            view = f.sound;
            joined = f.joined;
            parts = let m = one_within_sum (λ (x : SeatView M E R). x.parts) t.views id s sits in let p = k.parts in omega arith;
          },
        ),
      )
