-- From the ticket that was drawn to the turn that was passed on: what the seat knows at each step between.
use Rattle.std.proofs.Common.{◌≡◌, ℕ, ◌<◌, List, [], ◌∷◌, refl, sym, ap, subst, ◌∙◌}
use Rattle.std.proofs.lemmas.Option.{same_Some}
use Rattle.std.specs.Prelude.{Option, Some, None}
use Rattle.atomic_table.specs.Table.{rest}
use Rattle.ifmap_hall.specs.Plays.{Seated, FindsBook, TakesBook, WentOn}
use Rattle.ifmap_hall.specs.SeatViews.{with_ticket, with_book, after_turn, HoldsBook, IsAtRest, IsWaiting}
use Rattle.ifmap_hall.specs.declared.book.Book.{Book}
use Rattle.ifmap_hall.specs.declared.view.HallHistory.{HallHistory}
use Rattle.ifmap_hall.specs.declared.view.SeatView.{SeatView}

module _ {M E R : Type 0} where
  slot_of : List (ℕ × Option (Book M E R)) → Option (Book M E R)
  slot_of [] = None
  slot_of (x ∷ xs) = x.1

  first_is : (c : List (ℕ × Option (Book M E R))) (b book : Book M E R) (tail : List (ℕ × Option (Book M E R))) → c ≡ (0, Some b) ∷ []
      → c ≡ (0, Some book) ∷ tail → b ≡ book
  unfolding slot_of
  first_is c b book tail e f = same_Some b book (ap slot_of (sym e ∙ f))

  -- a seat that drew a ticket waits
  pub waits_drawn : (m n : Seated M E R) (t : ℕ) → IsAtRest m → n ≡ (with_ticket m.0 t, []) → IsWaiting n
  waits_drawn m n t r e = subst IsWaiting (sym e) (record { slots = refl; waits = refl; part = r.part })

  pub lies_first : (m : Seated M E R) (s : SeatView M E R) (b : Book M E R) → m ≡ (s, (0, Some b) ∷ []) → m.1 ≡ (0, Some b) ∷ rest m.1
  lies_first m s b e = ap (λ n. n.1) e ∙ ap (λ (r : List (ℕ × Option (Book M E R))). (0, Some b) ∷ r) (sym (ap (λ n. rest n.1) e))

  module _ (next : M → E → M) (weight : E → ℕ) where
    -- what was in the slot is a book that the pass may find
    pub finds_book : (m n o : Seated M E R) (t : ℕ) (found : Option (Book M E R)) (book : Book M E R) → n ≡ (with_ticket m.0 t, [])
        → (s : TakesBook next weight n.0 o)
        → o.1 ≡ (0, found) ∷ rest o.1 → found ≡ Some book → FindsBook next weight m.0.view s.0 book
    finds_book m n o t found book drawn s lies is =
        let same = first_is o.1 s.1 book (rest o.1) (ap (λ p. p.1) s.3) (lies ∙ ap (λ (r : Option (Book M E R)). (0, r) ∷ rest o.1) is) in
        subst (λ b. FindsBook next weight m.0.view s.0 b) same
        (subst (λ (p : Seated M E R). FindsBook next weight p.0.view s.0 s.1) drawn s.2)

    -- the seat with the book that it gives back
    pub brings_book : (m n o p q : Seated M E R) (t : ℕ) (b : Book M E R) → n ≡ (with_ticket m.0 t, []) → (s : TakesBook next weight n.0 o)
        → p ≡ (o.0, (0, None) ∷ rest o.1) → q ≡ (p.0, (0, Some b) ∷ rest p.1) → q ≡ (with_book (with_ticket m.0 t) s.0, (0, Some b) ∷ [])
    brings_book m n o p q t b drawn s emptied filled =
        filled ∙ ap (λ (r : Seated M E R). (r.0, (0, Some b) ∷ rest r.1)) emptied
        ∙ ap (λ (r : Seated M E R). (r.0, (0, Some b) ∷ rest r.1)) s.3
        ∙ ap (λ (r : Seated M E R). (with_book r.0 s.0, (0, Some b) ∷ [])) drawn

  pub holds_brought : (m : Seated M E R) (s : SeatView M E R) (t : ℕ) (h : HallHistory E) (b : Book M E R) → 0 < s.parts
      → m ≡ (with_book (with_ticket s t) h, (0, Some b) ∷ []) → HoldsBook m.0
  holds_brought m s t h b part e = subst (λ (n : Seated M E R). HoldsBook n.0) (sym e) (record { holds = refl; part = part })

  -- the seat after the turn
  pub goes_on_to : (next : M → E → M) (reply : M → E → R) (m n : Seated M E R) (s : SeatView M E R) (b : Book M E R)
      → m ≡ (s, (0, Some b) ∷ []) → WentOn next reply m n → n ≡ (after_turn next reply s b, [])
  goes_on_to next reply m n s b e w =
      let same = first_is m.1 b w.0 [] (ap (λ p. p.1) e) w.1 in
      w.2 ∙ ap (λ (p : Seated M E R). (after_turn next reply p.0 w.0, [])) e
      ∙ ap (λ (c : Book M E R). (after_turn next reply s c, [])) (sym same)
