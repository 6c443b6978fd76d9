-- A new hall keeps the rule.
use Rattle.std.proofs.Common.{◌≡◌, ℕ, ◌*◌, ◌≤◌, List, [], ◌∷◌, length, map, nat_lt, cond, false, refl, sym, ap, subst, ◌∙◌, inl, arith}
use Rattle.std.proofs.lemmas.List.Elements.{All-nil}
use Rattle.std.proofs.lemmas.Bool.Decides.{nat_tests}
use mathlib.Core.Option.{some}
use Rattle.std.specs.Prelude.{Option, Some}
use Rattle.std.specs.List.{sum_by}
use Rattle.ifmap_hall.specs.Histories.{OneExtendsOther, BookStandsFor, no_history}
use Rattle.ifmap_hall.specs.Places.{times}
use Rattle.ifmap_hall.specs.Rule.{Sits, SeatFits, IsInTurn}
use Rattle.ifmap_hall.specs.SeatViews.{tickets_of, holds_book, first_seat}
use Rattle.ifmap_hall.specs.Sights.{run}
use Rattle.ifmap_hall.specs.declared.book.Book.{Book}
use Rattle.ifmap_hall.specs.declared.view.SeatView.{SeatView}
use Rattle.ifmap_hall.specs.declared.view.Terms.{Terms}
use Rattle.ifmap_hall.proofs.Extending.{extends-itself}
use Rattle.std.proofs.lemmas.Bool.{true≢false}
use Rattle.ifmap_lemmas.specs.Elements.{only_place}
use Rattle.ifmap_lemmas.specs.Sums.{sum_one}

module _ {M E R : Type 0} (next : M → E → M) (weight : E → ℕ) where
  -- a book with nothing in it
  pub stands_for_none : (terms : Terms M) (b : Book M E R) → b.machine ≡ b.base → b.base ≡ terms.opening.value → b.from ≡ 0
      → b.journal.items ≡ [] → b.bytes ≡ 0
      → b.limit ≡ terms.limit → b.heaviest ≡ terms.heaviest → 2 * terms.heaviest ≤ terms.limit
      → BookStandsFor next weight terms no_history b
  stands_for_none terms b same opened start none_yet light limit heaviest room = record {
    book = record {
      state = same ∙ sym (ap (run next b.base) none_yet);
      weighed = light ∙ sym (ap (λ (xs : List (ℕ × E)). sum_by (λ (e : ℕ × E). weight e.1) xs) none_yet);
      within = omega arith;
      each = rw none_yet (All-nil (λ (e : ℕ × E). weight e.1 ≤ b.heaviest));
      room = omega arith;
      full = λ h. absurd (omega arith);
      places = let l = ap length none_yet in omega arith;
    };
    limit = limit;
    heaviest = heaviest;
    inside = omega arith;
    sight = λ i. record { from = start i; base = opened i; seen = none_yet i };
  }

  pub opens : (terms : Terms M) (b : Book M E R) (slots : List (Option (Book M E R))) → slots ≡ Some b ∷ []
      → BookStandsFor next weight terms no_history b
      → IsInTurn next weight terms (0 ∷ 0 ∷ []) (map some slots) (first_seat terms ∷ [])
  opens terms b slots e stands =
      let s : SeatView M E R = first_seat terms in
      let is = λ (i : ℕ) (x : SeatView M E R) (h : Sits (s ∷ []) i x). only_place s i x h in
      record {
        history = no_history;
        served = 0;
        drawn = 0;
        words_are = refl;
        slot = inl (record {
          book = b;
          there = ap (map some) e;
          stands = stands;
          free = λ i x h. ap (λ (y : SeatView M E R). holds_book y.stage) (sym (is i x h).1);
        });
        parts = sum_one (λ (x : SeatView M E R). x.parts) s ∙ omega arith;
        enough = λ i x h. subst (λ (y : SeatView M E R). tickets_of y.stage ≤ y.parts) (is i x h).1 (omega arith);
        spent = λ i x h z. (
          ap (λ (y : SeatView M E R). y.view.mine) (sym (is i x h).1),
          ap (λ (y : SeatView M E R). holds_book y.stage)
              (sym (is i x h).1),
        );
        tickets = omega (arith, sum_one (λ (x : SeatView M E R). tickets_of x.stage) s);
        apart = λ i j x y h k _ _ _. (is i x h).0 ∙ sym (is j y k).0;
        places = λ x. let e : nat_lt x 0 ≡ false = grind (arith, nat_tests) in sum_one (λ (y : SeatView M E R). times x y.view.mine) s
            ∙ sym (ap (λ b. cond b 1 0) e);
        fit = λ i x h _. subst (λ (y : SeatView M E R). SeatFits terms no_history 0 0 y) (is i x h).1 (record {
          terms_are = refl;
          sound = record { inside = omega arith; mine = omega arith };
          extends = extends-itself no_history;
          joined = extends-itself no_history;
          queued = λ q. absurd (omega arith);
          held = λ q. absurd (true≢false (sym q));
          lone = λ _. refl;
        });
        ordered = λ i j x y h k _ _. subst (λ (z : SeatView M E R). OneExtendsOther x.view.history z.view.history)
            (sym (is i x h).1 ∙ (is j y k).1) (inl (extends-itself x.view.history));
        alone = λ i x h _. refl;
      }
