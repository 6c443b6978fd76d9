-- What the rule says of the book that lies in its slot.
use Rattle.std.proofs.Common.{◌≡◌, ℕ, ◌-◌, ◌<◌, ◌⊎◌, inl, inr, List, [], ◌∷◌, length, sym, ap, subst, ◌∙◌, arith, length-drop}
use Rattle.std.specs.Prelude.{Option, Some}
use Rattle.atomic_table.specs.Table.{State}
use mathlib.Core.Option.{some}
use Rattle.ifmap_hall.specs.Books.{IsBook, sight_of, end_of_book}
use Rattle.ifmap_hall.specs.Histories.{BookStandsFor}
use Rattle.ifmap_hall.specs.Places.{once_below}
use Rattle.ifmap_hall.specs.Rule.{AreSharedOut, AtHome, Homes, IsAway, Keeping, Sits}
use Rattle.ifmap_hall.specs.Sights.{CarriesOn}
use Rattle.ifmap_hall.specs.Views.{sight_by}
use Rattle.ifmap_hall.specs.declared.book.Book.{Book}
use Rattle.ifmap_hall.specs.declared.view.HallHistory.{HallHistory}
use Rattle.ifmap_hall.specs.declared.view.SeatView.{SeatView}
use Rattle.ifmap_hall.specs.declared.view.Terms.{Terms}
use Rattle.ifmap_hall.proofs.Sighting.{found_carries}

module _ {M E R : Type 0} (next : M → E → M) (weight : E → ℕ) where
  stands_there : (terms : Terms M) (h : HallHistory E) (homes : Homes M E R) (seats : List (SeatView M E R)) (b : Book M E R)
      → homes ≡ some (Some b) ∷ [] → AtHome next weight terms h homes seats ⊎ IsAway next weight homes seats
      → BookStandsFor next weight terms h b
  stands_there terms h homes seats b lies (inl home) =
      let same : home.book ≡ b = cc (home.there, lies) in subst (λ (x : Book M E R). BookStandsFor next weight terms h x) same home.stands
  stands_there terms h homes seats b lies (inr out) = cc (out.gone, lies)

  module _ (terms : Terms M) (t : State (Option (Book M E R)) (SeatView M E R)) (b : Book M E R) (k : Keeping next weight terms t b) where
    stands : BookStandsFor next weight terms k.0.history b
    stands = stands_there terms k.0.history t.homes t.views b k.1 k.0.slot

    pub in_order : IsBook next weight b
    in_order = stands.book

    pub carries_each : (i : ℕ) (s : SeatView M E R) → Sits t.views i s → 0 < s.parts → CarriesOn next (sight_by next s.view) (sight_of b)
    carries_each i s sits part =
        let fit = k.0.fit i s sits part in
        found_carries next weight s.view k.0.history b fit.sound.inside
        (record {
          book = subst (λ (q : Terms M). BookStandsFor next weight q k.0.history b) (sym fit.terms_are) stands;
          sound = fit.sound;
          extends = fit.extends;
          lone = fit.lone;
        })

    ends : length k.0.history.log ≡ end_of_book b
    ends =
        let l : length b.journal.items ≡ length k.0.history.log - k.0.history.from = ap (λ s. length s.seen) stands.sight
        ∙ length-drop k.0.history.from k.0.history.log in
        let f : b.from ≡ k.0.history.from = ap (λ s. s.from) stands.sight in
        let i = stands.inside in omega arith

    pub shared_out : AreSharedOut t.views (end_of_book b)
    shared_out x = k.0.places x ∙ ap (once_below x) ends
