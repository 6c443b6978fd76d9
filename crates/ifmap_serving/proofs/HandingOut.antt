-- Stands that are handed their passes one after another, and then served.
use Rattle.std.proofs.Common.{◌≡◌, ◌≢◌, ℕ, ◌+◌, ◌<◌, ◌≤◌, Bool, true, false, List, length, nat_eq, slice_index_or, slice_set, refl, sym, ap, subst, ◌∙◌, arith}
use Rattle.std.specs.Prelude.{IfSome}
use Rattle.std.proofs.lemmas.Bool.Decides.{nat_tests}
use Rattle.std.proofs.lemmas.List.{get_or-set_same, get_or-set_other}
use Rattle.ifmap_desks.specs.declared.events.FitEvent.{FitEvent}
use Rattle.ifmap_desks.specs.declared.machine.CoreMachine.{CoreMachine}
use Rattle.ifmap_hall.specs.declared.view.HallView.{HallView}
use Rattle.ifmap_hall.specs.Passes.{IsOf, view_of}
use Rattle.ifmap_hall.specs.Views.{IsSoundView, given_view, kept_view}
use Rattle.ifmap_desks.specs.ifmap_machine.declared.events.Answer.{Answer}
use Rattle.ifmap_serving.specs.declared.stands.Stand.{Stand}
use Rattle.ifmap_serving.specs.Stands.{IsReadied, IsServerView, IsStandServed, OpensServer, ServerHall, WorksBy, words_at}
use Rattle.ifmap_serving.specs.Works.{DoorSeen}

-- a pass that was split from, and one that was split off
pub opens_kept : (v w : HallView CoreMachine FitEvent Answer) → OpensServer v → w ≡ kept_view v → IsSoundView w → OpensServer w
opens_kept v w o is sound = record {
  view = record {
    opening = ap (λ (x : HallView CoreMachine FitEvent Answer). x.terms.opening.value) is ∙ o.view.opening;
    limit = ap (λ (x : HallView CoreMachine FitEvent Answer). x.terms.limit) is ∙ o.view.limit;
    heaviest = ap (λ (x : HallView CoreMachine FitEvent Answer). x.terms.heaviest) is ∙ o.view.heaviest;
    sound = sound;
  };
  idle = ap (λ (x : HallView CoreMachine FitEvent Answer). x.turns) is ∙ o.idle;
  asked_none = ap (λ (x : HallView CoreMachine FitEvent Answer). x.mine) is ∙ o.asked_none;
  silent = ap (λ (x : HallView CoreMachine FitEvent Answer). x.said) is ∙ o.silent;
}

pub opens_given : (v w : HallView CoreMachine FitEvent Answer) → OpensServer v → w ≡ given_view v → IsSoundView w → OpensServer w
opens_given v w o is sound = record {
  view = record {
    opening = ap (λ (x : HallView CoreMachine FitEvent Answer). x.terms.opening.value) is ∙ o.view.opening;
    limit = ap (λ (x : HallView CoreMachine FitEvent Answer). x.terms.limit) is ∙ o.view.limit;
    heaviest = ap (λ (x : HallView CoreMachine FitEvent Answer). x.terms.heaviest) is ∙ o.view.heaviest;
    sound = sound;
  };
  idle = ap (λ (x : HallView CoreMachine FitEvent Answer). x.turns) is;
  asked_none = ap (λ (x : HallView CoreMachine FitEvent Answer). x.mine) is;
  silent = ap (λ (x : HallView CoreMachine FitEvent Answer). x.said) is;
}

module _ {D G : Type 0} (hall : ServerHall) (before items : List (Stand D G)) (index : ℕ) (made : Stand D G) where
  -- the stand at the index is ready too
  pub readied_more : index < length items
      → ((k : ℕ) (d : Stand D G) → k < index → IsReadied hall k (slice_index_or before k d) (slice_index_or items k d))
      → ((d : Stand D G) → IsReadied hall index (slice_index_or before index d) made)
      → (k : ℕ) (d : Stand D G) → k < index + 1
      → IsReadied hall k (slice_index_or before k d) (slice_index_or (slice_set items index made) k d)
  readied_more lt done this k d less = by_test (nat_eq k index) refl where
    by_test : (b : Bool) → nat_eq k index ≡ b
        → IsReadied hall k (slice_index_or before k d) (slice_index_or (slice_set items index made) k d)
    by_test true is =
        let same : k ≡ index = grind (arith, nat_tests) in
        subst (λ (n : ℕ). IsReadied hall n (slice_index_or before n d) (slice_index_or (slice_set items index made) n d)) (sym same)
        (subst (λ (s : Stand D G). IsReadied hall index (slice_index_or before index d) s) (sym (get_or-set_same items index made d lt))
        (this d))
    by_test false is =
        let other : k ≢ index = grind (arith, nat_tests) in
        subst (λ (s : Stand D G). IsReadied hall k (slice_index_or before k d) s) (sym (get_or-set_other items index k made d other))
        (done k d (omega (arith, less, other)))

  -- those after it are as they were
  pub unread_more : ((k : ℕ) (d : Stand D G) → index ≤ k → k < length items → slice_index_or items k d ≡ slice_index_or before k d)
      → (k : ℕ) (d : Stand D G) → index + 1 ≤ k → k < length items
      → slice_index_or (slice_set items index made) k d ≡ slice_index_or before k d
  unread_more rest k d after lt = get_or-set_other items index k made d (λ e. omega (arith, e, after)) ∙ rest k d (omega (arith, after)) lt

-- the stand was ready, and then a worker worked there
pub stand_served : {D G : Type 0} (gives : ℕ → Type 0) (see : D → DoorSeen) (key : List ℕ) (hall : ServerHall) (place : ℕ)
    (before mid after : Stand D G) → IsReadied hall place before mid → IsStandServed gives see key hall mid.place mid after
    → IsStandServed gives see key hall place before after
stand_served {D} gives see key hall place before mid after r w = record {
  place_is = w.place_is ∙ r.place_is;
  some = w.some;
  pass = subst (λ (door : D). IfSome after.pass (λ p. IsOf hall p × IsServerView (view_of p)
      × WorksBy gives hall (words_at key place) (view_of p) (see door) (see after.door) after.status)) r.door
      (subst (λ (n : ℕ). IfSome after.pass (λ p. IsOf hall p × IsServerView (view_of p)
      × WorksBy gives hall (words_at key n) (view_of p) (see mid.door) (see after.door) after.status)) r.place_is w.pass);
}
