-- How a subscription starts in a graph: its number is held (`held_steady`), it stands with that number (`stands_steady`), or the number is
-- let go of (`let_go_steady`), and nothing else that is seen changes (`held_alone`, `held_and_let_go`).
use Rattle.std.proofs.Common.{◌≡◌, ℕ, ◌+◌, ◌-◌, ◌<◌, ◌≤◌, Option, Some, None, IsSome, IfSome, option_to_list, List, [], ◌∷◌, ◌++◌, option_map, refl, ap, ◌∙◌, sym, subst, arith, inl, inr, append-nil}
use Rattle.std.proofs.lemmas.List.Sums.{sum_by_push}
use Rattle.std.proofs.lemmas.Option.{same_Some}
use Rattle.std.specs.List.{AllByRecursion}
use Rattle.ifmap_changes.specs.Between.{IsSteady, seen_now, starts_of, HasStartNumber}
use Rattle.ifmap_changes.specs.ifmap_delta.SeenViews.{IsUpToDate}
use Rattle.ifmap_changes.specs.ifmap_graph.Back.{KeepsBacks}
use Rattle.ifmap_changes.specs.ifmap_graph.Inside.{GraphInside, IsOwn}
use Rattle.ifmap_changes.specs.ifmap_graph.Named.{uses_in}
use Rattle.ifmap_changes.specs.ifmap_graph.Seen.{AwaitsMore, IsStill, KeepsNumbers, StaysLean, links_now, rows_now}
use Rattle.ifmap_changes.specs.ifmap_graph.Shelved.{list_at, rows_by}
use Rattle.ifmap_changes.specs.ifmap_graph.Sides.{list_now}
use Rattle.ifmap_changes.specs.ifmap_graph.Turning.{sides_at}
use Rattle.ifmap_ident.specs.declared.identifiers.Identifier.{Identifier}
use Rattle.ifmap_ident.specs.Identifiers.{identifier_bytes, identifier_order}
use Rattle.ifmap_lemmas.specs.AnyOf.{all_members}
use Rattle.ifmap_lemmas.specs.Filters.{all_weaker}
use Rattle.ifmap_lemmas.specs.Having.{Has}
use Rattle.ifmap_lemmas.specs.Members.{both_all}
use Rattle.ifmap_lemmas.specs.Sums.{member_within_sum}
use Rattle.ifmap_lemmas.specs.Texts.{same_texts}
use Rattle.ifmap_changes.specs.ifmap_plans.Plans.{AreWhole}
use Rattle.ifmap_changes.specs.ifmap_pool.Holdings.{IsHeld, holds_at, key_at, once}
use Rattle.ifmap_search.specs.declared.searches.Search.{Search}
use Rattle.ifmap_changes.specs.ifmap_standing.declared.standing.Standing.{Standing}
use Rattle.ifmap_subscribes.specs.Readying.{GraphHolds, IsHolding, IsReleased}
use Rattle.ifmap_changes.specs.ifmap_view.Views.{IsView}
use Rattle.ifmap_changes.specs.ifmap_graph.NumberLaws.{once_itself}
use Rattle.ifmap_ident.specs.SameLaws.{BytesTellIdentifiers}

-- ---- lists

starts_more : (a : Identifier) (standing : List Standing) (x : Standing)
    → starts_of a (standing ++ x ∷ []) ≡ starts_of a standing + once identifier_order x.subscription.search.start a
starts_more a standing x = sum_by_push (λ y. once identifier_order y.subscription.search.start a) standing x

-- ---- a number is held

pub held_steady : (old new : GraphInside) (standing : List Standing) (v : ℕ) (start : Identifier) → IsSteady old standing
    → new.shelves ≡ old.shelves → (IsStill old → IsStill new) → KeepsNumbers old new
    → ((a : Identifier) (own : ℕ) → IsOwn old a own → IsOwn new a (own + once identifier_order start a))
    → key_at new.names v ≡ Some start → IsHolding new standing v start
held_steady old new standing v start was shelves still kept own named = record {
  still = still was.still;
  whole = subst (λ s. AreWhole (rows_by (list_at list_now) s)) (sym shelves) was.whole;
  own = λ a. own a (starts_of a standing) (was.own a);
  numbered = all_weaker (HasStartNumber old) (HasStartNumber new) (λ x e. kept x.subscription.region.start x.subscription.search.start e)
      standing
      was.numbered;
  start = named;
}

-- at want of memory
own_alike : (old new : GraphInside) (a : Identifier) (own : ℕ) → new.shelves ≡ old.shelves → new.names.live ≡ old.names.live
    → IsOwn old a own → IsOwn new a own
own_alike old new a own shelves live held =
    subst (λ s. IsHeld identifier_order new.names a (uses_in s a + own)) (sym shelves)
    (subst (λ l. IsHeld identifier_order (record new.names { live = l }) a (uses_in old.shelves a + own)) (sym live) held)

pub unheld_steady : (old new : GraphInside) (standing : List Standing) → IsSteady old standing → new.shelves ≡ old.shelves
    → (IsStill old → IsStill new) → KeepsNumbers old new → new.names.live ≡ old.names.live → IsSteady new standing
unheld_steady old new standing was shelves still kept live = record {
  still = still was.still;
  whole = subst (λ s. AreWhole (rows_by (list_at list_now) s)) (sym shelves) was.whole;
  own = λ a. own_alike old new a (starts_of a standing) shelves live (was.own a);
  numbered = all_weaker (HasStartNumber old) (HasStartNumber new) (λ x e. kept x.subscription.region.start x.subscription.search.start e)
      standing
      was.numbered;
}

-- what is held can be let go of
pub held_out : (h : GraphInside) (standing : List Standing) (v : ℕ) (start : Identifier) → IsHolding h standing v start
    → (a : Identifier) × (own : ℕ) × (key_at h.names v ≡ Some a) × IsOwn h a own × (0 < own)
held_out h standing v start was = (
  start,
  starts_of start standing + once identifier_order start start,
  was.start,
  was.own start,
  let one = once_itself start in omega (arith, one),
)

-- ---- a subscription stands with it

pub stands_steady : (h : GraphInside) (standing : List Standing) (v : ℕ) (start : Identifier) (x : Standing) → IsHolding h standing v start
    → x.subscription.search.start ≡ start → x.subscription.region.start ≡ v → IsSteady h (standing ++ x ∷ [])
stands_steady h standing v start x was starts at = record {
  still = was.still;
  whole = was.whole;
  own = λ a. subst (λ n. IsOwn h a n)
      (ap (λ i. starts_of a standing + once identifier_order i a) (sym starts) ∙ sym (starts_more a standing x)) (was.own a);
  numbered = both_all (HasStartNumber h) standing (x ∷ []) was.numbered (ap (key_at h.names) at ∙ was.start ∙ ap Some (sym starts), tt);
}

-- ---- or it is let go of

module _ (h : GraphInside) (standing : List Standing) (v : ℕ) (start : Identifier) (was : IsHolding h standing v start)
    (view : IsView (rows_now h) (key_at h.names) (links_now h)) (tells : BytesTellIdentifiers) where
  -- the identifier that it has is held by a subscription too, where one starts there
  twice : (x : Standing) → Has standing x → HasStartNumber h x → x.subscription.region.start ≡ v → 1 < holds_at h.names v
  twice x there mine at =
      let same : x.subscription.search.start ≡ start =
      same_Some x.subscription.search.start start (sym mine ∙ ap (key_at h.names) at ∙ was.start) in
      let one : once identifier_order x.subscription.search.start start ≡ 1 =
      ap (λ i. once identifier_order i start) same ∙ once_itself start in
      let some : once identifier_order x.subscription.search.start start ≤ starts_of start standing =
      member_within_sum (λ y. once identifier_order y.subscription.search.start start) standing x there in
      let me : once identifier_order start start ≡ 1 = once_itself start in
      elim (was.own start) [
        | inl held ↦
            let key : key_at h.names held.0 ≡ Some held.1.0.0 = ap (λ o. option_map (λ (e : Identifier × ℕ). e.0) o) held.1.1 in
            let is : held.1.0.0 ≡ start =
            tells held.1.0.0 start (view.canon held.0 held.1.0.0 key) (view.canon v start was.start)
            (same_texts (identifier_bytes held.1.0.0) (identifier_bytes start) held.1.2) in
            let number : held.0 ≡ v = view.one_to_one held.0 v start (key ∙ ap Some is) was.start in
            let count : holds_at h.names held.0
            ≡ uses_in h.shelves start + (starts_of start standing + once identifier_order start start)
            = held.2 in
            subst (λ n. 1 < holds_at h.names n) number (omega (arith, count, some, one, me))
        | inr none ↦
            let count : uses_in h.shelves start + (starts_of start standing + once identifier_order start start) ≡ 0 = none.1 in
            absurd (omega (arith, count, me))
      ]

  pub let_go_steady : (new : GraphInside) → new.shelves ≡ h.shelves → (IsStill h → IsStill new)
      → ((a other : Identifier) (own : ℕ) → key_at h.names v ≡ Some a → IsOwn h other own
      → IsOwn new other (own - once identifier_order a other))
      → ((w : ℕ) → (w ≡ v → 1 < holds_at h.names w) → key_at new.names w ≡ key_at h.names w) → IsSteady new standing
  let_go_steady new shelves still own stays = record {
    still = still was.still;
    whole = subst (λ s. AreWhole (rows_by (list_at list_now) s)) (sym shelves) was.whole;
    own = λ a. subst (λ n. IsOwn new a n) (omega arith)
        (own start a (starts_of a standing + once identifier_order start a) was.start (was.own a));
    numbered = all_members (HasStartNumber h) (HasStartNumber new) standing
        (λ x there mine. stays x.subscription.region.start
        (λ at. subst (λ n. 1 < holds_at h.names n) (sym at) (twice x there mine at)) ∙ mine) was.numbered;
  }

-- a subscription that is to stand has the number, or there is none and the number is let go of
pub ends_steady : (mid new : GraphInside) (standing : List Standing) (v : ℕ) (search : Search) (o : Option Standing)
    → IsHolding mid standing v search.start → (o ≡ None → IsSteady new standing) → IfSome o (λ x. new ≡ mid)
    → AllByRecursion (λ x. (x.subscription.search ≡ search) × (x.subscription.region.start ≡ v) × IsUpToDate (seen_now mid) x.subscription)
    (option_to_list o) → IsSteady new (standing ++ option_to_list o)
ends_steady mid new standing v search None held unused used begun =
    subst (λ l. IsSteady new l) (sym (append-nil standing)) (unused refl)
ends_steady mid new standing v search (Some x) held unused used begun =
    subst (λ h. IsSteady h (standing ++ x ∷ [])) (sym used)
    (stands_steady mid standing v search.start x held (ap (λ s. s.start) begun.0.0) begun.0.1)

-- ---- nothing else that is seen changes

pub held_alone : (old new : GraphInside) → new.shelves ≡ old.shelves → ((v : ℕ) → sides_at new.links v ≡ sides_at old.links v)
    → KeepsNumbers old new → KeepsBacks old new → AwaitsMore [] old new → StaysLean old new → GraphHolds old new
held_alone old new shelves links numbers backs waits lean = record {
  rows = ap (rows_by (list_at list_now)) shelves;
  links = λ v. ap (λ s. s.now) (links v);
  numbers = numbers;
  backs = backs;
  waits = waits;
  lean = lean;
}

-- held and let go of again, a number stays where it was there before
pub held_and_let_go : (old mid new : GraphInside) (v : ℕ) → GraphHolds old mid → IsReleased mid new
    → (IsSome (key_at old.names v) → 1 < holds_at mid.names v)
    → ((w : ℕ) → (w ≡ v → 1 < holds_at mid.names w) → key_at new.names w ≡ key_at mid.names w) → GraphHolds old new
held_and_let_go old mid new v held gone again stays = record {
  rows = gone.rows ∙ held.rows;
  links = λ w. gone.links w ∙ held.links w;
  numbers = λ w a e. stays w (λ same. subst (λ n. 1 < holds_at mid.names n) (sym same)
      (again (subst (λ n. IsSome (key_at old.names n)) same (subst (λ o. IsSome o) (sym e) refl)))) ∙ held.numbers w a e;
  backs = λ u rows links w. gone.backs u rows links (held.backs u rows links w);
  waits = λ rest w. gone.waits rest (held.waits rest w);
  lean = λ rest l. gone.lean rest (held.lean rest l);
}
