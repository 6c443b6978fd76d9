-- A change of whose items no end has a mark. In order: what is so of one change (`far_change`); no flip counts (`no_flips`), so
-- the marks are those afterwards (`flags_stay`); the search looks at none of the items, before or afterwards (`far_looked`);
-- so nothing is gathered, and each item tells nothing (`all_settled`).
use Rattle.std.proofs.Common.{◌≡◌, ◌∙◌, inl, inr, ℕ, Bool, true, false, ◌||◌, Option, Some, None, List, [], ◌∷◌, ◌++◌}
use Rattle.std.proofs.Common.{refl, ap, subst}
use Rattle.std.proofs.lemmas.Bool.{and_right, both_ways, or_parts}
use Rattle.std.specs.List.{list_any, filter}
use Rattle.ifmap_ident.specs.declared.identifiers.Identifier.{Identifier}
use Rattle.ifmap_ident.specs.declared.items.Item.{Item}
use Rattle.ifmap_ident.specs.declared.items.Item.TheVariants.{One, Pair}
use Rattle.ifmap_ident.specs.Canon.{IsIdentifier}
use Rattle.ifmap_ident.specs.Items.{IsCanonItem}
use Rattle.ifmap_lemmas.specs.Absent.{none_where_not_some}
use Rattle.ifmap_lemmas.specs.Having.{Has, filter_has, has_either, has_from, map_has, all_has}
use Rattle.ifmap_plans.specs.declared.plans.ItemChange.{ItemChange}
use Rattle.ifmap_region.specs.declared.flips.Flip.{Flip}
use Rattle.ifmap_region.specs.Flips as region
use Rattle.ifmap_search.specs.declared.searches.Search.{Search}
use Rattle.ifmap_view.specs.Views.{IsView}
use Rattle.ifmap_fresh.specs.Fresh.{is_looked_at}
use Rattle.ifmap_fresh.specs.Matching.{is_match}
use Rattle.ifmap_fresh.specs.Numbered.{KeepsWalks}
use Rattle.ifmap_fresh.specs.Reached.{is_expanded, is_reached}
use Rattle.ifmap_delta.specs.declared.locating.LocatedChange.{LocatedChange}
use Rattle.ifmap_delta.specs.Changes.{ShowsAfter}
use Rattle.ifmap_delta.specs.Flipped.{AreFlipsOf, IsFlipAt, is_marked, is_near, is_one_marked}
use Rattle.ifmap_delta.specs.Located.{AreEach, AreLocated, IsLocatedTwice, IsNumberOf}
use Rattle.ifmap_delta.specs.Shown.{goes_on}
use Rattle.ifmap_delta.specs.SeenViews.{AreMarks, Links, ViewSeen, is_terminal_in}
use Rattle.ifmap_delta.specs.Touched.{HasNothingToTell, is_looked_at_either, moved_items, planned_items}
use Rattle.ifmap_delta.proofs.InStep.{number_found, number_none}
use Rattle.ifmap_delta.proofs.Marking.{LevelsExpand, LevelsReach, expanded_is, not_expanded, not_reached, reached_is}
use Rattle.ifmap_delta.proofs.Repairing.{repaired_marks}
use Rattle.ifmap_delta.proofs.Settling.{expanded_before, reached_before, ungathered_stay}
use Rattle.ifmap_delta.proofs.Walking.{depths_over}
use Rattle.ifmap_ident.specs.SameLaws.{BytesTellIdentifiers}

-- of lists in step, no member of the second of which meets a test, each of the first has one that does not
each_far : {X Y : Type 0} (R : X → Y → Type 0) (p : Y → Bool) (xs : List X) (ys : List Y) → AreEach R xs ys
    → list_any p ys ≡ false → (x : X) → Has xs x → (y : Y) × R x y × (p y ≡ false)
each_far R p [] ys a f x h = absurd h
each_far R p (z ∷ xs) [] a f x h = absurd a
each_far R p (z ∷ xs) (y ∷ ys) a f x (inl e) = (y, subst (λ w. R w y) e a.0, (or_parts (p y) (list_any p ys) f).0)
each_far R p (z ∷ xs) (y ∷ ys) a f x (inr h) = each_far R p xs ys a.1 (or_parts (p y) (list_any p ys) f).1 x h

-- an end of a flip that has a mark is one of the item
pub near_flip : (old new : ViewSeen) (s : Search) (mark : ℕ → Option ℕ) (x : Item) (l : LocatedChange) → IsLocatedTwice old new x l
    → (flip : Flip) → IsFlipAt old new s x flip → is_one_marked mark (Some flip.a) (Some flip.b) ≡ true → is_near mark l ≡ true
near_flip old new s mark (One a) l t flip at m = absurd at
near_flip old new s mark (Pair a b) l t flip at m =
    ap (λ o. is_one_marked mark o l.after.second) (t.after.ends.0.only flip.a at.0)
    ∙ ap (λ o. is_one_marked mark (Some flip.a) o) (t.after.ends.1.only flip.b at.1) ∙ m

module _ (tells : BytesTellIdentifiers) (old new : ViewSeen) (s : Search) (was : IsView old.rows old.id_at old.links)
    (is : IsView new.rows new.id_at new.links) (changes : List ItemChange) (change : ShowsAfter old new changes) (start top : ℕ)
    (mark : ℕ → Option ℕ) (before : AreMarks old s start top mark) (located : List LocatedChange)
    (are : AreLocated old new changes located) (far : list_any (is_near mark) located ≡ false) where
  far_change : (c : ItemChange) → Has changes c → (l : LocatedChange) × IsLocatedTwice old new c.item l × (is_near mark l ≡ false)
  far_change = each_far (λ (c : ItemChange) l. IsLocatedTwice old new c.item l) (is_near mark) changes located are far

  -- no flip of the items counts
  pub no_flips : AreFlipsOf old new s mark changes []
  no_flips = record {
    only = λ flip h. absurd h;
    each = λ c flip h at m. absurd (let f = far_change c h
        in both_ways (is_near mark f.0) f.2 (near_flip old new s mark c.item f.0 f.1 flip at m));
  }

  -- the marks are those afterwards
  pub flags_stay : AreMarks new s start top mark
  flags_stay =
      repaired_marks tells old new s was is changes change start top mark before [] no_flips mark
      (depths_over (region.OldLinks (Links new s) []) (Links new s) (is_terminal_in new s) (is_terminal_in new s) start top
      (λ u v t l. (
        t,
        elim l [
          | inl p ↦ p.0
          | inr f ↦ absurd (has_from [] f.0 f.1)
        ],
      ))
      (λ u v t l. (t, inl (l, λ f. absurd (has_from [] f.0 f.1)))) mark)

  module _ (reach : LevelsReach) (expand : LevelsExpand) (keeps : KeepsWalks old.rows old.id_at old.links s start)
      (keeps' : KeepsWalks new.rows new.id_at new.links s start) where
    -- an identifier whose number has no mark is not reached, before or afterwards
    far_reached : (a : Identifier) → IsIdentifier a → (o : Option ℕ) → IsNumberOf new a o → is_marked mark o ≡ false
        → (is_reached old.rows s a ≡ false) × (is_reached new.rows s a ≡ false)
    far_reached a i None n m = (
      not_reached reach expand old s was start top mark before keeps a i
          (λ v e. number_none new a None n refl v (change.numbers v a e)),
      not_reached reach expand new s is start top mark flags_stay keeps' a i (number_none new a None n refl),
    )
    far_reached a i (Some v) n m = (
      reached_before tells reach expand old new s was is changes change start top start top mark mark before flags_stay keeps keeps'
          v a (number_found new a (Some v) v n refl) ∙ m,
      reached_is reach expand new s is start top mark flags_stay keeps' v a (number_found new a (Some v) v n refl) ∙ m,
    )

    -- and no walk goes on from it
    far_expanded : (a : Identifier) → IsIdentifier a → (o : Option ℕ) → IsNumberOf new a o → is_marked mark o ≡ false
        → (is_expanded old.rows s a ≡ false) × (is_expanded new.rows s a ≡ false)
    far_expanded a i None n m = (
      not_expanded reach expand old s was start top mark before keeps a i
          (λ v e. number_none new a None n refl v (change.numbers v a e)),
      not_expanded reach expand new s is start top mark flags_stay keeps' a i (number_none new a None n refl),
    )
    far_expanded a i (Some v) n m =
        let none : goes_on s (new.id_at v) (mark v) ≡ false = ap (goes_on s (new.id_at v)) (none_where_not_some (mark v) m)
        in (
          expanded_before tells reach expand old new s was is changes change start top start top mark mark before flags_stay keeps keeps'
              v a (number_found new a (Some v) v n refl) ∙ none,
          expanded_is reach expand new s is start top mark flags_stay keeps' v a (number_found new a (Some v) v n refl) ∙ none,
        )

    far_at : (x : Item) → IsCanonItem x → (l : LocatedChange) → IsLocatedTwice old new x l → is_near mark l ≡ false
        → is_looked_at_either old new s x ≡ false
    far_at (One a) i l t f =
        let n = or_parts (is_marked mark l.after.first) (is_marked mark l.after.second) f
        in let r = far_reached a i.identifiers.0 l.after.first t.after.ends n.0
        in ap (λ c. c || is_reached new.rows s a) r.0 ∙ r.1
    far_at (Pair a b) i l t f =
        let n = or_parts (is_marked mark l.after.first) (is_marked mark l.after.second) f
        in let p = far_expanded a i.identifiers.0 l.after.first t.after.ends.0 n.0
        in let q = far_expanded b i.identifiers.1.0 l.after.second t.after.ends.1 n.1
        in let out : is_looked_at old.rows s (Pair a b) ≡ false = and_right (is_match old.rows s.match_links a b)
        (is_expanded old.rows s a || is_expanded old.rows s b) (ap (λ c. c || is_expanded old.rows s b) p.0 ∙ q.0)
        in let out' : is_looked_at new.rows s (Pair a b) ≡ false = and_right (is_match new.rows s.match_links a b)
        (is_expanded new.rows s a || is_expanded new.rows s b) (ap (λ c. c || is_expanded new.rows s b) p.1 ∙ q.1)
        in ap (λ c. c || is_looked_at new.rows s (Pair a b)) out ∙ out'

    -- the search looks at none of the items
    far_looked : (c : ItemChange) → Has changes c → is_looked_at_either old new s c.item ≡ false
    far_looked c h =
        let f = far_change c h in far_at c.item (all_has (λ d. IsCanonItem d.item) changes change.canon c h) f.0 f.1 f.2

    none_gathered : (x : Item) → Has (planned_items (is_looked_at_either old new s) changes ++ moved_items new s mark mark []) x → ⊥
    none_gathered x h = elim (has_either (planned_items (is_looked_at_either old new s) changes) (moved_items new s mark mark []) x h) [
      | inl k ↦ let looks : ItemChange → Bool = λ d. is_looked_at_either old new s d.item
          in let m = map_has (λ (d : ItemChange). d.item) (filter looks changes) x k
          in let p = filter_has looks changes m.0 m.1
          in both_ways (looks m.0) (far_looked m.0 p.0) p.1
      | inr k ↦ k
    ]

    -- each item tells nothing
    pub all_settled : (x : Item) → IsCanonItem x → HasNothingToTell old new s x
    all_settled x i =
        ungathered_stay tells reach expand old new s was is changes change start top start top mark mark before flags_stay keeps keeps' []
        (λ v d. absurd (d refl)) x i (none_gathered x)
