-- Depths over a view's links are those over the region's words for them, and what the region says is near is near. In order:
-- walks along links that are the same (`depth_over`), or the same from where walks end (`near_to`); the marks before the change
-- (`old_depths`); depths over the links that stay, of which the region has more, between the same before and after
-- (`mid_depth`); what is near (`near_there`); a number whose mark changes is near (`moved_near`); the steps of looking along what
-- turned (`turned_within`).
use Rattle.std.proofs.Common.{◌≡◌, ◌≢◌, ◌↔◌, ◌⊎◌, inl, inr, ℕ, zero, suc, ◌+◌, ◌≤◌, Bool, true, false, cond, Option, Some}
use Rattle.std.proofs.Common.{None, List, is_some, length, sum_by, nat_eq, refl, ap, ◌∙◌, sym, subst, arith}
use Rattle.std.proofs.lemmas.Bool.{cases_lt}
use Rattle.std.proofs.lemmas.List.Elements.{All-contains_itself, All-weaker}
use Rattle.std.specs.List.{Contains, IsDistinct, filter}
use Rattle.ifmap_ident.specs.declared.identifiers.Identifier.{Identifier}
use Rattle.ifmap_lemmas.specs.Choices.{same_option}
use Rattle.ifmap_lemmas.specs.Filters.{distinct_filter}
use Rattle.ifmap_lemmas.specs.Having.{filter_has, has_from}
use Rattle.ifmap_lemmas.specs.Sums.{sum_passed}
use Rattle.ifmap_plans.specs.declared.plans.ItemChange.{ItemChange}
use Rattle.ifmap_region.specs.declared.flips.Flip.{Flip}
use Rattle.ifmap_region.specs.Bounds.{IsWithin, within_heavier, within_wider}
use Rattle.ifmap_region.specs.Flips as region
use Rattle.ifmap_region.specs.Flips.{InBoth, IsEnd}
use Rattle.ifmap_region.specs.Near.{IsTouched, NearFlips, SameDepth, at_flip, beside, touched}
use Rattle.ifmap_region.specs.Walks.{AreDepths, HasDepth, Walk, begins, goes_on}
use Rattle.ifmap_search.specs.declared.searches.Search.{Search}
use Rattle.ifmap_view.specs.Views.{IsView}
use Rattle.ifmap_fresh.specs.Linking.{is_terminal_at}
use Rattle.ifmap_delta.specs.Bounds.{IsFlip, IsNear, one_and_links}
use Rattle.ifmap_delta.specs.Changes.{ShowsAfter}
use Rattle.ifmap_delta.specs.Flipped.{AreFlipsOf}
use Rattle.ifmap_delta.specs.SeenViews.{Links, ViewSeen, is_terminal_in}
use Rattle.ifmap_delta.proofs.Flipping.{added_flip, linked_have_identifiers, old_there, removed_flip, removed_linked, there_mid, there_old}
use Rattle.ifmap_delta.proofs.Marking.{walk_marked}
use Rattle.ifmap_region.specs.DepthLaws.{walk_over}
use Rattle.ifmap_ident.specs.SameLaws.{BytesTellIdentifiers}

module _ (L M : ℕ → ℕ → Type 0) (T U : ℕ → Bool) (start top : ℕ) (f : (u v : ℕ) → T u ≡ false → L u v → (U u ≡ false) × M u v)
    (g : (u v : ℕ) → U u ≡ false → M u v → (T u ≡ false) × L u v) where
  depth_to : (v k : ℕ) → HasDepth L T start top v k → HasDepth M U start top v k
  depth_to v k d = record {
    within = d.within;
    walk = walk_over L M T U start f k v d.walk;
    least = λ j w. d.least j (walk_over M L U T start g j v w);
  }

  depth_from : (v k : ℕ) → HasDepth M U start top v k → HasDepth L T start top v k
  depth_from v k d = record {
    within = d.within;
    walk = walk_over M L U T start g k v d.walk;
    least = λ j w. d.least j (walk_over L M T U start f j v w);
  }

  pub depth_over : (v k : ℕ) → HasDepth L T start top v k ↔ HasDepth M U start top v k
  depth_over v k = (depth_to v k, depth_from v k)

  pub depths_over : (mark : ℕ → Option ℕ) → AreDepths L T start top mark → AreDepths M U start top mark
  depths_over mark d v k = (λ e. depth_to v k ((d v k).0 e), λ h. (d v k).1 (depth_from v k h))

-- walks along links that go on alike from where walks of both kinds end
walk_near : (L M : ℕ → ℕ → Type 0) (T U : ℕ → Bool) (start top : ℕ) (P : ℕ → Type 0)
    → ((k u : ℕ) → k ≤ top → Walk L T start k u → Walk M U start k u → P u)
    → ((u v : ℕ) → P u → T u ≡ false → L u v → (U u ≡ false) × M u v)
    → (k v : ℕ) → k ≤ top → Walk L T start k v → Walk M U start k v
walk_near L M T U start top P p f zero v h (begins e) = begins e
walk_near L M T U start top P p f (suc k) v h (goes_on {u = u} w t l) =
    let n = walk_near L M T U start top P p f k u (omega (arith, h)) w
    in let o = f u v (p k u (omega (arith, h)) w n) t l
    in goes_on n o.0 o.1

-- a depth stays where walks that are no longer than the most go along both
depth_by : (L M : ℕ → ℕ → Type 0) (T U : ℕ → Bool) (start top : ℕ) → ((k v : ℕ) → k ≤ top → Walk L T start k v → Walk M U start k v)
    → ((k v : ℕ) → k ≤ top → Walk M U start k v → Walk L T start k v) → (v k : ℕ) → HasDepth L T start top v k
    → HasDepth M U start top v k
depth_by L M T U start top to from v k d = record {
  within = d.within;
  walk = to k v d.within d.walk;
  least = λ j w. elim (cases_lt j k) [
    | inl h ↦ d.least j (from j v (omega (arith, h, d.within)) w)
    | inr h ↦ h
  ];
}

-- links that are the same from where walks along the first end
module _ (L M : ℕ → ℕ → Type 0) (T U : ℕ → Bool) (start top : ℕ) (P : ℕ → Type 0)
    (p : (k u : ℕ) → k ≤ top → Walk L T start k u → P u) (f : (u v : ℕ) → P u → T u ≡ false → L u v → (U u ≡ false) × M u v)
    (g : (u v : ℕ) → P u → U u ≡ false → M u v → (T u ≡ false) × L u v) where
  near_to : (k v : ℕ) → k ≤ top → Walk L T start k v → Walk M U start k v
  near_to = walk_near L M T U start top P (λ k u h w n. p k u h w) f

  near_from : (k v : ℕ) → k ≤ top → Walk M U start k v → Walk L T start k v
  near_from = walk_near M L U T start top P (λ k u h w n. p k u h n) g

  depth_near : (v k : ℕ) → HasDepth L T start top v k ↔ HasDepth M U start top v k
  depth_near v k = (depth_by L M T U start top near_to near_from v k, depth_by M L U T start top near_from near_to v k)

  depths_near : (mark : ℕ → Option ℕ) → AreDepths L T start top mark → AreDepths M U start top mark
  depths_near mark d v k = (λ e. (depth_near v k).0 ((d v k).0 e), λ h. (d v k).1 ((depth_near v k).1 h))

pub turned_within : (p : ℕ → Bool) (f g : ℕ → ℕ) (Among : ℕ → Type 0) (ns : List ℕ) (before after : ℕ) → ((v : ℕ) → f v ≤ g v)
    → IsDistinct nat_eq ns → ((v : ℕ) → p v ≡ true → Among v) → after ≤ before + sum_by (λ v. cond (p v) (f v) 0) ns
    → IsWithin g Among 1 before after
turned_within p f g Among ns before after le apart among bound = record {
  numbers = filter p ns;
  distinct = distinct_filter nat_eq p ns apart;
  among = All-weaker (Contains (filter p ns)) Among (λ v h. among v (filter_has p ns v (has_from (filter p ns) v h)).1) (filter p ns)
      (All-contains_itself (filter p ns));
  bound = omega (arith, bound, sum_passed p f g le ns);
}

module _ (tells : BytesTellIdentifiers) (old new : ViewSeen) (s : Search) (was : IsView old.rows old.id_at old.links)
    (is : IsView new.rows new.id_at new.links) (changes : List ItemChange) (change : ShowsAfter old new changes) where
  abbrev T : ℕ → Bool
  T = is_terminal_in old s

  abbrev U : ℕ → Bool
  U = is_terminal_in new s

  -- what walks go on from before the change, they go on from afterwards
  terminal_to : (u v : ℕ) → T u ≡ false → Links old s u v → U u ≡ false
  terminal_to u v t l =
      let n = linked_have_identifiers old s u v l
      in subst (λ o. is_terminal_at s.terminal o ≡ false) (sym (change.numbers u n.0 n.2))
      (subst (λ o. is_terminal_at s.terminal o ≡ false) n.2 t)

  terminal_from : (u : ℕ) → U u ≡ false → T u ≡ false
  terminal_from u t = by (old.id_at u) refl
    where
      by : (o : Option Identifier) → old.id_at u ≡ o → T u ≡ false
      by (Some a) e = subst (λ o. is_terminal_at s.terminal o ≡ false) (change.numbers u a e ∙ sym e) t
      by None e = ap (is_terminal_at s.terminal) e

  module _ (start : ℕ) where
    -- depths before the change, with the terminal numbers afterwards
    pub depth_before : (v k : ℕ) → HasDepth (Links old s) T start s.max_depth v k ↔ HasDepth (Links old s) U start s.max_depth v k
    depth_before = depth_over (Links old s) (Links old s) T U start s.max_depth (λ u v t l. (terminal_to u v t l, l))
        (λ u v t l. (terminal_from u t, l))

    module _ (mark : ℕ → Option ℕ) (before : AreDepths (Links old s) T start s.max_depth mark) (flips : List Flip)
        (are : AreFlipsOf old new s mark changes flips) where
      abbrev OldLinks : ℕ → ℕ → Type 0
      OldLinks = region.OldLinks (Links new s) flips

      abbrev MidLinks : ℕ → ℕ → Type 0
      MidLinks = region.Mid (Links new s) flips

      abbrev BothLinks : ℕ → ℕ → Type 0
      BothLinks = InBoth (Links old s) (Links new s)

      -- the marks before the change are depths over the region's old links
      pub old_depths : AreDepths OldLinks U start s.max_depth mark
      old_depths = depths_near (Links old s) OldLinks T U start s.max_depth (λ u. is_some (mark u) ≡ true)
          (λ k u h w. ap is_some (walk_marked (Links old s) T start s.max_depth mark before u k h w).1)
          (λ u v m t l. (terminal_to u v t l, there_old tells old new s was is changes change mark flips are u v m l))
          (λ u v m t l. (terminal_from u t, old_there tells old new s was is changes change mark flips are u v m l)) mark before

      old_same : (v k : ℕ) → HasDepth OldLinks U start s.max_depth v k ↔ HasDepth (Links old s) U start s.max_depth v k
      old_same v k = (
        λ d. (depth_before v k).0 ((before v k).0 ((old_depths v k).1 d)),
        λ d. (old_depths v k).0 ((before v k).1 ((depth_before v k).1 d)),
      )

      -- the region's links that stay are among the old and the new ones, and have those of both views
      mid_old : (k v : ℕ) → Walk MidLinks U start k v → Walk OldLinks U start k v
      mid_old = walk_over MidLinks OldLinks U U start (λ u v t l. (t, inl l))

      mid_new : (k v : ℕ) → Walk MidLinks U start k v → Walk (Links new s) U start k v
      mid_new = walk_over MidLinks (Links new s) U U start (λ u v t l. (t, l.0))

      both_mid : (k v : ℕ) → Walk BothLinks U start k v → Walk MidLinks U start k v
      both_mid = walk_over BothLinks MidLinks U U start
          (λ u v t l. (t, there_mid tells old new s was is changes change mark flips are u v l))

      -- so a depth that is the same before and over the links of both is that over the region's
      mid_depth : (v : ℕ) → SameDepth (Links old s) BothLinks U start s.max_depth v → (k : ℕ)
          → HasDepth MidLinks U start s.max_depth v k → HasDepth BothLinks U start s.max_depth v k
      mid_depth v d k h =
          let m = walk_marked OldLinks U start s.max_depth mark old_depths v k h.within (mid_old k v h.walk)
          in let q : HasDepth BothLinks U start s.max_depth v m.0 = (d m.0).0 ((depth_before v m.0).0 ((before v m.0).0 m.1))
          in let more : k ≤ m.0 = h.least m.0 (both_mid m.0 v q.walk)
          in let same : m.0 ≡ k = omega (arith, more, m.2)
          in subst (λ n. HasDepth BothLinks U start s.max_depth v n) same q

      first_same : (v : ℕ) → SameDepth (Links old s) BothLinks U start s.max_depth v
          → SameDepth OldLinks MidLinks U start s.max_depth v
      first_same v d k = (
        λ h. let q = (d k).0 ((old_same v k).0 h)
            in record { within = h.within; walk = both_mid k v q.walk; least = λ j w. h.least j (mid_old j v w) },
        λ h. (old_same v k).1 ((d k).1 (mid_depth v d k h)),
      )

      second_same : (v : ℕ) → SameDepth (Links old s) BothLinks U start s.max_depth v
          → SameDepth BothLinks (Links new s) U start s.max_depth v → SameDepth MidLinks (Links new s) U start s.max_depth v
      second_same v d e k = (
        λ h. (e k).0 (mid_depth v d k h),
        λ h. let q = (e k).1 h
            in record { within = h.within; walk = both_mid k v q.walk; least = λ j w. h.least j (mid_new j v w) },
      )

      touched_there : (v : ℕ) → IsTouched OldLinks MidLinks (Links new s) U start s.max_depth v
          → IsTouched (Links old s) BothLinks (Links new s) U start s.max_depth v
      touched_there v t = λ d. t (first_same v d.0, second_same v d.0 d.1)

      end_there : (v : ℕ) → IsEnd flips true v ⊎ IsEnd flips false v → (w : ℕ) × IsFlip old new s v w
      end_there v (inl e) = (e.0, added_flip tells old new s was is changes change mark flips are v e.0 e.1)
      end_there v (inr e) = (e.0, removed_flip tells old new s was is changes change mark flips are v e.0 e.1)

      -- what is near the flips in the region's words is near
      pub near_there : (v : ℕ) → NearFlips (Links new s) flips U start s.max_depth v → IsNear old new s start v
      near_there v (at_flip e) = at_flip (end_there v e)
      near_there v (touched t) = touched (touched_there v t)
      near_there v (beside {u = u} t (inl (inl p))) = beside (touched_there u t) (inr p.0)
      near_there v (beside {u = u} t (inl (inr f))) =
          beside (touched_there u t) (inl (removed_linked tells old new s was is changes change mark flips are u v f))
      near_there v (beside {u = u} t (inr l)) = beside (touched_there u t) (inr l)

      -- the steps of a repair
      pub repaired_within : (times before after : ℕ)
          → IsWithin (λ v. 1 + length (new.links v)) (NearFlips (Links new s) flips U start s.max_depth) times before after
          → IsWithin (one_and_links old new s) (IsNear old new s start) times before after
      repaired_within times before after w =
          within_heavier (λ v. 1 + length (new.links v)) (one_and_links old new s) (IsNear old new s start) times before after
          (λ v. omega arith)
          (within_wider (λ v. 1 + length (new.links v)) (NearFlips (Links new s) flips U start s.max_depth) (IsNear old new s start)
          times before after near_there w)

    -- a number whose mark changes is touched
    module _ (mark mark' : ℕ → Option ℕ) (before : AreDepths (Links old s) T start s.max_depth mark)
        (now : AreDepths (Links new s) U start s.max_depth mark') where
      pub moved_near : (v : ℕ) → mark v ≢ mark' v → IsNear old new s start v
      moved_near v differ = touched (λ d. differ (same_option (mark v) (mark' v) (λ k. (
        λ e. (now v k).1 ((d.1 k).0 ((d.0 k).0 ((depth_before v k).0 ((before v k).0 e)))),
        λ e. (before v k).1 ((depth_before v k).1 ((d.0 k).1 ((d.1 k).1 ((now v k).0 e)))),
      ))))
