-- What a repair does to the marks of a subscription, and the steps of a change.
use Rattle.std.proofs.Common.{◌≡◌, ap, sym, subst, ℕ, ◌+◌, ◌≤◌, true, Option, List, length, sum_by, nat_eq, arith}
use Rattle.std.specs.List.{IsDistinct}
use Rattle.ifmap_plans.specs.declared.plans.ItemChange.{ItemChange}
use Rattle.ifmap_region.specs.declared.flips.Flip.{Flip}
use Rattle.ifmap_region.specs.Bounds.{IsWithin, within_both, within_more}
use Rattle.ifmap_region.specs.Flips as region
use Rattle.ifmap_region.specs.Near.{NearFlips}
use Rattle.ifmap_region.specs.Walks.{AreDepths}
use Rattle.ifmap_search.specs.declared.searches.Search.{Search}
use Rattle.ifmap_view.specs.Views.{IsView}
use Rattle.ifmap_delta.specs.Bounds.{IsNear, IsWithinBound, one_and_links}
use Rattle.ifmap_delta.specs.Changes.{ShowsAfter}
use Rattle.ifmap_delta.specs.Flipped.{AreFlipsOf}
use Rattle.ifmap_delta.specs.Shown.{goes_on}
use Rattle.ifmap_delta.specs.SeenViews.{AreMarks, Links, ViewSeen, is_terminal_in}
use Rattle.ifmap_delta.specs.Touched.{looked_along, turns}
use Rattle.ifmap_lemmas.specs.Branches.{same_not_apart}
use Rattle.ifmap_delta.proofs.Walking.{moved_near, old_depths, repaired_within, turned_within}
use Rattle.ifmap_ident.specs.SameLaws.{BytesTellIdentifiers}

module _ (tells : BytesTellIdentifiers) (old new : ViewSeen) (s : Search) (was : IsView old.rows old.id_at old.links)
    (is : IsView new.rows new.id_at new.links) (changes : List ItemChange) (change : ShowsAfter old new changes) (start top : ℕ)
    (mark : ℕ → Option ℕ) (before : AreMarks old s start top mark) where
  module _ (flips : List Flip) (are : AreFlipsOf old new s mark changes flips) where
    -- the marks before are what a repair asks for
    region_depths : AreDepths (region.OldLinks (Links new s) flips) (is_terminal_in new s) start top mark
    region_depths =
        subst (λ n. AreDepths (region.OldLinks (Links new s) flips) (is_terminal_in new s) start n mark) (sym before.most)
        (old_depths tells old new s was is changes change start mark before.depths flips are)

    pub repaired_marks : (mark' : ℕ → Option ℕ)
        → (AreDepths (region.OldLinks (Links new s) flips) (is_terminal_in new s) start top mark
        → AreDepths (Links new s) (is_terminal_in new s) start top mark') → AreMarks new s start top mark'
    repaired_marks mark' f = record {
      identifier = before.identifier;
      here = change.numbers start s.start before.here;
      most = before.most;
      depths = subst (λ n. AreDepths (Links new s) (is_terminal_in new s) start n mark') before.most (f region_depths);
    }

    pub repaired_steps : (from to : ℕ)
        → (AreDepths (region.OldLinks (Links new s) flips) (is_terminal_in new s) start top mark
        → IsWithin (λ v. 1 + length (new.links v)) (NearFlips (Links new s) flips (is_terminal_in new s) start top) 5 from to)
        → IsWithin (one_and_links old new s) (IsNear old new s start) 5 from to
    repaired_steps from to f =
        repaired_within tells old new s was is changes change start mark before.depths flips are 5 from to
        (subst (λ n. IsWithin (λ v. 1 + length (new.links v)) (NearFlips (Links new s) flips (is_terminal_in new s) start n) 5 from to)
        before.most (f region_depths))

  module _ (mark' : ℕ → Option ℕ) (now : AreMarks new s start top mark') where
    -- a number that walks go on from at one time alone is near
    turned_near : (v : ℕ) → turns new s v (mark v) (mark' v) ≡ true → IsNear old new s start v
    turned_near v t =
        moved_near tells old new s was is changes change start mark mark' before.depths now.depths v
        (λ e. same_not_apart (goes_on s (new.id_at v) (mark v)) (goes_on s (new.id_at v) (mark' v)) (ap (goes_on s (new.id_at v)) e) t)

    -- the steps of a repair, and of looking along the links of what turned
    pub change_steps : (from mid to : ℕ) (numbers : List ℕ) → IsDistinct nat_eq numbers
        → IsWithin (one_and_links old new s) (IsNear old new s start) 5 from mid
        → to ≤ mid + sum_by (λ v. looked_along new s v (mark v) (mark' v)) numbers → IsWithinBound old new s start from to
    change_steps from mid to numbers apart repaired bound =
        within_more (one_and_links old new s) (IsNear old new s start) 6 10 from to (omega arith)
        (within_both (one_and_links old new s) (IsNear old new s start) 5 1 from mid to repaired
        (turned_within (λ v. turns new s v (mark v) (mark' v)) (λ v. length (new.links v)) (one_and_links old new s)
        (IsNear old new s start)
        numbers mid to (λ v. omega arith) apart turned_near bound))

  pub repair_steps : (from to : ℕ) → IsWithin (one_and_links old new s) (IsNear old new s start) 5 from to
      → IsWithinBound old new s start from to
  repair_steps from to w = within_more (one_and_links old new s) (IsNear old new s start) 5 10 from to (omega arith) w
