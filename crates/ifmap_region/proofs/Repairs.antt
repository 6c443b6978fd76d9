-- A repair is a cut and then growth.
use Rattle.std.proofs.Common.{◌≡◌, ℕ, zero, suc, ◌+◌, ◌≤◌, Bool, true, false, Option, Some, None, List, inl, inr, refl, sym, ap, ◌∙◌, arith, true≢false}
use Rattle.std.specs.Prelude.{if◌then◌else◌}
use Rattle.std.proofs.lemmas.Option.{same_Some, none-some}
use Rattle.std.proofs.lemmas.Bool.{cases_lt}
use Rattle.std.specs.HashSet.{HashSet}
use Rattle.ifmap_region.specs.declared.flips.Flip.{Flip}
use Rattle.ifmap_region.specs.Bounds.{IsWithin, within_wider, within_heavier, within_more, within_both}
use Rattle.ifmap_region.specs.Flips.{IsFlipped, WithRemoved, Mid, OldLinks}
use Rattle.ifmap_region.specs.declared.mid.Ends.{Ends}
use Rattle.ifmap_region.specs.Hiding.{hides, unless_hidden}
use Rattle.ifmap_region.specs.Links.{Linked, IsSymmetric}
use Rattle.ifmap_region.specs.Losing.{IsBeforeCut}
use Rattle.ifmap_region.specs.Near.{at_flip, touched, beside, NearOneWay, NearFlips, SameDepth}
use Rattle.ifmap_region.specs.Walks.{Walk, begins, goes_on, HasDepth, AreDepths}
use Rattle.ifmap_region.proofs.Depths.{walk_along, walk_has_mark}

-- the bounds of a cut and of growth, over one set
pub spent_both : (count : ℕ → ℕ) (Among First Second : ℕ → Type 0) (before mid after : ℕ)
    → ((v : ℕ) → First v → Among v) → ((v : ℕ) → Second v → Among v)
    → IsWithin count First 4 before mid → IsWithin count Second 1 mid after → IsWithin (λ v. 1 + count v) Among 5 before after
spent_both count Among First Second before mid after f g a b =
    within_heavier count (λ v. 1 + count v) Among 5 before after (λ v. omega arith)
    (within_both count Among 4 1 before mid after (within_wider count First Among 4 before mid f a) (within_wider count Second Among 1
    mid after g b))

-- the bound of a cut alone
pub spent_first : (count : ℕ → ℕ) (Among First : ℕ → Type 0) (before after : ℕ) → ((v : ℕ) → First v → Among v)
    → IsWithin count First 4 before after → IsWithin (λ v. 1 + count v) Among 5 before after
spent_first count Among First before after f a =
    within_heavier count (λ v. 1 + count v) Among 5 before after (λ v. omega arith)
    (within_more count Among 4 5 before after (omega arith) (within_wider count First Among 4 before after f a))

-- links that a walk meets only from numbers without marks do not matter
module _ (fewer links : ℕ → ℕ → Type 0) (terminal : ℕ → Bool) (start top : ℕ) (m : ℕ → Option ℕ)
    (within : (u v : ℕ) → fewer u v → links u v)
    (reached : (k v : ℕ) → k ≤ top → Walk fewer terminal start k v → (j : ℕ) × (m v ≡ Some j))
    (met : (u v j : ℕ) → m u ≡ Some j → links u v → fewer u v) where
  walk_met : (k v : ℕ) → k ≤ top → Walk links terminal start k v → Walk fewer terminal start k v
  walk_met zero v le (begins e) = begins e
  walk_met (suc k) v le (goes_on {u = u} w t l) =
      let shorter = walk_met k u (omega (arith, le)) w in
      let mark = reached k u (omega (arith, le)) shorter in
      goes_on shorter t (met u v mark.0 mark.1 l)

  pub depth_met : (v k : ℕ) → HasDepth links terminal start top v k → HasDepth fewer terminal start top v k
  depth_met v k h = record {
    within = h.within;
    walk = walk_met k v h.within h.walk;
    least = λ j w. h.least j (walk_along fewer links terminal start within j v w);
  }

  pub depth_more : (v k : ℕ) → HasDepth fewer terminal start top v k → HasDepth links terminal start top v k
  depth_more v k h = record {
    within = h.within;
    walk = walk_along fewer links terminal start within k v h.walk;
    least = λ j w. elim (cases_lt j k) [
      | inl lt ↦ h.least j (walk_met j v (omega (arith, lt, h.within)) w)
      | inr ge ↦ ge
    ];
  }

-- the growth of a repair
module _ (new : ℕ → ℕ → Type 0) (terminal : ℕ → Bool) (flips : List Flip) (start top : ℕ) where
  pub near_grown : (v : ℕ) → NearOneWay flips true (Mid new flips) new terminal start top v → NearFlips new flips terminal start top v
  near_grown v (at_flip e) = at_flip (inl e)
  near_grown v (touched t) = touched (λ same. t same.1)
  near_grown v (beside {u = u} t l) = beside (λ same. t same.1) (elim l [ inl m ↦ inl (inl m) | inr n ↦ inr n ])

-- the links of a graph where some of the added ones are hidden: of those that are not, no end has a mark
module _ {S : Type 0} (count : ℕ → ℕ) (link : ℕ → ℕ → Option ℕ) (hidden : HashSet Ends S) where
  shown_parts : (v w : ℕ) → Linked count (λ v i. unless_hidden hidden v (link v i)) v w → Linked count link v w × (hides hidden v w ≡ false)
  shown_parts v w l = by (link v l.0) refl l.2
    where
      test : (x : ℕ) (t : Bool) → hides hidden v x ≡ t → link v l.0 ≡ Some x → (if t then None else Some x) ≡ Some w
          → Linked count link v w × (hides hidden v w ≡ false)
      test x true e here f = absurd (none-some w f)
      test x false e here f = let same = same_Some x w f in ((l.0, l.1, here ∙ f), ap (hides hidden v) (sym same) ∙ e)

      by : (o : Option ℕ) → link v l.0 ≡ o → unless_hidden hidden v o ≡ Some w → Linked count link v w × (hides hidden v w ≡ false)
      by None e f = absurd (none-some w f)
      by (Some x) e f = test x (hides hidden v x) refl e f

  shown_made : (v w : ℕ) → Linked count link v w → hides hidden v w ≡ false → Linked count (λ v i. unless_hidden hidden v (link v i)) v w
  shown_made v w l e = (l.0, l.1, ap (unless_hidden hidden v) l.2 ∙ ap (λ (t : Bool). if t then None else Some w) e)

  module _ (terminal : ℕ → Bool) (flips : List Flip) (start top : ℕ) (m : ℕ → Option ℕ)
      (only : (v w : ℕ) → hides hidden v w ≡ true → IsFlipped flips true v w)
      (each : (v w k : ℕ) → IsFlipped flips true v w → m v ≡ Some k → hides hidden v w ≡ true)
      (turned : (v w : ℕ) → hides hidden v w ≡ true → hides hidden w v ≡ true) where
    abbrev pub ShowsLink : ℕ → ℕ → Type 0
    ShowsLink = Linked count (λ v i. unless_hidden hidden v (link v i))

    shown_back : (v w : ℕ) → Mid (Linked count link) flips v w → ShowsLink v w
    shown_back v w l = shown_made v w l.0 (by (hides hidden v w) refl)
      where
        by : (t : Bool) → hides hidden v w ≡ t → hides hidden v w ≡ false
        by true e = absurd (l.1 (only v w e))
        by false e = e

    shown_met : (v w k : ℕ) → m v ≡ Some k → ShowsLink v w → Mid (Linked count link) flips v w
    shown_met v w k e l = let p = shown_parts v w l in (p.0, λ f. true≢false (sym (each v w k f e) ∙ p.1))

    shown_symmetric : IsSymmetric (Linked count link) → IsSymmetric ShowsLink
    shown_symmetric symmetric v w l = let p = shown_parts v w l in shown_made w v (symmetric v w p.0) (by (hides hidden w v) refl p.1)
      where
        by : (t : Bool) → hides hidden w v ≡ t → hides hidden v w ≡ false → hides hidden w v ≡ false
        by true e f = absurd (true≢false (sym (turned w v e) ∙ f))
        by false e f = e

    module _ (depths : AreDepths (OldLinks (Linked count link) flips) terminal start top m) where
      old_reached : (k v : ℕ) → k ≤ top → Walk (OldLinks (Linked count link) flips) terminal start k v → (j : ℕ) × (m v ≡ Some j)
      old_reached k v le w = let f = walk_has_mark (OldLinks (Linked count link) flips) terminal start top m depths v k le w in (f.0, f.1)

      mid_reached : (k v : ℕ) → k ≤ top → Walk (Mid (Linked count link) flips) terminal start k v → (j : ℕ) × (m v ≡ Some j)
      mid_reached k v le w =
          old_reached k v le
          (walk_along (Mid (Linked count link) flips) (OldLinks (Linked count link) flips) terminal start (λ x y l. inl l) k v w)

      old_back : (v w : ℕ) → OldLinks (Linked count link) flips v w → WithRemoved ShowsLink flips v w
      old_back v w l = elim l [ inl mid ↦ inl (shown_back v w mid) | inr f ↦ inr f ]

      old_met : (v w k : ℕ) → m v ≡ Some k → WithRemoved ShowsLink flips v w → OldLinks (Linked count link) flips v w
      old_met v w k e l = elim l [ inl mid ↦ inl (shown_met v w k e mid) | inr f ↦ inr f ]

      old_there : (v k : ℕ) → HasDepth (WithRemoved ShowsLink flips) terminal start top v k
          → HasDepth (OldLinks (Linked count link) flips) terminal start top v k
      old_there =
          depth_met (OldLinks (Linked count link) flips) (WithRemoved ShowsLink flips) terminal start top m old_back old_reached old_met

      old_again : (v k : ℕ) → HasDepth (OldLinks (Linked count link) flips) terminal start top v k
          → HasDepth (WithRemoved ShowsLink flips) terminal start top v k
      old_again =
          depth_more (OldLinks (Linked count link) flips) (WithRemoved ShowsLink flips) terminal start top m old_back old_reached old_met

      mid_there : (v k : ℕ) → HasDepth ShowsLink terminal start top v k → HasDepth (Mid (Linked count link) flips) terminal start top v k
      mid_there = depth_met (Mid (Linked count link) flips) ShowsLink terminal start top m shown_back mid_reached shown_met

      mid_again : (v k : ℕ) → HasDepth (Mid (Linked count link) flips) terminal start top v k → HasDepth ShowsLink terminal start top v k
      mid_again = depth_more (Mid (Linked count link) flips) ShowsLink terminal start top m shown_back mid_reached shown_met

      pub before_cut : IsSymmetric (Linked count link) → IsBeforeCut ShowsLink terminal flips start top m
      before_cut symmetric = record {
        symmetric = shown_symmetric symmetric;
        depths = λ v k. (λ e. old_again v k ((depths v k).0 e), λ h. (depths v k).1 (old_there v k h));
      }

      pub after_cut : (n : ℕ → Option ℕ) → AreDepths ShowsLink terminal start top n
          → AreDepths (Mid (Linked count link) flips) terminal start top n
      after_cut n cut v k = (λ e. mid_there v k ((cut v k).0 e), λ h. (cut v k).1 (mid_again v k h))

      same_cut : (v : ℕ) → SameDepth (OldLinks (Linked count link) flips) (Mid (Linked count link) flips) terminal start top v
          → SameDepth (WithRemoved ShowsLink flips) ShowsLink terminal start top v
      same_cut v same k = (λ h. mid_again v k ((same k).0 (old_there v k h)), λ h. old_again v k ((same k).1 (mid_there v k h)))

      pub near_cut : (v : ℕ) → NearOneWay flips false (WithRemoved ShowsLink flips) ShowsLink terminal start top v
          → NearFlips (Linked count link) flips terminal start top v
      near_cut v (at_flip e) = at_flip (inr e)
      near_cut v (touched t) = touched (λ same. t (same_cut v same.0))
      near_cut v (beside {u = u} t l) = beside (λ same. t (same_cut u same.0)) (elim l [
        | inl o ↦ elim o [ inl mid ↦ inr (shown_parts u v mid).0 | inr f ↦ inl (inr f) ]
        | inr mid ↦ inr (shown_parts u v mid).0
      ])

      module _ (symmetric : IsSymmetric (Linked count link)) where
        -- the steps of a cut alone
        pub spent_cutting : (before after : ℕ)
            → (IsBeforeCut ShowsLink terminal flips start top m
            → IsWithin count (NearOneWay flips false (WithRemoved ShowsLink flips) ShowsLink terminal start top) 4 before after)
            → IsWithin (λ v. 1 + count v) (NearFlips (Linked count link) flips terminal start top) 5 before after
        spent_cutting before after cut =
            spent_first count (NearFlips (Linked count link) flips terminal start top)
            (NearOneWay flips false (WithRemoved ShowsLink flips) ShowsLink terminal start top) before after near_cut
            (cut (before_cut symmetric))

        -- what growth is given: the marks that the cut left are the depths over the links that both graphs have
        pub cut_left : (n : ℕ → Option ℕ) → (IsBeforeCut ShowsLink terminal flips start top m → AreDepths ShowsLink terminal start top n)
            → AreDepths (Mid (Linked count link) flips) terminal start top n
        cut_left n cut = after_cut n (cut (before_cut symmetric))

        -- the steps of a cut and of growth
        pub spent_repairing : (n : ℕ → Option ℕ) (before mid after : ℕ)
            → (IsBeforeCut ShowsLink terminal flips start top m
            → IsWithin count (NearOneWay flips false (WithRemoved ShowsLink flips) ShowsLink terminal start top) 4 before mid)
            → (IsBeforeCut ShowsLink terminal flips start top m → AreDepths ShowsLink terminal start top n)
            → (AreDepths (Mid (Linked count link) flips) terminal start top n → IsWithin count (NearOneWay flips true (Mid (Linked count
            link)
            flips) (Linked count link) terminal start top) 1 mid after)
            → IsWithin (λ v. 1 + count v) (NearFlips (Linked count link) flips terminal start top) 5 before after
        spent_repairing n before mid after cut left grow =
            spent_both count (NearFlips (Linked count link) flips terminal start top)
            (NearOneWay flips false (WithRemoved ShowsLink flips) ShowsLink terminal start top)
            (NearOneWay flips true (Mid (Linked count link) flips) (Linked count link) terminal start top) before mid after near_cut
            (near_grown (Linked count link) terminal flips start top) (cut (before_cut symmetric)) (grow (cut_left n left))
