-- One flip more.
use Rattle.std.proofs.Common.{◌≡◌, ℕ, Bool, true, false, Option, Some, None, List, [], ◌∷◌, ◌++◌, Contains, ◌⊎◌, inl, inr, refl, sym, ap, subst, ◌∙◌, cond, nat_eq}
use Rattle.std.specs.Prelude.{MatchOption, IfSome, IsSome}
use Rattle.std.proofs.lemmas.Option.{same_Some, none-some}
use Rattle.std.proofs.lemmas.Bool.{and_parts, and_from, eqb-true, eq-eqb}
use Rattle.std.proofs.lemmas.List.Elements.{Contains-append_left, Contains-push, Contains-push_cases}
use Rattle.std.specs.HashSet.{HashSet, contains}
use Rattle.ifmap_region.specs.declared.flips.Flip.{Flip}
use Rattle.ifmap_region.specs.Flips.{Joins, IsFlipped, flipped_cases}
use Rattle.ifmap_region.specs.declared.mid.Ends.{Ends}
use Rattle.ifmap_region.specs.Hiding.{ends, same_ends, hides}
use Rattle.ifmap_region.specs.Marks.{mark_of, HasMarkedEnd}
use Rattle.ifmap_region.specs.Seeds.{SeedsAlong}

module _ (flips : List Flip) (flip : Flip) (added : Bool) (v w : ℕ) where
  pub flipped_kept : IsFlipped flips added v w → IsFlipped (flips ++ flip ∷ []) added v w
  flipped_kept h = (h.0, Contains-append_left flips (flip ∷ []) h.0 h.1, h.2, h.3)

  pub flipped_last : flip.added ≡ added → Joins flip v w → IsFlipped (flips ++ flip ∷ []) added v w
  flipped_last e j = (flip, Contains-push flips flip, e, j)

-- a link is flipped whichever end comes first
pub flipped_back : (flips : List Flip) (added : Bool) (v w : ℕ) → IsFlipped flips added v w → IsFlipped flips added w v
flipped_back flips added v w h = (h.0, h.1, h.2, elim h.3 [ inl j ↦ inr j | inr j ↦ inl j ])

-- a pair that came into the set is the one that was put in, or was there
pub hides_cases : {S : Type 0} (old new : HashSet Ends S) (a b v w : ℕ)
    → ((q : Ends) → contains same_ends new q ≡ cond (same_ends (ends a b) q) true (contains same_ends old q))
    → hides new v w ≡ true → (hides old v w ≡ true) ⊎ ((a ≡ v) × (b ≡ w))
hides_cases old new a b v w put h = by (same_ends (ends a b) (ends v w)) refl
  where
    by : (t : Bool) → same_ends (ends a b) (ends v w) ≡ t → (hides old v w ≡ true) ⊎ ((a ≡ v) × (b ≡ w))
    by true e = let p = and_parts (nat_eq a v) (nat_eq b w) e in inr (eqb-true a v p.0, eqb-true b w p.1)
    by false e = inl (sym (put (ends v w) ∙ ap (λ (t : Bool). cond t true (hides old v w)) e) ∙ h)

pub hides_kept : {S : Type 0} (old new : HashSet Ends S) (a b v w : ℕ)
    → ((q : Ends) → contains same_ends new q ≡ cond (same_ends (ends a b) q) true (contains same_ends old q))
    → hides old v w ≡ true → hides new v w ≡ true
hides_kept old new a b v w put h = put (ends v w) ∙ by (same_ends (ends a b) (ends v w))
  where
    by : (t : Bool) → cond t true (hides old v w) ≡ true
    by true = refl
    by false = h

pub hides_here : {S : Type 0} (old new : HashSet Ends S) (a b v w : ℕ)
    → ((q : Ends) → contains same_ends new q ≡ cond (same_ends (ends a b) q) true (contains same_ends old q))
    → a ≡ v → b ≡ w → hides new v w ≡ true
hides_here old new a b v w put e f =
    put (ends v w) ∙ ap (λ (t : Bool). cond t true (hides old v w)) (and_from (nat_eq a v) (nat_eq b w) (eq-eqb a v e) (eq-eqb b w f))

-- pairs that have an end with a mark
module _ (marks : List (ℕ × Option ℕ)) where
  pub marked_at : (a b v w : ℕ) → a ≡ v → b ≡ w → HasMarkedEnd marks a b → HasMarkedEnd marks v w
  marked_at a b v w e f h = elim h [
    | inl m ↦ inl (subst (λ (n : ℕ). IsSome (mark_of marks n)) e m)
    | inr m ↦ inr (subst (λ (n : ℕ). IsSome (mark_of marks n)) f m)
  ]

  pub marked_turned : (v w : ℕ) → HasMarkedEnd marks w v → HasMarkedEnd marks v w
  marked_turned v w h = elim h [ inl m ↦ inr m | inr m ↦ inl m ]

-- where each pair was there both ways round, it is after one that is put in both ways round
pub turned_both : {S : Type 0} (old mid new : HashSet Ends S) (a b : ℕ)
    → ((q : Ends) → contains same_ends mid q ≡ cond (same_ends (ends a b) q) true (contains same_ends old q))
    → ((q : Ends) → contains same_ends new q ≡ cond (same_ends (ends b a) q) true (contains same_ends mid q))
    → ((v w : ℕ) → hides old v w ≡ true → hides old w v ≡ true) → (v w : ℕ) → hides new v w ≡ true → hides new w v ≡ true
turned_both old mid new a b first second turned v w h = elim (hides_cases mid new b a v w second h) [
  | inl before ↦ elim (hides_cases old mid a b v w first before) [
    | inl long_before ↦ hides_kept mid new b a w v second (hides_kept old mid a b w v first (turned v w long_before))
    | inr e ↦ hides_here mid new b a w v second e.1 e.0
  ]
  | inr e ↦ hides_kept mid new b a w v second (hides_here old mid a b w v first e.1 e.0)
]

-- one seed is offered: the level that a number gives another
module _ (Gives : ℕ → ℕ → ℕ → Type 0) (x y : ℕ) (level : Option ℕ) (before after : List (ℕ × ℕ))
    (offered : MatchOption level (after ≡ before) (λ k. after ≡ before ++ (k, y) ∷ []))
    (only : IfSome level (λ k. Gives x y k)) (each : (k : ℕ) → Gives x y k → level ≡ Some k) where
  pub offer_kept : (s : ℕ × ℕ) → Contains before s → Contains after s
  offer_kept s h = by level offered
    where
      by : (o : Option ℕ) → MatchOption o (after ≡ before) (λ k. after ≡ before ++ (k, y) ∷ []) → Contains after s
      by None e = subst (λ (l : List (ℕ × ℕ)). Contains l s) (sym e) h
      by (Some k) e = subst (λ (l : List (ℕ × ℕ)). Contains l s) (sym e) (Contains-append_left before ((k, y) ∷ []) s h)

  pub offer_only : (k z : ℕ) → Contains after (k, z) → Contains before (k, z) ⊎ ((y ≡ z) × Gives x y k)
  offer_only k z h = by level offered only
    where
      by : (o : Option ℕ) → MatchOption o (after ≡ before) (λ k. after ≡ before ++ (k, y) ∷ []) → IfSome o (λ k. Gives x y k)
          → Contains before (k, z) ⊎ ((y ≡ z) × Gives x y k)
      by None e g = inl (subst (λ (l : List (ℕ × ℕ)). Contains l (k, z)) e h)
      by (Some j) e g = elim (Contains-push_cases before (j, y) (k, z) (subst (λ (l : List (ℕ × ℕ)). Contains l (k, z)) e h)) [
        | inl old ↦ inl old
        | inr p ↦ inr (ap (λ (q : ℕ × ℕ). q.1) p, subst (λ (n : ℕ). Gives x y n) (ap (λ (q : ℕ × ℕ). q.0) p) g)
      ]

  pub offer_each : (k : ℕ) → Gives x y k → Contains after (k, y)
  offer_each k g = by level offered (each k g)
    where
      by : (o : Option ℕ) → MatchOption o (after ≡ before) (λ k. after ≡ before ++ (k, y) ∷ []) → o ≡ Some k → Contains after (k, y)
      by None e n = absurd (none-some k n)
      by (Some j) e n = subst (λ (l : List (ℕ × ℕ)). Contains l (k, y)) (sym e) (subst (λ (i : ℕ). Contains (before ++ (j, y) ∷ []) (
        i,
        y,
      )) (same_Some j k n) (Contains-push before (j, y)))

-- seeds of one flip more
module _ (flips : List Flip) (flip : Flip) (added : Bool) (Gives : ℕ → ℕ → ℕ → Type 0) where
  pub seeds_other : (seeds : List (ℕ × ℕ)) → (flip.added ≡ added → ⊥) → SeedsAlong flips added Gives seeds
      → SeedsAlong (flips ++ flip ∷ []) added Gives seeds
  seeds_other seeds other s = record {
    only = λ k y h. let p = s.only k y h in (p.0, flipped_kept flips flip added p.0 y p.1, p.2);
    each = λ x y k f g. elim (flipped_cases flips flip added x y f) [ inl old ↦ s.each x y k old g | inr p ↦ absurd (other p.0) ];
  }

  pub seeds_more : (at_b at_a : Option ℕ) (before mid after : List (ℕ × ℕ)) → flip.added ≡ added
      → MatchOption at_b (mid ≡ before) (λ k. mid ≡ before ++ (k, flip.b) ∷ []) → IfSome at_b (λ k. Gives flip.a flip.b k) → ((k : ℕ)
      → Gives flip.a flip.b k → at_b ≡ Some k)
      → MatchOption at_a (after ≡ mid) (λ k. after ≡ mid ++ (k, flip.a) ∷ []) → IfSome at_a (λ k. Gives flip.b flip.a k) → ((k : ℕ)
      → Gives flip.b flip.a k → at_a ≡ Some k)
      → SeedsAlong flips added Gives before → SeedsAlong (flips ++ flip ∷ []) added Gives after
  seeds_more at_b at_a before mid after kind first first_only first_each second second_only second_each s = record {
    only = only;
    each =
        each;
  }
    where
      only : (k y : ℕ) → Contains after (k, y) → (x : ℕ) × IsFlipped (flips ++ flip ∷ []) added x y × Gives x y k
      only k y h = elim (offer_only Gives flip.b flip.a at_a mid after second second_only second_each k y h) [
        | inl m ↦ elim (offer_only Gives flip.a flip.b at_b before mid first first_only first_each k y m) [
          | inl old ↦ let p = s.only k y old in (p.0, flipped_kept flips flip added p.0 y p.1, p.2)
          | inr p ↦ (flip.a, flipped_last flips flip added flip.a y kind (inl (refl, p.0)), subst (λ (z : ℕ). Gives flip.a z k) p.0 p.1)
        ]
        | inr p ↦ (flip.b, flipped_last flips flip added flip.b y kind (inr (p.0, refl)), subst (λ (z : ℕ). Gives flip.b z k) p.0 p.1)
      ]

      each : (x y k : ℕ) → IsFlipped (flips ++ flip ∷ []) added x y → Gives x y k → Contains after (k, y)
      each x y k f g = elim (flipped_cases flips flip added x y f) [
        | inl old ↦ offer_kept Gives flip.b flip.a at_a mid after second second_only second_each (k, y)
            (offer_kept Gives flip.a flip.b at_b before mid first first_only first_each (k, y) (s.each x y k old g))
        | inr p ↦ elim p.1 [
          | inl e ↦ offer_kept Gives flip.b flip.a at_a mid after second second_only second_each (k, y)
              (subst (λ (z : ℕ). Contains mid (k, z)) e.1 (offer_each Gives flip.a flip.b at_b before mid first first_only first_each k
              (subst (λ (z : ℕ). Gives flip.a z k) (sym e.1) (subst (λ (z : ℕ). Gives z y k) (sym e.0) g))))
          | inr e ↦ subst (λ (z : ℕ). Contains after (k, z)) e.0 (offer_each Gives flip.b flip.a at_a mid after second second_only
              second_each k
              (subst (λ (z : ℕ). Gives flip.b z k) (sym e.0) (subst (λ (z : ℕ). Gives z y k) (sym e.1) g)))
        ]
      ]
