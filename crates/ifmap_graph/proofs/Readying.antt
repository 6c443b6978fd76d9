-- Drafts of lists at places: one more, and one that grows.
-- Plan: (1) the drafts at places, told by their ways back; (2) a draft comes at a place that had none (`ready_more`), or the one
-- that is there changes (`ready_still`); (3) drafts go, one after another (`Dropping`), and at the end none is left
-- (`drops_drafts`); (4) a list whose draft alone is set keeps what stands now (`set_touches`, `set_ready`).
use Rattle.std.proofs.Common.{◌≡◌, ◌≢◌, ◌⊎◌, ℕ, zero, suc, ◌+◌, ◌<◌, ◌≤◌, Option, None, IsSome, List, [], ◌∷◌, ◌++◌, length, get_or, set, drop, refl, ap, ◌∙◌, sym, subst, inl, inr, arith, add-one, drop-cons}
use Rattle.std.proofs.lemmas.Bool.{cases_eq}
use Rattle.std.proofs.lemmas.List.{drop_all, length-set}
use Rattle.ifmap_view.specs.declared.views.LinkSeen.{LinkSeen}
use Rattle.ifmap_graph.specs.Sides.{Sides}
use Rattle.ifmap_graph.specs.Touched.{AreExactlyDrafted, KeepsLinks, TouchesOne}
use Rattle.ifmap_graph.specs.Turning.{AreDrafted, IsNamed, NoOthers, accepted_sides, sides_at}
use Rattle.ifmap_graph.proofs.Turns.{at_set}
use Rattle.ifmap_lemmas.specs.Options.{some_none}

module _ {T : Type 0} where
  -- where the places of some ways have drafts still, after one of them was accepted in both
  still : (ls xs : List (Sides T)) (w : ℕ) → w < length ls → w < length xs
      → (v : ℕ) → (IsSome (sides_at ls v).draft → IsSome (sides_at xs v).draft)
      → IsSome (sides_at (set ls w (accepted_sides (sides_at ls w))) v).draft
      → IsSome (sides_at (set xs w (accepted_sides (sides_at xs w))) v).draft
  still ls xs w h k v f s = elim (at_set ls w v (accepted_sides (sides_at ls w)) h) [
    | inl p ↦ absurd (some_none _ s (ap (λ x. x.draft) p.1))
    | inr p ↦ elim (at_set xs w v (accepted_sides (sides_at xs w)) k) [
      | inl q ↦ absurd (p.0 q.0)
      | inr q ↦ subst (λ (o : Option (List T)). IsSome o) (sym (ap (λ x. x.draft) q.1))
          (f (subst (λ (o : Option (List T)). IsSome o) (ap (λ x. x.draft) p.1) s))
    ]
  ]

  -- drafts that stand, of which some may have changed
  pub drafted_still : (ws : List (ℕ × List T)) (ls xs : List (Sides T)) → length xs ≡ length ls
      → ((v : ℕ) → IsSome (sides_at ls v).draft → IsSome (sides_at xs v).draft) → AreDrafted ws ls → AreDrafted ws xs
  drafted_still [] ls xs e f d = tt
  drafted_still (w ∷ ws) ls xs e f d =
      let k : w.0 < length xs = subst (λ n. w.0 < n) (sym e) d.0
      in (
        k,
        f w.0 d.1,
        drafted_still ws (set ls w.0 (accepted_sides (sides_at ls w.0))) (set xs w.0 (accepted_sides (sides_at xs w.0)))
            (length-set xs w.0 (accepted_sides (sides_at xs w.0)) ∙ e ∙ sym (length-set ls w.0 (accepted_sides (sides_at ls w.0))))
            (λ v. still ls xs w.0 d.0 k v (f v)) d.2,
      )

  -- and one more, at a place that had none
  pub drafted_more : (ws : List (ℕ × List T)) (ls xs : List (Sides T)) (place : ℕ) (list : List T) → length xs ≡ length ls
      → ((v : ℕ) → v ≢ place → IsSome (sides_at ls v).draft → IsSome (sides_at xs v).draft) → (sides_at ls place).draft ≡ None
      → place < length xs → IsSome (sides_at xs place).draft → AreDrafted ws ls → AreDrafted (ws ++ (place, list) ∷ []) xs
  drafted_more [] ls xs place list e f none within has d = (within, has, tt)
  drafted_more (w ∷ ws) ls xs place list e f none within has d =
      let k : w.0 < length xs = subst (λ n. w.0 < n) (sym e) d.0
      in let apart : w.0 ≢ place = λ q. some_none _ (subst (λ n. IsSome (sides_at ls n).draft) q d.1) none
      in (
        k,
        f w.0 apart d.1,
        drafted_more ws (set ls w.0 (accepted_sides (sides_at ls w.0))) (set xs w.0 (accepted_sides (sides_at xs w.0))) place list
            (length-set xs w.0 (accepted_sides (sides_at xs w.0)) ∙ e ∙ sym (length-set ls w.0 (accepted_sides (sides_at ls w.0))))
            (λ v n. still ls xs w.0 d.0 k v (f v n))
            (elim (at_set ls w.0 place (accepted_sides (sides_at ls w.0)) d.0) [
              | inl p ↦ ap (λ x. x.draft) p.1
              | inr p ↦ ap (λ x. x.draft) p.1 ∙ none
            ])
            (subst (λ n. place < n) (sym (length-set xs w.0 (accepted_sides (sides_at xs w.0)))) within)
            (elim (at_set xs w.0 place (accepted_sides (sides_at xs w.0)) k) [
              | inl p ↦ absurd (apart p.0)
              | inr p ↦ subst (λ (o : Option (List T)). IsSome o) (sym (ap (λ x. x.draft) p.1)) has
            ])
            d.2,
      )

  named_left : (ws ys : List (ℕ × List T)) (v : ℕ) → IsNamed ws v → IsNamed (ws ++ ys) v
  named_left [] ys v n = absurd n
  named_left (w ∷ ws) ys v (inl e) = inl e
  named_left (w ∷ ws) ys v (inr n) = inr (named_left ws ys v n)

  named_last : (ws : List (ℕ × List T)) (place v : ℕ) (list : List T) → place ≡ v → IsNamed (ws ++ (place, list) ∷ []) v
  named_last [] place v list e = inl e
  named_last (w ∷ ws) place v list e = inr (named_last ws place v list e)

  pub others_more : (ws : List (ℕ × List T)) (ls xs : List (Sides T)) (place : ℕ) (list : List T)
      → ((v : ℕ) → v ≢ place → sides_at xs v ≡ sides_at ls v) → NoOthers ws ls → NoOthers (ws ++ (place, list) ∷ []) xs
  others_more ws ls xs place list f n v = elim (cases_eq v place) [
    | inl e ↦ inr (named_last ws place v list (sym e))
    | inr o ↦ elim (n v) [
      | inl e ↦ inl (ap (λ x. x.draft) (f v o) ∙ e)
      | inr e ↦ inr (named_left ws ((place, list) ∷ []) v e)
    ]
  ]

  -- what is named is within, and has a draft
  pub named_within : (ws : List (ℕ × List T)) (ls : List (Sides T)) → AreDrafted ws ls → (v : ℕ) → IsNamed ws v → v < length ls
  named_within [] ls d v n = absurd n
  named_within (w ∷ ws) ls d v (inl e) = subst (λ n. n < length ls) e d.0
  named_within (w ∷ ws) ls d v (inr n) =
      subst (λ n. v < n) (length-set ls w.0 (accepted_sides (sides_at ls w.0)))
      (named_within ws (set ls w.0 (accepted_sides (sides_at ls w.0))) d.2 v n)

-- a draft comes at a place that had none
pub ready_more : (ways : List (ℕ × List LinkSeen)) (ls xs : List (Sides LinkSeen)) (place : ℕ) → AreExactlyDrafted ways ls
    → TouchesOne place ls xs → (sides_at ls place).draft ≡ None → place < length ls
    → IsSome (sides_at xs place).draft → AreExactlyDrafted (ways ++ (place, []) ∷ []) xs
ready_more ways ls xs place r touched none within has = record {
  drafted = drafted_more ways ls xs place [] touched.kept.long
      (λ v n s. subst (λ (x : Sides LinkSeen). IsSome x.draft) (sym (touched.others v n)) s) none
      (subst (λ n. place < n) (sym touched.kept.long) within) has r.drafted;
  no_others = others_more ways ls xs place [] touched.others r.no_others;
}

-- the draft at a place that has one changes
pub ready_still : (ways : List (ℕ × List LinkSeen)) (ls xs : List (Sides LinkSeen)) (place : ℕ) → AreExactlyDrafted ways ls
    → TouchesOne place ls xs → IsSome (sides_at ls place).draft → IsSome (sides_at xs place).draft
    → AreExactlyDrafted ways xs
ready_still ways ls xs place r touched had has = record {
  drafted = drafted_still ways ls xs touched.kept.long (λ v s. elim (cases_eq v place) [
    | inl e ↦ subst (λ n. IsSome (sides_at xs n).draft) (sym e) has
    | inr n ↦ subst (λ (x : Sides LinkSeen). IsSome x.draft) (sym (touched.others v n)) s
  ]) r.drafted;
  no_others = λ v. elim (cases_eq v place) [
    | inl e ↦ elim (r.no_others v) [
      | inl q ↦ absurd (some_none _ (subst (λ n. IsSome (sides_at ls n).draft) (sym e) had) q)
      | inr q ↦ inr q
    ]
    | inr n ↦ elim (r.no_others v) [
      | inl q ↦ inl (ap (λ x. x.draft) (touched.others v n) ∙ q)
      | inr q ↦ inr q
    ]
  ];
}

-- drafts go, one after another
pub record Dropping (first : List (Sides LinkSeen)) (ways : List (ℕ × List LinkSeen)) (links : List (Sides LinkSeen)) (i : ℕ) : Type 0 where
  pub kept : KeepsLinks first links
  pub left : (v : ℕ) → ((sides_at links v).draft ≡ None) ⊎ IsNamed (drop i ways) v

pub begins_dropping : (first : List (Sides LinkSeen)) (ways : List (ℕ × List LinkSeen)) → AreExactlyDrafted ways first
    → Dropping first ways first 0
begins_dropping first ways r = record { kept = record { now = λ v. refl; long = refl }; left = r.no_others }

named_here : (ways : List (ℕ × List LinkSeen)) (i : ℕ) (w : ℕ × List LinkSeen) → i < length ways → IsNamed ways (get_or ways i w).0
named_here [] i w h = absurd (omega (arith, h))
named_here (x ∷ xs) zero w h = inl refl
named_here (x ∷ xs) (suc i) w h = inr (named_here xs i w (omega (arith, h)))

pub drops_within : (first : List (Sides LinkSeen)) (ways : List (ℕ × List LinkSeen)) (links : List (Sides LinkSeen)) (i : ℕ)
    (w : ℕ × List LinkSeen) → AreExactlyDrafted ways first
    → Dropping first ways links i → i < length ways → w ≡ get_or ways i w → w.0 < length links
drops_within first ways links i w r d h e =
    subst (λ n. w.0 < n) (sym d.kept.long)
    (subst (λ (x : ℕ × List LinkSeen). x.0 < length first) (sym e)
    (named_within ways first r.drafted (get_or ways i w).0 (named_here ways i w h)))

pub drops_on : (first : List (Sides LinkSeen)) (ways : List (ℕ × List LinkSeen)) (links later : List (Sides LinkSeen)) (i : ℕ)
    (w : ℕ × List LinkSeen)
    → Dropping first ways links i → i < length ways → w ≡ get_or ways i w → KeepsLinks links later
    → ((v : ℕ) → v ≢ w.0 → sides_at later v ≡ sides_at links v) → (sides_at later w.0).draft ≡ None → Dropping first ways later (i + 1)
drops_on first ways links later i w d h e kept others gone = record {
  kept = record { now = λ v. kept.now v ∙ d.kept.now v; long = kept.long ∙ d.kept.long };
  left = λ v. elim (cases_eq v w.0) [
    | inl q ↦ inl (ap (λ n. (sides_at later n).draft) q ∙ gone)
    | inr n ↦ elim (d.left v) [
      | inl q ↦ inl (ap (λ x. x.draft) (others v n) ∙ q)
      | inr q ↦ elim (subst (λ ws. IsNamed ws v) here q) [
        | inl p ↦ absurd (n (sym p))
        | inr p ↦ inr p
      ]
    ]
  ];
}
  where
    here : drop i ways ≡ w ∷ drop (i + 1) ways
    here = drop-cons ways i w h ∙ ap (λ x. x ∷ drop (suc i) ways) (sym e) ∙ ap (λ n. w ∷ drop n ways) (sym (add-one i))

pub drops_drafts : (first : List (Sides LinkSeen)) (ways : List (ℕ × List LinkSeen)) (links : List (Sides LinkSeen)) (i : ℕ)
    → Dropping first ways links i → length ways ≤ i
    → (v : ℕ) → (sides_at links v).draft ≡ None
drops_drafts first ways links i d h v = elim (d.left v) [
  | inl q ↦ q
  | inr q ↦ absurd (subst (λ ws. IsNamed ws v) (drop_all i ways h) q)
]

-- a list at a place changes its draft alone
set_keeps : (ls : List (Sides LinkSeen)) (place : ℕ) (s : Sides LinkSeen) → place < length ls → s.now ≡ (sides_at ls place).now
    → KeepsLinks ls (set ls place s)
set_keeps ls place s h e = record {
  now = λ v. elim (at_set ls place v s h) [
    | inl p ↦ ap (λ x. x.now) p.1 ∙ e ∙ ap (λ n. (sides_at ls n).now) p.0
    | inr p ↦ ap (λ x. x.now) p.1
  ];
  long = length-set ls place s;
}

set_others : (ls : List (Sides LinkSeen)) (place : ℕ) (s : Sides LinkSeen) → place < length ls → (v : ℕ) → v ≢ place
    → sides_at (set ls place s) v ≡ sides_at ls v
set_others ls place s h v n = elim (at_set ls place v s h) [
  | inl p ↦ absurd (n (sym p.0))
  | inr p ↦ p.1
]

set_there : (ls : List (Sides LinkSeen)) (place : ℕ) (s : Sides LinkSeen) → place < length ls → sides_at (set ls place s) place ≡ s
set_there ls place s h = elim (at_set ls place place s h) [
  | inl p ↦ p.1
  | inr p ↦ absurd (p.0 refl)
]

pub set_touches : (ls : List (Sides LinkSeen)) (place : ℕ) (s : Sides LinkSeen) → place < length ls → s.now ≡ (sides_at ls place).now
    → TouchesOne place ls (set ls place s)
set_touches ls place s h e = record { kept = set_keeps ls place s h e; others = set_others ls place s h }

pub set_ready : (ls : List (Sides LinkSeen)) (place : ℕ) (s : Sides LinkSeen) → place < length ls → s.now ≡ (sides_at ls place).now
    → IsSome (sides_at ls place).draft → IsSome s.draft → (ways : List (ℕ × List LinkSeen)) → AreExactlyDrafted ways ls
    → AreExactlyDrafted ways (set ls place s)
set_ready ls place s h e had has ways r =
    ready_still ways ls (set ls place s) place r (set_touches ls place s h e) had
    (subst (λ (x : Sides LinkSeen). IsSome x.draft) (sym (set_there ls place s h)) has)
