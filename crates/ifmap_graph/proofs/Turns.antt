-- Drafts come to be the lists, and the lists come again.
use Rattle.std.proofs.Common.{◌≡◌, ◌⊎◌, ℕ, ◌<◌, ◌≤◌, None, List, [], ◌∷◌, IsSome, length, set, refl, ap, ◌∙◌, sym, subst, inl, inr, unwrap_or, arith}
use Rattle.std.proofs.lemmas.Bool.{cases_eq}
use Rattle.std.proofs.lemmas.List.{get_or-set_same, get_or-set_other, length-set}
use Rattle.ifmap_graph.specs.Sides.{Sides, list_next}
use Rattle.ifmap_graph.specs.Turning.{sides_at, no_list, accepted_sides, restored_sides, accept_each, restore_each, backs, AreDrafted, AreWithin, IsNamed, NoOthers}

module _ {T : Type 0} where
  -- what a place has after one was set
  pub at_set : (ls : List (Sides T)) (i v : ℕ) (s : Sides T) → i < length ls → ((i ≡ v) × (sides_at (set ls i s) v ≡ s)) ⊎
      ((i ≡ v → ⊥) × (sides_at (set ls i s) v ≡ sides_at ls v))
  at_set ls i v s h = elim (cases_eq i v) [
    | inl e ↦ inl (e, ap (λ n. sides_at (set ls i s) n) (sym e) ∙ get_or-set_same ls i s no_list h)
    | inr n ↦ inr (n, get_or-set_other ls i v s no_list (λ e. n (sym e)))
  ]

  pub next_same : (ws : List (ℕ × List T)) (ls : List (Sides T)) (v : ℕ) → AreDrafted ws ls
      → list_next (sides_at (accept_each ws ls) v) ≡ list_next
      (sides_at ls v)
  next_same [] ls v d = refl
  next_same (w ∷ ws) ls v d = next_same ws (set ls w.0 (accepted_sides (sides_at ls w.0))) v d.2
      ∙ elim (at_set ls w.0 v (accepted_sides (sides_at ls w.0)) d.0) [
        | inl e ↦ ap list_next e.1 ∙ ap (λ n. list_next (sides_at ls n)) e.0
        | inr n ↦ ap list_next n.1
      ]

  -- a place with no draft has none afterwards, and so has each that is named
  pub stays_bare : (ws : List (ℕ × List T)) (ls : List (Sides T)) (v : ℕ) → AreDrafted ws ls → (sides_at ls v).draft ≡ None
      → (sides_at (accept_each ws ls) v).draft ≡ None
  stays_bare [] ls v d e = e
  stays_bare (w ∷ ws) ls v d e = stays_bare ws (set ls w.0 (accepted_sides (sides_at ls w.0))) v d.2
      (elim (at_set ls w.0 v (accepted_sides (sides_at ls w.0)) d.0) [
        | inl p ↦ ap (λ s. s.draft) p.1
        | inr p ↦ ap (λ s. s.draft) p.1 ∙ e
      ])

  pub named_bare : (ws : List (ℕ × List T)) (ls : List (Sides T)) (v : ℕ) → AreDrafted ws ls → IsNamed ws v
      → (sides_at (accept_each ws ls) v).draft ≡ None
  named_bare [] ls v d n = absurd n
  named_bare (w ∷ ws) ls v d (inl e) = stays_bare ws (set ls w.0 (accepted_sides (sides_at ls w.0))) v d.2
      (elim (at_set ls w.0 v (accepted_sides (sides_at ls w.0)) d.0) [
        | inl p ↦ ap (λ s. s.draft) p.1
        | inr p ↦ absurd (p.0 e)
      ])
  named_bare (w ∷ ws) ls v d (inr n) = named_bare ws (set ls w.0 (accepted_sides (sides_at ls w.0))) v d.2 n

  -- where drafts stand at these places alone, none is left
  pub none_drafted : (ws : List (ℕ × List T)) (ls : List (Sides T)) (v : ℕ) → AreDrafted ws ls → NoOthers ws ls
      → (sides_at (accept_each ws ls) v).draft ≡ None
  none_drafted ws ls v d n = elim (n v) [ inl e ↦ stays_bare ws ls v d e | inr i ↦ named_bare ws ls v d i ]

  pub next_of_bare : (s : Sides T) → s.draft ≡ None → s.now ≡ list_next s
  next_of_bare s e = sym (ap (λ o. unwrap_or o s.now) e)

  -- where drafts stand at these places alone, each list is afterwards what was to come
  pub accepted_all : (ws : List (ℕ × List T)) (ls : List (Sides T)) (v : ℕ) → AreDrafted ws ls → NoOthers ws ls
      → (sides_at (accept_each ws ls) v).now ≡ list_next (sides_at ls v)
  accepted_all ws ls v d n =
      next_of_bare (sides_at (accept_each ws ls) v) (none_drafted ws ls v d n)
      ∙ next_same ws ls v d

  -- a place without a draft is not named
  pub not_named : (ws : List (ℕ × List T)) (ls : List (Sides T)) (v : ℕ) → AreDrafted ws ls → (sides_at ls v).draft ≡ None → IsNamed ws v
      → ⊥
  not_named [] ls v d e n = n
  not_named (w ∷ ws) ls v d e (inl p) = let q : IsSome {T = List T} None = subst (λ o. IsSome o) (ap (λ n. (sides_at ls n).draft) p ∙ e)
      d.1 in cc
  not_named (w ∷ ws) ls v d e (inr n) = not_named ws (set ls w.0 (accepted_sides (sides_at ls w.0))) v d.2
      (elim (at_set ls w.0 v (accepted_sides (sides_at ls w.0)) d.0) [
        | inl p ↦ ap (λ s. s.draft) p.1
        | inr p ↦ ap (λ s. s.draft) p.1 ∙ e
      ]) n

  -- what the ways back bring: the old list at a named place, and no change elsewhere
  pub brings_back : (ws : List (ℕ × List T)) (ls xs : List (Sides T)) (v : ℕ) → AreDrafted ws ls → length xs ≡ length ls
      → (IsNamed ws v × ((sides_at (restore_each (backs ws ls) xs) v).now ≡ (sides_at ls v).now)) ⊎ ((IsNamed ws v → ⊥)
      × (sides_at (restore_each (backs ws ls) xs) v ≡ sides_at xs v))
  brings_back [] ls xs v d e = inr ((λ n. n), refl)
  brings_back (w ∷ ws) ls xs v d e = elim (brings_back ws ls1 xs1 v d.2 lengths) [
    | inl p ↦ elim step-ls [
      | inl q ↦ absurd (not_named ws ls1 v d.2 (ap (λ s. s.draft) q.1) p.0)
      | inr q ↦ inl (inr p.0, p.1 ∙ ap (λ s. s.now) q.1)
    ]
    | inr p ↦ elim step-xs [
      | inl q ↦ inl (inl q.0, ap (λ s. s.now) (p.1 ∙ q.1) ∙ ap (λ n. (sides_at ls n).now) q.0)
      | inr q ↦ inr ((λ n. elim n [ inl a ↦ q.0 a | inr b ↦ p.0 b ]), p.1 ∙ q.1)
    ]
  ]
    where
      ls1 : List (Sides T)
      ls1 = set ls w.0 (accepted_sides (sides_at ls w.0))

      xs1 : List (Sides T)
      xs1 = set xs w.0 (restored_sides (sides_at xs w.0) (sides_at ls w.0).now)

      lengths : length xs1 ≡ length ls1
      lengths = length-set xs w.0 (restored_sides (sides_at xs w.0) (sides_at ls w.0).now) ∙ e
          ∙ sym (length-set ls w.0 (accepted_sides (sides_at ls w.0)))

      step-ls : ((w.0 ≡ v) × (sides_at ls1 v ≡ accepted_sides (sides_at ls w.0))) ⊎ ((w.0 ≡ v → ⊥) × (sides_at ls1 v ≡ sides_at ls v))
      step-ls = at_set ls w.0 v (accepted_sides (sides_at ls w.0)) d.0

      step-xs : ((w.0 ≡ v) × (sides_at xs1 v ≡ restored_sides (sides_at xs w.0) (sides_at ls w.0).now)) ⊎
          ((w.0 ≡ v → ⊥) × (sides_at xs1 v ≡ sides_at xs v))
      step-xs = at_set xs w.0 v (restored_sides (sides_at xs w.0) (sides_at ls w.0).now) (subst (λ n. w.0 < n) (sym e) d.0)

  pub same_length : (ws : List (ℕ × List T)) (ls : List (Sides T)) → length (accept_each ws ls) ≡ length ls
  same_length [] ls = refl
  same_length (w ∷ ws) ls = same_length ws (set ls w.0 (accepted_sides (sides_at ls w.0)))
      ∙ length-set ls w.0 (accepted_sides (sides_at ls w.0))

  pub gone_again : (ws : List (ℕ × List T)) (ls : List (Sides T)) (v : ℕ) → AreDrafted ws ls → NoOthers ws ls
      → (sides_at (restore_each (backs ws ls) (accept_each ws ls)) v).now ≡ (sides_at ls v).now
  gone_again ws ls v d n = elim (brings_back ws ls (accept_each ws ls) v d (same_length ws ls)) [
    | inl p ↦ p.1
    | inr p ↦ ap (λ s. s.now) p.1 ∙ accepted_all ws ls v d n ∙ elim (n v) [
      | inl e ↦ sym (next_of_bare (sides_at ls v) e)
      | inr i ↦ absurd (p.0 i)
    ]
  ]

  -- lists that stand again, on lists that are alike
  pub still_within : (ws : List (ℕ × List T)) (n m : ℕ) → n ≤ m → AreWithin ws n → AreWithin ws m
  still_within [] n m h a = tt
  still_within (w ∷ ws) n m h a = (omega (arith, h, a.0), still_within ws n m h a.1)

  pub restored_length : (ws : List (ℕ × List T)) (ls : List (Sides T)) → length (restore_each ws ls) ≡ length ls
  restored_length [] ls = refl
  restored_length (w ∷ ws) ls =
      restored_length ws (set ls w.0 (restored_sides (sides_at ls w.0) w.1)) ∙ length-set ls w.0 (restored_sides (sides_at ls w.0) w.1)

  pub restored_drafts : (ws : List (ℕ × List T)) (ls : List (Sides T)) (v : ℕ) → AreWithin ws (length ls)
      → (sides_at (restore_each ws ls) v).draft ≡ (sides_at ls v).draft
  restored_drafts [] ls v a = refl
  restored_drafts (w ∷ ws) ls v a =
      restored_drafts ws (set ls w.0 (restored_sides (sides_at ls w.0) w.1)) v
      (still_within ws (length ls) (length (set ls w.0 (restored_sides (sides_at ls w.0) w.1)))
      (omega (arith, length-set ls w.0 (restored_sides (sides_at ls w.0) w.1))) a.1)
      ∙ elim (at_set ls w.0 v (restored_sides (sides_at ls w.0) w.1) a.0) [
        | inl e ↦ ap (λ s. s.draft) e.1 ∙ ap (λ n. (sides_at ls n).draft) e.0
        | inr n ↦ ap (λ s. s.draft) n.1
      ]

  pub restored_alike : (ws : List (ℕ × List T)) (ls ms : List (Sides T)) → ((v : ℕ) → (sides_at ms v).now ≡ (sides_at ls v).now)
      → length ls ≤ length ms
      → (v : ℕ) → AreWithin ws (length ls) → (sides_at (restore_each ws ms) v).now ≡ (sides_at (restore_each ws ls) v).now
  restored_alike [] ls ms f h v a = f v
  restored_alike (w ∷ ws) ls ms f h v a =
      restored_alike ws ls1 ms1 alike (omega (
        arith,
        h,
        length-set ls w.0 (restored_sides (sides_at ls w.0) w.1),
        length-set ms w.0
            (restored_sides (sides_at ms w.0) w.1),
      )) v
      (still_within ws (length ls) (length ls1) (omega (arith, length-set ls w.0 (restored_sides (sides_at ls w.0) w.1))) a.1)
    where
      ls1 : List (Sides T)
      ls1 = set ls w.0 (restored_sides (sides_at ls w.0) w.1)

      ms1 : List (Sides T)
      ms1 = set ms w.0 (restored_sides (sides_at ms w.0) w.1)

      alike : (u : ℕ) → (sides_at ms1 u).now ≡ (sides_at ls1 u).now
      alike u = elim (at_set ls w.0 u (restored_sides (sides_at ls w.0) w.1) a.0) [
        | inl e ↦ elim (at_set ms w.0 u (restored_sides (sides_at ms w.0) w.1) (omega (arith, h, a.0))) [
          | inl d ↦ ap (λ s. s.now) d.1 ∙ sym (ap (λ s. s.now) e.1)
          | inr n ↦ absurd (n.0 e.0)
        ]
        | inr n ↦ elim (at_set ms w.0 u (restored_sides (sides_at ms w.0) w.1) (omega (arith, h, a.0))) [
          | inl d ↦ absurd (n.0 d.0)
          | inr m ↦ ap (λ s. s.now) m.1 ∙ f u ∙ sym (ap (λ s. s.now) n.1)
        ]
      ]

  -- the lists that were are at places that there are
  pub backs_within : (ws : List (ℕ × List T)) (ls : List (Sides T)) → AreDrafted ws ls → AreWithin (backs ws ls) (length ls)
  backs_within [] ls d = tt
  backs_within (w ∷ ws) ls d = (
    d.0,
    subst (λ n. AreWithin (backs ws (set ls w.0 (accepted_sides (sides_at ls w.0)))) n)
        (length-set ls w.0 (accepted_sides (sides_at ls w.0)))
        (backs_within ws (set ls w.0 (accepted_sides (sides_at ls w.0))) d.2),
  )
