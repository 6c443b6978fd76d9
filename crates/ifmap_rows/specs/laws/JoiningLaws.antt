-- What a list has after rows came to it one after the other.
use Rattle.std.proofs.Common.{◌≡◌, ◌⊎◌, ◌∙◌, refl, ap, subst, inl, inr, Bool, true, false, not, List, [], ◌∷◌}
use Rattle.std.proofs.lemmas.Bool.{not-true, or_from, or_parts}
use Rattle.std.specs.List.{AllByRecursion, list_any}
use Rattle.std.specs.List.Sorted.{IsStrictlySortedBy}
use Rattle.std.specs.Ordering.{eq_by_cmp, is_eq, ordering_reverse}
use Rattle.std.specs.declared.cmp.Ordering.TheVariants.{Less}
use Rattle.ifmap_lemmas.specs.Having.{Has, filter_has, has_filter}
use Rattle.ifmap_meta.specs.declared.stored.Stored.{Stored}
use Rattle.ifmap_plans.specs.Lists.{is_among, list_without, put_each}
use Rattle.ifmap_plans.specs.Placing.{put}
use Rattle.ifmap_plans.specs.laws.KeyLaws.{stored_total}
use Rattle.ifmap_plans.specs.laws.PlacingLaws.{has_put, has_put_one, put_has, put_sorted}
use Rattle.ifmap_plans.specs.ifmap_view.Attachments.{stored_order}

-- ---- what a list has after rows came to it one after the other

-- none of its canonical bytes is among these
abbrev pub is_not_among : List Stored → Stored → Bool
is_not_among added s = not (is_among added s)

none_among : (a : Stored) (adds : List Stored) → AllByRecursion (λ y. stored_order a y ≡ Less) adds → is_not_among adds a ≡ true
none_among a [] h = refl
none_among a (b ∷ bs) h =
    let more : is_eq (stored_order b a) ≡ false = ap is_eq (stored_total.antisymm b a ∙ ap ordering_reverse h.0) in
    ap not (or_from (eq_by_cmp stored_order b a) (list_any (λ r. eq_by_cmp stored_order r a) bs) more
    (not-true (list_any (λ r. eq_by_cmp stored_order r a) bs) (none_among a bs h.1)))

pub in_each : (added rows : List Stored) (s : Stored) → IsStrictlySortedBy stored_order added
    → Has added s ⊎ Has (list_without added rows) s
    → Has (put_each added rows) s
unfolding IsStrictlySortedBy
in_each [] rows s up (inl h) = absurd h
in_each [] rows s up (inr h) = (filter_has (is_not_among []) rows s h).0
in_each (a ∷ adds) rows s up (inl (inl e)) =
    let there : Has (list_without adds (put stored_order a rows)) a = has_filter (is_not_among adds) (put stored_order a rows) a
    (has_put_one Stored stored_order stored_total a rows) (none_among a adds up.0) in
    in_each adds (put stored_order a rows) s up.1 (inr (subst (Has (list_without adds (put stored_order a rows))) e there))
in_each (a ∷ adds) rows s up (inl (inr h)) = in_each adds (put stored_order a rows) s up.1 (inl h)
in_each (a ∷ adds) rows s up (inr h) =
    let p = filter_has (is_not_among (a ∷ adds)) rows s h in
    let both = or_parts (eq_by_cmp stored_order a s) (list_any (λ r. eq_by_cmp stored_order r s) adds)
    (not-true (list_any (λ r. eq_by_cmp stored_order r s) (a ∷ adds)) p.1) in
    in_each adds (put stored_order a rows) s up.1 (inr (has_filter (is_not_among adds) (put stored_order a rows) s
    (has_put Stored stored_order stored_total a rows s p.0 both.0) (ap not both.1)))

pub each_in : (added rows : List Stored) (s : Stored) → Has (put_each added rows) s → Has added s ⊎ Has (list_without added rows) s
each_in [] rows s h = inr (has_filter (is_not_among []) rows s h refl)
each_in (a ∷ adds) rows s h = elim (each_in adds (put stored_order a rows) s h) [
  | inl k ↦ inl (inr k)
  | inr k ↦
      let p = filter_has (is_not_among adds) (put stored_order a rows) s k in
      elim (put_has Stored stored_order stored_total a rows s p.0) [
        | inl e ↦ inl (inl e)
        | inr q ↦
            let none = not-true (list_any (λ r. eq_by_cmp stored_order r s) adds) p.1 in
            inr (has_filter (is_not_among (a ∷ adds)) rows s q.0
            (ap not (or_from (eq_by_cmp stored_order a s) (list_any (λ r. eq_by_cmp stored_order r s) adds) q.1 none)))
      ]
]

pub rising_each : (added rows : List Stored) → IsStrictlySortedBy stored_order rows → IsStrictlySortedBy stored_order (put_each added rows)
rising_each [] rows up = up
rising_each (a ∷ adds) rows up = rising_each adds (put stored_order a rows) (put_sorted Stored stored_order stored_total a rows up)
