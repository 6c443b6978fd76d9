-- One member more put into a list in order.
use Rattle.std.proofs.Common.{◌≡◌, ◌≢◌, ◌∙◌, ap, ◌+◌, Bool, true, false, ◌||◌, cond, List, ◌∷◌, length, inl, inr, arith, length-append}
use Rattle.std.proofs.lemmas.Bool.{cases_Bool, or_left, or_right}
use Rattle.std.proofs.lemmas.List.Elements.{filter-append}
use Rattle.std.proofs.lemmas.List.Folds.{list_any-append}
use Rattle.std.specs.List.{AllByRecursion, filter, list_any}
use Rattle.std.specs.declared.cmp.Ordering.{Ordering}
use Rattle.std.specs.declared.cmp.Ordering.TheVariants.{Equal}
use Rattle.ifmap_lemmas.specs.Parted.{above, any_sides, below, length_sides}
use Rattle.ifmap_changes.specs.ifmap_plans.Placing.{put}

-- one member more is put in beside all that are not equal to it
module _ {X : Type 0} (order : X → X → Ordering) (a : X) where
  pub length_put : (p : X → Bool) (xs : List X) → AllByRecursion (λ y. order y a ≢ Equal) xs
      → length (filter p (put order a xs)) ≡ length (filter p xs) + cond (p a) 1 0
  length_put p xs h =
      let sides = length_sides order a p xs h in
      let whole = ap length (filter-append p (below order a xs) (a ∷ above order a xs))
      ∙ length-append (filter p (below order a xs)) (filter p (a ∷ above order a xs)) in
      elim (cases_Bool (p a)) [
        | inl hit ↦ rw hit (omega (arith, sides, rw hit at whole))
        | inr miss ↦ rw miss (omega (arith, sides, rw miss at whole))
      ]

  -- one that passes is among those that are put in
  pub any_put : (p : X → Bool) (xs : List X) → p a ≡ true → list_any p (put order a xs) ≡ true
  any_put p xs hit =
      list_any-append p (below order a xs) (a ∷ above order a xs)
      ∙ or_right (list_any p (below order a xs)) (p a || list_any p (above order a xs)) (or_left (p a) _ hit)

  -- and one that does not leaves whether some do
  pub any_put_other : (p : X → Bool) (xs : List X) → p a ≡ false → ((y : X) → p y ≡ true → order y a ≢ Equal)
      → list_any p (put order a xs) ≡ list_any p xs
  any_put_other p xs miss h =
      list_any-append p (below order a xs) (a ∷ above order a xs)
      ∙ ap (λ b. list_any p (below order a xs) || (b || list_any p (above order a xs))) miss
      ∙ any_sides order a p xs h
