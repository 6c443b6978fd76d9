-- What renamings leave: the subscriptions that stand are those that stood, or of the session that is renamed; of the other sessions no more
-- stand than before.
use Rattle.std.proofs.Common.{◌≡◌, ◌≢◌, refl, sym, ◌∙◌, ap, ℕ, ◌≤◌, ◌==◌, Bool, false, not, List, [], ◌∷◌, length, Option, None, Some, arith, length-append}
use Rattle.std.proofs.lemmas.List.Elements.{filter-append}
use Rattle.std.specs.List.{AllByRecursion, filter}
use Rattle.std.specs.Option.{option_to_list}
use Rattle.std.specs.Ordering.{is_gt, is_lt}
use Rattle.std.specs.declared.cmp.Ordering.{Ordering}
use Rattle.ifmap_lemmas.specs.Filters.{all_filter, filter_fewer}
use Rattle.ifmap_lemmas.specs.Members.{both_all}
use Rattle.ifmap_lemmas.specs.Numbers.{is_other}
use Rattle.ifmap_lemmas.specs.Parted.{two_sides}
use Rattle.ifmap_subscribes.specs.ifmap_machine.State.{standing_in, standing_order}
use Rattle.ifmap_subscribes.specs.ifmap_machine.State as machine
use Rattle.ifmap_subscribes.specs.ifmap_machine.Subscribing.{Told, drop_name, is_of_name}
use Rattle.ifmap_subscribes.specs.ifmap_plans.Placing.{put}
use Rattle.ifmap_subscribes.specs.ifmap_standing.declared.standing.Standing.{Standing}
use Rattle.ifmap_subscribes.specs.ifmap_standing.Standing.{standing_of}
use Rattle.ifmap_subscribes.specs.declared.renamings.Renaming.{Renaming}
use Rattle.ifmap_subscribes.specs.Renamings.{IsOfSession, rename, rename_all, stand_where}

-- ---- lists

module _ {X : Type 0} where
  all_put : (P : X → Type 0) (order : X → X → Ordering) (x : X) (xs : List X) → P x → AllByRecursion P xs
      → AllByRecursion P (put order x xs)
  all_put P order x xs one all =
      both_all P (filter (λ y. is_lt (order y x)) xs) (x ∷ filter (λ y. is_gt (order y x)) xs)
      (all_filter P (λ y. is_lt (order y x)) xs all) (one, all_filter P (λ y. is_gt (order y x)) xs all)

  put_fewer : (p : X → Bool) (order : X → X → Ordering) (x : X) (xs : List X) → p x ≡ false
      → length (filter p (put order x xs)) ≤ length (filter p xs)
  put_fewer p order x xs other =
      let below : List X = filter (λ y. is_lt (order y x)) xs in
      let above : List X = filter (λ y. is_gt (order y x)) xs in
      let two = two_sides p order x xs in
      let joined = ap length (filter-append p below (x ∷ above)) in
      let sum = length-append (filter p below) (filter p (x ∷ above)) in
      let tail : length (filter p (x ∷ above)) ≡ length (filter p above) = rw other refl in
      omega (arith, two, joined, sum, tail)

-- ---- renamings

module _ (serial : ℕ) where
  -- what holds of all that stood, and of each subscription of the session
  pub all_renamed : (P : machine.Standing → Type 0) → ((x : Standing) → x.serial ≡ serial → P (standing_of x)) → (renamings : List Renaming)
      (t : Told) → AllByRecursion (IsOfSession serial) renamings → AllByRecursion P t.standing
      → AllByRecursion P (rename_all serial renamings t).standing
  all_renamed P own [] t of_it all = all
  all_renamed P own (r ∷ rs) t of_it all =
      all_renamed P own rs (rename serial r t) of_it.1 (one r.standing of_it.0)
    where
      dropped : List machine.Standing
      dropped = (drop_name serial r.name t).standing

      one : (o : Option Standing) → AllByRecursion (λ (x : Standing). (x.serial ≡ serial) × (x.name ≡ r.name)) (option_to_list o)
          → AllByRecursion P (stand_where o dropped)
      one None h = all_filter P (λ x. not (is_of_name serial r.name x)) t.standing all
      one (Some x) h =
          all_put P standing_order (standing_of x) dropped (own x h.0.0)
          (all_filter P (λ y. not (is_of_name serial r.name y)) t.standing all)

  -- of another session no more stand than before
  pub others_few : (n : ℕ) → serial ≢ n → (renamings : List Renaming) (t : Told) → AllByRecursion (IsOfSession serial) renamings
      → length (standing_in n (rename_all serial renamings t).standing) ≤ length (standing_in n t.standing)
  others_few n other [] t of_it = omega arith
  others_few n other (r ∷ rs) t of_it =
      let rest = others_few n other rs (rename serial r t) of_it.1 in
      let here = one r.standing of_it.0 in
      let less = filter_fewer (λ (y : machine.Standing). y.serial == n) (λ y. not (is_of_name serial r.name y)) t.standing in
      omega (arith, rest, here, less)
    where
      dropped : List machine.Standing
      dropped = (drop_name serial r.name t).standing

      one : (o : Option Standing) → AllByRecursion (λ (x : Standing). (x.serial ≡ serial) × (x.name ≡ r.name)) (option_to_list o)
          → length (standing_in n (stand_where o dropped)) ≤ length (standing_in n dropped)
      one None h = omega arith
      one (Some x) h =
          put_fewer (λ (y : machine.Standing). y.serial == n) standing_order (standing_of x) dropped
          (is_other x.serial n (λ e. other (sym h.0.0 ∙ e)))
