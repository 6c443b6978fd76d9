-- Lists of which no two members have one key: what a filter leaves of one, one with a member more, and what another of a key tells.
use Rattle.std.proofs.Common.{◌≡◌, sym, ◌∙◌, Bool, true, false, cond, List, [], ◌∷◌, ◌++◌, map, None}
use Rattle.std.specs.Cmp.{IsEquivalence}
use Rattle.std.specs.List.{AllByRecursion, IsDistinct, filter, find}
use Rattle.ifmap_lemmas.specs.Filters.{all_filter}
use Rattle.ifmap_lemmas.specs.Finding.{none_passes}
use Rattle.ifmap_lemmas.specs.Found.{find_none}
use Rattle.ifmap_lemmas.specs.Members.{all_last, all_of_map, map_of_all}

module _ {X K : Type 0} (E : K → K → Bool) (key : X → K) where
  filter_keys : (P : K → Type 0) (p : X → Bool) (xs : List X) → AllByRecursion P (map key xs) → AllByRecursion P (map key (filter p xs))
  filter_keys P p xs h = map_of_all P key (filter p xs) (all_filter (λ x. P (key x)) p xs (all_of_map P key xs h))

  pub keys_filter : (p : X → Bool) (xs : List X) → IsDistinct E (map key xs) → IsDistinct E (map key (filter p xs))
  unfolding IsDistinct
  keys_filter p [] h = tt
  keys_filter p (x ∷ xs) h =
      elim (p x) as (λ b. IsDistinct E (map key (cond b (x ∷ filter p xs) (filter p xs)))) [
        | true ↦ (filter_keys (λ k. E (key x) k ≡ false) p xs h.0, keys_filter p xs h.1)
        | false ↦ keys_filter p xs h.1
      ]

  push_keys : (P : K → Type 0) (xs : List X) (y : X) → AllByRecursion P (map key xs) → P (key y) → AllByRecursion P (map key (xs ++ y ∷ []))
  push_keys P xs y h k = map_of_all P key (xs ++ y ∷ []) (all_last (λ x. P (key x)) xs y (all_of_map P key xs h) k)

  pub keys_push : (xs : List X) (y : X) → IsDistinct E (map key xs) → find (λ x. E (key x) (key y)) xs ≡ None
      → IsDistinct E (map key (xs ++ y ∷ []))
  unfolding IsDistinct
  keys_push [] y h e = (tt, tt)
  keys_push (x ∷ xs) y h e =
      let none : AllByRecursion (λ z. E (key z) (key y) ≡ false) (x ∷ xs) = none_passes (λ z. E (key z) (key y)) (x ∷ xs) e in
      (push_keys (λ k. E (key x) k ≡ false) xs y h.0 none.0, keys_push xs y h.1 (find_none (λ z. E (key z) (key y)) xs none.1))

  -- none of those that follow has the key of the one before them
  pub rest_differ : IsEquivalence E → (x : X) (k : K) (xs : List X) → AllByRecursion (λ j. E (key x) j ≡ false) (map key xs)
      → E (key x) k ≡ true → AllByRecursion (λ z. E (key z) k ≡ false) xs
  rest_differ same x k [] h e = tt
  rest_differ same x k (z ∷ zs) h e =
      (same.symm (key z) k ∙ sym (same.congr (key x) k (key z) e) ∙ h.0, rest_differ same x k zs h.1 e)
