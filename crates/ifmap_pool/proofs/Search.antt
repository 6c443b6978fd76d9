-- The search by halving.
use Rattle.std.proofs.Common.{◌≡◌, ℕ, ◌+◌, ◌<◌, List, length, get_or, Option, Some, Ordering, sym, ap, ◌∙◌, inl, inr, arith}
use Rattle.std.proofs.lemmas.Bool.{cases_eq}
use Rattle.std.proofs.lemmas.Option.{same_Some}
use Rattle.std.specs.Cmp.{IsTotalOrder}
use Rattle.std.specs.declared.cmp.Ordering.TheVariants.{Less, Greater}
use Rattle.ifmap_lemmas.specs.Orderings.{greater_reversed, less_reversed}
use Rattle.ifmap_pool.specs.Index.{AllBelow, AllAbove, IsKeyIndex}
use Rattle.ifmap_pool.specs.declared.slots.HeldKey.{HeldKey}

module _ {K : Type 0} {cmp : K → K → Ordering} (total : IsTotalOrder cmp) where
  module _ (slot : ℕ → Option (HeldKey K)) (order : List ℕ) (indexed : IsKeyIndex cmp slot order) (key : K) (middle : ℕ) (found : HeldKey K)
    where
      -- the key at the middle is below: so is each in front of it
      pub AllBelow-next : middle < length order → slot (get_or order middle 0) ≡ Some found → cmp found.key key ≡ Less
          → AllBelow cmp slot order key (middle + 1)
      AllBelow-next within is less k held before at_k =
          elim (cases_eq k middle) [
            | inl same ↦
                let one : held ≡ found = same_Some _ _ (sym at_k ∙ ap (λ i. slot (get_or order i 0)) same ∙ is) in
                ap (λ h. cmp h.key key) one ∙ less
            | inr differs ↦ total.trans _ _ _ (indexed.rising k middle held found (omega arith) within at_k is) less
          ]

      -- the key at the middle is above: so is each past it
      pub AllAbove-next : slot (get_or order middle 0) ≡ Some found → cmp found.key key ≡ Greater → AllAbove cmp slot order key middle
      AllAbove-next is greater k held from within at_k =
          elim (cases_eq k middle) [
            | inl same ↦
                let one : held ≡ found = same_Some _ _ (sym at_k ∙ ap (λ i. slot (get_or order i 0)) same ∙ is) in
                ap (λ h. cmp h.key key) one ∙ greater
            | inr differs ↦
                less_reversed total key held.key (total.trans _ _ _ (greater_reversed total _ _ greater) (indexed.rising middle k found held
                (omega arith) within is at_k))
          ]
