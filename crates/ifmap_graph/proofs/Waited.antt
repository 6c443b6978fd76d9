-- What is waited for, when one item is waited for more or less.
use Rattle.std.proofs.Common.{◌≡◌, ℕ, ◌+◌, ◌-◌, ◌<◌, true, false, List, [], ◌∷◌, ◌++◌, ap, inl, inr, arith}
use Rattle.std.proofs.lemmas.Bool.{cases_Bool}
use Rattle.std.proofs.lemmas.Cmp.{tied_itself}
use Rattle.std.specs.BTreeMap.{is_at}
use Rattle.std.specs.Ordering.{is_eq}
use Rattle.ifmap_ident.specs.declared.items.Item.{Item}
use Rattle.ifmap_ident.specs.Items.{item_order}
use Rattle.ifmap_graph.specs.Waits.{times_in}
use Rattle.ifmap_ident.specs.SameLaws.{items_total}

module _ (old new : Item → ℕ) (item : Item) (before after : ℕ)
    (had : (x : Item) → is_at (item_order item) x ≡ true → old x ≡ before) (has : (x : Item) → is_at (item_order item) x ≡ true
    → new x ≡ after)
    (others : (x : Item) → is_at (item_order item) x ≡ false → new x ≡ old x) where
  pub waits_one_more : after ≡ before + 1 → (x : Item) → new x ≡ times_in (item ∷ []) x + old x
  waits_one_more more x = elim (cases_Bool (is_at (item_order item) x)) [
    | inl t ↦ rw t (omega (arith, had x t, has x t, more))
    | inr t ↦ rw t (omega (arith, others x t))
  ]

  pub waits_one_less : 0 < before → after ≡ before - 1 → (x : Item) → old x ≡ times_in (item ∷ []) x + new x
  waits_one_less some less x = elim (cases_Bool (is_at (item_order item) x)) [
    | inl t ↦ rw t (omega (arith, had x t, has x t, less, some))
    | inr t ↦ rw t (omega (arith, others x t))
  ]

pub times_append : (xs ys : List Item) (x : Item) → times_in (xs ++ ys) x ≡ times_in xs x + times_in ys x
times_append [] ys x = omega arith
times_append (i ∷ is) ys x = omega (arith, times_append is ys x)

-- an item that comes first is there
pub one_time : (item : Item) (rest : List Item) → 0 < times_in (item ∷ rest) item
one_time item rest =
    let t : is_at (item_order item) item ≡ true = ap is_eq (tied_itself items_total item)
    in rw t (omega arith)
