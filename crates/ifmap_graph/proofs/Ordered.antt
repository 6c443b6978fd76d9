-- The order of items, as entries of a map meet it.
use Rattle.std.proofs.Common.{◌≡◌, List, [], ◌∷◌, ◌∙◌}
use Rattle.std.specs.List.{AllByRecursion}
use Rattle.std.specs.declared.cmp.Ordering.TheVariants.{Less, Equal}
use Rattle.ifmap_ident.specs.declared.items.Item.{Item}
use Rattle.ifmap_ident.specs.Items.{item_order}
use Rattle.ifmap_ident.specs.SameLaws.{items_total}

-- what is above an item is above those that tie with it
pub above_tied : (i k : Item) (ys : List Item) → item_order i k ≡ Equal → AllByRecursion (λ y. item_order k y ≡ Less) ys
    → AllByRecursion (λ y. item_order i y ≡ Less) ys
above_tied i k [] e a = tt
above_tied i k (y ∷ ys) e a = (items_total.congr i k y e ∙ a.0, above_tied i k ys e a.1)
